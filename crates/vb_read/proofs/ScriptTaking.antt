-- The reader of units takes whatever the grammar spells.
use Rattle.std.proofs.Common.{◌≡◌, ℕ, inl, inr, Bool, true, false, cond, List, [], ◌∷◌, ◌++◌, Option, Some, None, Ok}
use Rattle.std.proofs.Common.{Err, refl, sym, ap, ◌∙◌, append_assoc}
use Rattle.vb_value.specs.declared.token.Keyword.TheVariants as k
use Rattle.vb_value.specs.declared.token.Token.{Token}
use Rattle.vb_value.specs.declared.token.TokenKind.{TokenKind}
use Rattle.vb_value.specs.declared.token.TokenKind.TheVariants as kind
use Rattle.vb_syntax.specs.declared.statement.Statement.{Statement}
use Rattle.vb_syntax.specs.declared.unit.Item.{Item}
use Rattle.vb_syntax.specs.declared.unit.Item.TheVariants as item
use Rattle.vb_syntax.specs.declared.unit.Unit.{Unit as Script}
use Rattle.vb_syntax.specs.grammar.Rules.{Tokens, Rule}
use Rattle.vb_syntax.specs.grammar.Rules as rule
use Rattle.vb_syntax.specs.grammar.Words.{tag}
use Rattle.vb_syntax.specs.grammar.SimpleStatements.{Looser}
use Rattle.vb_syntax.specs.grammar.Statements as statements
use Rattle.vb_syntax.specs.grammar.Statements.{passed_texts}
use Rattle.vb_syntax.specs.grammar.Units as grammar
use Rattle.vb_read.specs.Reader.{Outcome, Reader, and_then, one_by, next, sees, passes, is_some}
use Rattle.vb_read.specs.Reader as reader
use Rattle.vb_read.specs.ReadLines as lines
use Rattle.vb_read.specs.ReadUnits as spec
use Rattle.vb_read.proofs.Reading.{many_step, more_with}
use Rattle.vb_read.proofs.Taking.{Takes, takes_pure, only}
use Rattle.vb_read.proofs.Beginning.{HeadIn}
use Rattle.vb_read.proofs.Binding.{Within, within_then, bind_wider, bind_right, pure_out, or_out}
use Rattle.vb_read.proofs.Tags.{among}
use Rattle.vb_read.proofs.Following.{Before, Leads, leads_begins, leads_bind, leads_many, leads_or, leads_pure}
use Rattle.vb_read.proofs.Following.{begins_then, begins_word_then, asks_kind, asks_no, starts, skips, starts_one}
use Rattle.vb_read.proofs.Following.{begins_only, passes_no}
use Rattle.vb_read.proofs.Choosing.{takes_on, takes_off, takes_on_word, takes_or, takes_within, takes_word}
use Rattle.vb_read.proofs.Choosing.{takes_then, takes_map, takes_each}
use Rattle.vb_read.proofs.EndTaking.{asks_breaks, takes_end, begins_end, leads_texts}
use Rattle.vb_read.proofs.BlankTexts.{text_head, blank_only, blank_is_text, blank_line, blank_statement, as_items}
use Rattle.vb_read.proofs.BlankTexts.{explicit_word, explicit_open, explicit_closed}
use Rattle.vb_read.proofs.UnitReading.{items_of, items_behind, moves_blank_item}
use Rattle.vb_read.proofs.UnitTaking.{item_heads, begins_item_line, takes_item_line, takes_items}

module _ (looser : Looser) (depth : ℕ) where
  -- ---- units

  leads_items : (explicit : Bool) → Leads item_heads (items_of looser depth explicit) (Before [])
  leads_items explicit = leads_bind (leads_many (begins_item_line looser depth)) (λ items. leads_pure)

  -- ---- before "Option" "Explicit"

  abbrev option_head : List ℕ
  option_head = tag (kind.Keyword k.Option) ∷ []

  -- what is read behind the first end
  abbrev behind : Reader Script
  behind = reader.◌>>=◌ spec.blank_items (λ first. reader.◌>>=◌ (spec.option_explicit looser)
      (λ explicit. reader.◌>>=◌ (spec.items looser depth) (λ found. reader.pure (record {
        option_explicit = explicit;
        items = spec.kept explicit first ++ found;
      }))))

  takes_blanks : Takes spec.blank_items (rule.many blank_line) (Before option_head)
  takes_blanks = takes_each (passes spec.blank_at) (begins_then (begins_only blank_only)) starts_one
      (passes_no blank_only refl) (takes_word (λ found. takes_map (λ _. item.Statement (blank_statement found))
      (takes_end {v = text_head ++ option_head} refl)))

  takes_option : Takes (spec.option_explicit looser) explicit_word (Before item_heads)
  takes_option = takes_on_word (kind.Keyword k.Option) _ (takes_word (λ _. takes_word (λ _. takes_then (takes_end refl)
      (λ _. takes_pure true _) (λ _. leads_pure))))

  -- blank texts and "Option" "Explicit" before the items
  takes_explicit : Takes behind (rule.◌>>=◌ (rule.◌>>◌ (passed_texts false) explicit_word) (items_of looser depth))
      (Before [])
  takes_explicit = takes_within (within_then bind_right (within_then (bind_wider (λ _. explicit_open)) (within_then
      as_items (bind_wider (λ first. explicit_closed {s = items_behind looser depth first})))))
      (takes_then takes_blanks (λ first. takes_then {l = item_heads} takes_option
      (λ explicit. takes_map _ (takes_items looser depth))
      (λ explicit. leads_bind (leads_many (begins_item_line looser depth)) (λ items. leads_pure)))
      (λ first. leads_begins (begins_then (begins_word_then (kind.Keyword k.Option)))))

  -- ---- blank texts as the first items

  -- a statement and its end, as an item
  ended : (o : Outcome (Unit {0})) (found : Statement)
      → and_then (and_then o (λ _. reader.pure found)) (λ one. reader.pure (item.Statement one))
      ≡ and_then o (λ _. reader.pure (item.Statement found))
  ended (Ok read) found = refl
  ended (Err left) found = refl

  -- the reader of an item reads a blank text as the reader of blank texts does
  blank_reads : (kind : TokenKind) (line start end : ℕ) (more : Tokens) (x : ℕ × List ℕ)
      → spec.blank_at (record { kind = kind; line = line; start = start; end = end }) ≡ Some x
      → spec.item_line looser depth (record { kind = kind; line = line; start = start; end = end } ∷ more)
      ≡ spec.blank_item (record { kind = kind; line = line; start = start; end = end } ∷ more)
  blank_reads (kind.PageText text) line start end more x e =
      let token : Token = record { kind = kind.PageText text; line = line; start = start; end = end } in
      let is : spec.blank_at token ≡ Some (line, text) = e ∙ sym (blank_is_text token x e) in
      ended (lines.«end» more) (blank_statement (line, text))
      ∙ ap (λ o. and_then (one_by o token more) (λ found. reader.◌>>◌ lines.«end» (reader.pure (item.Statement
      (blank_statement found))))) (sym is)
  blank_reads (kind.Keyword keyword) line start end more x e = absurd cc
  blank_reads (kind.Symbol symbol) line start end more x e = absurd cc
  blank_reads _ line start end more x e = absurd cc

  -- the first items, of which the blank texts are read before the others
  record Split (tokens : Tokens) (xs : List Item) (rest : Tokens) : Type 0 where
    first : List Item
    found : List Item
    middle : Tokens
    blanks : spec.blank_items tokens ≡ Ok (first, middle)
    no_option : sees (kind.Keyword k.Option) (next middle) ≡ false
    others : spec.items looser depth middle ≡ Ok (found, rest)
    joined : xs ≡ first ++ found

  split_step : (x : Item) (xs : List Item) (front rest : Tokens)
      → (h : rule.many (grammar.item_line looser depth) front (x ∷ xs)) → Before [] rest
      → Split (h.back ++ rest) xs rest → Split (front ++ rest) (x ∷ xs) rest
  split_step x xs front rest h ok s = go (spec.blank_at w.0) refl
    where
      w : HeadIn (among item_heads) h.front
      w = (begins_item_line looser depth).head h.front x h.first

      tokens : Tokens
      tokens = w.0 ∷ (w.1 ++ (h.back ++ rest))

      begins : front ++ rest ≡ tokens
      begins = ap (λ t. t ++ rest) h.split ∙ append_assoc h.front h.back rest ∙ ap (λ t. t ++ (h.back ++ rest)) w.2

      go : (o : Option (ℕ × List ℕ)) → spec.blank_at w.0 ≡ o → Split (front ++ rest) (x ∷ xs) rest
      go None is = record {
        first = [];
        found = x ∷ xs;
        middle = front ++ rest;
        blanks = ap spec.blank_items begins ∙ many_step (passes spec.blank_at) spec.blank_item moves_blank_item
            refl tokens ∙ rw is (ap (λ t. Ok ([], t)) (sym begins));
        no_option = asks_no {l = item_heads} (asks_kind (kind.Keyword k.Option)) refl (front ++ rest)
            ((leads_many (begins_item_line looser depth)).leads front rest (x ∷ xs) h ok);
        others = (takes_items looser depth).takes front rest (x ∷ xs) h ok;
        joined = refl;
      }
      go (Some found) is =
          let more : Before item_heads (h.back ++ rest) = (leads_many (begins_item_line looser depth)).leads h.back rest
          xs h.second ok in
          let one : spec.blank_item tokens ≡ Ok (x, h.back ++ rest) =
          sym (blank_reads w.0.kind w.0.line w.0.start w.0.end (w.1 ++ (h.back ++ rest)) found is)
          ∙ ap (λ t. spec.item_line looser depth (t ++ (h.back ++ rest))) (sym w.2)
          ∙ (takes_item_line looser depth refl).takes h.front (h.back ++ rest) x h.first more in
          record {
            first = x ∷ s.first;
            found = s.found;
            middle = s.middle;
            blanks = ap spec.blank_items begins ∙ many_step (passes spec.blank_at) spec.blank_item moves_blank_item refl
                tokens ∙ ap (λ b. cond b (and_then (spec.blank_item tokens) (λ y. more_with y spec.blank_items))
                (Ok ([], tokens))) (ap is_some is) ∙ ap (λ o. and_then o (λ y. more_with y spec.blank_items)) one
                ∙ ap (λ o. and_then o (λ ys. reader.pure (x ∷ ys))) s.blanks;
            no_option = s.no_option;
            others = s.others;
            joined = ap (λ ys. x ∷ ys) s.joined;
          }

  split_items : (xs : List Item) (front rest : Tokens) → rule.many (grammar.item_line looser depth) front xs
      → Before [] rest → Split (front ++ rest) xs rest
  split_items [] front [] h ok = rw h (record {
    first = [];
    found = [];
    middle = [];
    blanks = refl;
    no_option = refl;
    others = refl;
    joined = refl;
  })
  split_items [] front (t ∷ rest) h ok = absurd (let no : false ≡ true = ok.fits in cc)
  split_items (x ∷ xs) front rest h ok = split_step x xs front rest h ok (split_items xs h.back rest h.second ok)

  takes_plain : Takes behind (items_of looser depth false) (Before [])
  takes_plain = record {
    takes = λ front rest x h ok. go front rest x h (split_items h.thing front rest (only (rule.many (grammar.item_line
        looser depth)) (λ found. record { option_explicit = false; items = found }) front x h) ok);
  }
    where
      go : (front rest : Tokens) (x : Script) (h : items_of looser depth false front x)
          → Split (front ++ rest) h.thing rest → behind (front ++ rest) ≡ Ok (x, rest)
      go front rest x h s = ap (λ o. and_then o (λ first. reader.◌>>=◌ (spec.option_explicit looser)
          (λ explicit. reader.◌>>=◌ (spec.items looser depth) (λ found. reader.pure (record {
            option_explicit = explicit;
            items = spec.kept explicit first ++ found;
          }))))) s.blanks
          ∙ rw s.no_option (ap (λ o. and_then o (λ found. reader.pure (record {
            option_explicit = false;
            items = s.first ++ found;
          }))) s.others
          ∙ ap (λ items. Ok (record { option_explicit = false; items = items }, rest)) (sym s.joined)
          ∙ ap (λ y. Ok (y, rest)) (sym h.next_spells.1))

  -- ---- units

  abbrev unit_heads : List ℕ
  unit_heads = (text_head ++ option_head) ++ item_heads

  leads_option : Leads unit_heads (grammar.option_explicit looser) (Before item_heads)
  leads_option = leads_or (leads_bind (leads_texts false)
      (λ _. leads_begins (begins_word_then (kind.Keyword k.Option)))) leads_pure

  takes_first_end : Takes (spec.first_end looser) (rule.◌or◌ statements.«end» (rule.pure tt)) (Before unit_heads)
  takes_first_end = takes_or (takes_on lines.breaks _ (starts asks_breaks begins_end refl) (takes_end refl))
      (takes_off lines.breaks _ (skips asks_breaks leads_pure refl) (takes_pure tt _))

  pub takes_unit : Takes (spec.unit looser depth) (grammar.unit looser depth) (Before [])
  takes_unit = takes_then {l = unit_heads} takes_first_end
      (λ _. takes_within or_out (takes_or takes_explicit (takes_within pure_out takes_plain)))
      (λ _. leads_bind leads_option leads_items)
