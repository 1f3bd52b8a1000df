-- The reader of a line reads the grammar's line, and a ":" that stands behind it.
use Rattle.std.proofs.Common.{◌≡◌, ℕ, zero, suc, ◌||◌, not, inl, inr, Bool, true, false, IsTrue, [], ◌∷◌, ◌++◌, Some}
use Rattle.std.proofs.Common.{None, refl, sym, ap, ◌∙◌, append-nil, subst}
use Rattle.std.specs.declared.ops.ControlFlow.TheVariants.{Continue, Break}
use Rattle.vb_value.specs.declared.token.Keyword.TheVariants as k
use Rattle.vb_value.specs.declared.token.Symbol.TheVariants as s
use Rattle.vb_value.specs.declared.token.TokenKind.TheVariants as kind
use Rattle.vb_syntax.specs.declared.expression.Expression.{Expression}
use Rattle.vb_syntax.specs.declared.statement.Statement.{Statement}
use Rattle.vb_syntax.specs.declared.statement.StatementKind.TheVariants as st
use Rattle.vb_syntax.specs.grammar.Rules.{Tokens, Rule}
use Rattle.vb_syntax.specs.grammar.Rules as rule
use Rattle.vb_syntax.specs.grammar.Words as words
use Rattle.vb_syntax.specs.grammar.SimpleStatements.{Looser, statement, simple}
use Rattle.vb_syntax.specs.grammar.Statements as grammar
use Rattle.vb_syntax.specs.grammar.Statements.{Line, break_of}
use Rattle.vb_read.specs.Reader.{Reader, Turn}
use Rattle.vb_read.specs.Reader as reader
use Rattle.vb_read.specs.ReadLines as spec
use Rattle.vb_read.specs.ReadLines.{LineRead, LastRead}
use Rattle.vb_read.specs.Depths.{opens, inside}
use Rattle.vb_read.proofs.Reading.{Reads, Lives, NoEmpty, reads_pure, reads_refuse, reads_wider, reads_bind, reads_one}
use Rattle.vb_read.proofs.Reading.{reads_choice, reads_both, reads_many, reads_word, full_one, full_bind, full_word}
use Rattle.vb_read.proofs.Reading.{token_of, Moves, moves}
use Rattle.vb_read.proofs.Taking.{only}
use Rattle.vb_read.proofs.Binding.{Within, within_then, bind_wider, first_wider, bind_left, bind_right, pure_in}
use Rattle.vb_read.proofs.Binding.{pure_out}
use Rattle.vb_read.proofs.Until.{turn_rule, until_rule, reads_until, OnwardMoves, onward_moves}
use Rattle.vb_read.proofs.ExpressionReading.{expressions_read}
use Rattle.vb_read.proofs.CallReading.{or_false}
use Rattle.vb_read.proofs.SimpleReading.{reads_simple, lives_simple, full_simple}

-- ---- ends

pub reads_break : Reads (reader.one break_of) (rule.one break_of)
reads_break = reads_one break_of (token_of kind.LineEnd) tt refl

pub moves_break : Moves (reader.one break_of)
moves_break = moves _ _ reads_break (full_one break_of)

reads_breaks : Reads (reader.many spec.breaks (reader.one break_of)) (rule.many (rule.one break_of))
reads_breaks = reads_many spec.breaks reads_break (full_one break_of) refl

pub reads_end : Reads spec.«end» grammar.«end»
reads_end = reads_bind reads_break (λ _. reads_bind reads_breaks (λ _. reads_pure tt))

pub full_end : NoEmpty grammar.«end»
full_end = full_bind _ _ (full_one break_of)

pub reads_line_end : Reads spec.line_end grammar.line_end
reads_line_end = reads_bind (reads_many (reader.sees (kind.Symbol s.Colon)) (reads_word (kind.Symbol s.Colon))
    (full_word (kind.Symbol s.Colon)) refl)
    (λ _. reads_bind (reads_word kind.LineEnd) (λ _. reads_bind reads_breaks (λ _. reads_pure tt)))

-- ---- a ":" behind a rule

-- a ":" or nothing, and whether it is there
abbrev pub maybe_colon : Rule Bool
maybe_colon = rule.◌or◌ (rule.◌>>◌ (words.symbol s.Colon) (rule.pure true)) (rule.pure false)

-- what the rule spells, and maybe a ":"
abbrev pub trailed : {A B : Type 0} → (A → Bool → B) → Rule A → Rule B
trailed told r = rule.◌>>=◌ r (λ x. rule.◌>>=◌ maybe_colon (λ colon. rule.pure (told x colon)))

abbrev pub line_told : Line → Bool → LineRead
line_told line colon = (line.statements, line.takes_else, colon)

abbrev pub last_told : Statement × Bool → Bool → LastRead
last_told last colon = (last.0, last.1, colon)

-- what the rule spells without the ":"
pub bare : {A B : Type 0} (told : A → Bool → B) (r : Rule A) (front : Tokens) (x : A) → r front x
    → trailed told r front (told x false)
bare told r front x h = record {
  front = front;
  back = [];
  thing = x;
  split = sym (append-nil front);
  first_spells = h;
  next_spells = record {
    front = [];
    back = [];
    thing = false;
    split = refl;
    first_spells = inr (refl, refl);
    next_spells = (refl, refl);
  };
}

pub lives_trailed : {A B : Type 0} (told : A → Bool → B) (r : Rule A) → Lives r → Lives (trailed told r)
lives_trailed told r l = record {
  tokens = l.tokens;
  thing = told l.thing false;
  spells = bare told r l.tokens l.thing l.spells;
}

-- a thing of which a part is looked at, with the ":" behind it
trailed_part : {A B C : Type 0} {told : A → Bool → B} {r : Rule A} {f : B → C}
    → Within (rule.◌>>=◌ (trailed told r) (λ y. rule.pure (f y))) (trailed (λ x colon. f (told x colon)) r)
trailed_part = within_then bind_right (bind_wider (λ x. within_then bind_right (bind_wider (λ colon. pure_out))))

-- the same of a thing that is made of the rule's thing
trailed_made : {A B C : Type 0} {told : B → Bool → C} {r : Rule A} {f : A → B}
    → Within (trailed (λ x colon. told (f x) colon) r) (trailed told (rule.◌>>=◌ r (λ x. rule.pure (f x))))
trailed_made = within_then (bind_wider (λ x. pure_in)) bind_left

no_colon : (front : Tokens) (colon : Bool) → maybe_colon front colon → colon ≡ false → front ≡ []
no_colon front colon (inl h) e = absurd (let no : true ≡ false = sym h.next_spells.1 ∙ e in cc)
no_colon front colon (inr h) e = h.0

not_or : (a b : Bool) → IsTrue (not (a || b)) → (a ≡ false) × IsTrue (not b)
not_or true b h = absurd cc
not_or false true h = absurd cc
not_or false false h = (refl, refl)

-- ---- one-line Ifs

-- what is read inside a construct is spelled there
pub record InnerBlocks (depth : ℕ) (bp : spec.Blocks) (br : grammar.Blocks) : Type 0 where
  pub block : IsTrue (opens depth) → Reads bp.block br.block
  pub line : IsTrue (opens depth) → Reads bp.line (trailed line_told br.line)

module _ (looser : Looser) (depth : ℕ) (bp : spec.Blocks) (br : grammar.Blocks) (inner : InnerBlocks depth bp br) where
  pub reads_inside : IsTrue (opens depth) → Reads (spec.inside_expression looser depth bp)
      (grammar.inside looser depth br)
  reads_inside is = go depth is
    where
      go : (d : ℕ) → IsTrue (opens d) → Reads (inside d).expression (grammar.inside looser d br)
      go zero is = absurd cc
      go (suc d) is = (expressions_read d).expression refl

  abbrev none_else : ℕ → Expression → LineRead → Statement
  none_else line condition body = statement line (st.LineIf condition body.0 None)

  -- what stands behind the first branch
  abbrev pub rest_rule : ℕ → Expression → LineRead → Rule LastRead
  rest_rule line condition body = rule.◌or◌ (rule.pure (none_else line condition body, true, body.2))
      (rule.where_true (not (body.2 || body.1)) (rule.◌>>◌ (words.keyword k.Else) (rule.◌>>=◌
      (trailed line_told br.line)
      (λ other. rule.pure (statement line (st.LineIf condition body.0 (Some other.0)), other.1, other.2)))))

  reads_else_line : IsTrue (opens depth) → (line : ℕ) (condition : Expression) (body : LineRead) (b : Bool)
      → (body.2 || body.1) ≡ b → Reads (spec.else_line looser depth bp b line condition body)
      (rest_rule line condition body)
  reads_else_line is line condition body true e = reads_wider (λ _ _ h. inl h) (reads_pure _)
  reads_else_line is line condition body false e =
      let parts = or_false body.2 body.1 e in
      reads_both (reader.sees (kind.Keyword k.Else))
      (reads_wider (λ _ _ h. inr (ap not e, h)) (reads_bind (reads_word (kind.Keyword k.Else))
      (λ _. reads_bind (inner.line is) (λ other. reads_pure _))))
      (reads_wider (λ _ _ h. inl (h.0, h.1 ∙ ap (λ colon. (none_else line condition body, true, colon)) (sym parts.0)))
      (reads_pure (none_else line condition body, true, false)))

  -- the grammar's [ "Else" line ]
  abbrev pub else_rule : ℕ → Expression → Line → Rule (Statement × Bool)
  else_rule line condition body = rule.◌or◌
      (rule.pure (statement line (st.LineIf condition body.statements None), true))
      (rule.where_true (not body.takes_else) (rule.◌>>◌ (words.keyword k.Else) (rule.◌>>=◌ br.line (λ other. rule.pure (
        statement line (st.LineIf condition body.statements (Some other.statements)),
        other.takes_else,
      )))))

  abbrev with_colon : Statement × Bool → Rule LastRead
  with_colon last = rule.◌>>=◌ maybe_colon (λ colon. rule.pure (last_told last colon))

  -- behind a body, with the ":" behind it
  behind_body : (line : ℕ) (condition : Expression) (body : Line)
      → Within (rule.◌>>=◌ maybe_colon (λ colon. rest_rule line condition (line_told body colon)))
      (rule.◌>>=◌ (else_rule line condition body) with_colon)
  behind_body line condition body front x h = go h.next_spells
    where
      go : rest_rule line condition (line_told body h.thing) h.back x
          → rule.◌>>=◌ (else_rule line condition body) with_colon front x
      go (inl w) = first_wider (λ _ _ g. inl g) front x (pure_in front x (record {
        front = h.front;
        back = h.back;
        thing = h.thing;
        split = h.split;
        first_spells = h.first_spells;
        next_spells = w;
      }))
      go (inr w) = let parts = not_or h.thing body.takes_else w.0 in
          let gone : front ≡ h.back = h.split ∙ ap (λ t. t ++ h.back) (no_colon h.front h.thing h.first_spells
          parts.0) in
          first_wider (λ _ _ g. inr (parts.1, g)) front x (within_then (bind_wider (λ _. within_then trailed_part
          trailed_made)) bind_left front x (subst (λ t. rule.◌>>◌ (words.keyword k.Else) (rule.◌>>=◌ (trailed line_told
          br.line) (λ other. rule.pure (
            statement line (st.LineIf condition body.statements (Some other.0)),
            other.1,
            other.2,
          ))) t x) (sym gone) w.1))

  line_if_spells : (line : ℕ) (condition : Expression)
      → Within (rule.◌>>=◌ (trailed line_told br.line) (rest_rule line condition))
      (trailed last_told (rule.◌>>=◌ br.line (else_rule line condition)))
  line_if_spells line condition = within_then bind_right (within_then (bind_wider (λ body. within_then bind_right
      (within_then (bind_wider (λ colon. pure_out)) (behind_body line condition body)))) bind_left)

  pub reads_line_if_from : IsTrue (opens depth) → (line : ℕ) (condition : Expression)
      → Reads (spec.line_if_from looser depth bp line condition)
      (trailed last_told (rule.◌>>=◌ br.line (else_rule line condition)))
  reads_line_if_from is line condition = reads_wider (line_if_spells line condition) (reads_bind (inner.line is)
      (λ body. reads_else_line is line condition body (body.2 || body.1) refl))

  -- a one-line If, with the ":" behind it
  reads_line_if_open : IsTrue (opens depth) → Reads (spec.line_if_open looser depth bp)
      (trailed last_told (grammar.line_if looser depth br))
  reads_line_if_open is = reads_wider (within_then (bind_wider (λ line. within_then (bind_wider
      (λ condition. bind_left))
      bind_left)) bind_left) (reads_bind (reads_word (kind.Keyword k.If)) (λ line. reads_bind (reads_inside is)
      (λ condition. reads_bind (reads_word (kind.Keyword k.Then)) (λ _. reads_line_if_from is line condition))))

  -- ---- a turn of a line

  abbrev first_rule : Rule Statement
  first_rule = rule.◌>>=◌ (simple looser depth) (λ found. rule.◌>>◌ (words.symbol s.Colon) (rule.pure found))

  abbrev last_rule : Rule (Statement × Bool)
  last_rule = rule.◌or◌ (rule.◌>>=◌ (simple looser depth) (λ found. rule.pure (found, false)))
      (grammar.line_if looser depth br)

  abbrev line_turn_rule : Rule (Turn Statement LastRead)
  line_turn_rule = turn_rule first_rule (trailed last_told last_rule)

  simple_last : (front : Tokens) (x : Statement) → simple looser depth front x → last_rule front (x, false)
  simple_last front x h = inl (record {
    front = front;
    back = [];
    thing = x;
    split = sym (append-nil front);
    first_spells = h;
    next_spells = (refl, refl);
  })

  lives_last : Lives (trailed last_told last_rule)
  lives_last = let l = lives_simple looser depth in lives_trailed last_told last_rule (record {
    tokens = l.tokens;
    thing = (l.thing, false);
    spells = simple_last l.tokens l.thing l.spells;
  })

  lives_turn : Lives line_turn_rule
  lives_turn = record { tokens = lives_last.tokens; thing = Break lives_last.thing; spells = lives_last.spells }

  abbrev behind_rule : Statement → Rule (Turn Statement LastRead)
  behind_rule found = rule.◌or◌ (rule.◌>>◌ (words.symbol s.Colon) (rule.◌or◌ (rule.pure (Continue found))
      (rule.pure (Break (found, false, true))))) (rule.pure (Break (found, false, false)))

  reads_behind : (found : Statement) → Reads (spec.behind_simple looser depth bp found) (behind_rule found)
  reads_behind found = reads_choice (reader.sees (kind.Symbol s.Colon))
      (reads_bind (reads_word (kind.Symbol s.Colon)) (λ _. reads_choice spec.begins_line_statement
      (reads_pure (Continue found)) (reads_pure (Break (found, false, true)))))
      (reads_pure (Break (found, false, false)))

  turn_simple : Within (rule.◌>>=◌ (simple looser depth) behind_rule) line_turn_rule
  turn_simple front t h = go h.next_spells
    where
      ended : (colon : Bool) → maybe_colon h.back colon → line_turn_rule front (Break (h.thing, false, colon))
      ended colon w = record {
        front = h.front;
        back = h.back;
        thing = (h.thing, false);
        split = h.split;
        first_spells = simple_last h.front h.thing h.first_spells;
        next_spells = record {
          front = h.back;
          back = [];
          thing = colon;
          split = sym (append-nil h.back);
          first_spells = w;
          next_spells = (refl, refl);
        };
      }

      go : behind_rule h.thing h.back t → line_turn_rule front t
      go (inl w) = colon w.next_spells
        where
          colon : rule.◌or◌ (rule.pure (Continue h.thing)) (rule.pure (Break (h.thing, false, true))) w.back t
              → line_turn_rule front t
          colon (inl p) = subst (λ u. line_turn_rule front u) (sym p.1) (record {
            front = h.front;
            back = h.back;
            thing = h.thing;
            split = h.split;
            first_spells = h.first_spells;
            next_spells = record {
              front = w.front;
              back = w.back;
              thing = w.thing;
              split = w.split;
              first_spells = w.first_spells;
              next_spells = (p.0, refl);
            };
          })
          colon (inr p) = subst (λ u. line_turn_rule front u) (sym p.1) (ended true (inl (record {
            front = w.front;
            back = w.back;
            thing = w.thing;
            split = w.split;
            first_spells = w.first_spells;
            next_spells = (p.0, refl);
          })))
      go (inr p) = subst (λ u. line_turn_rule front u) (sym p.1) (ended false (inr (p.0, refl)))

  turn_line_if : Within (rule.◌>>=◌ (trailed last_told (grammar.line_if looser depth br)) (λ found. rule.pure
      (Break found)))
      line_turn_rule
  turn_line_if front t h = subst (λ u. line_turn_rule front u) (sym h.next_spells.1) (first_wider (λ _ _ g. inr g) front
      h.thing (only (trailed last_told (grammar.line_if looser depth br)) Break front t h))

  -- where no construct may open nothing goes on with an If
  gated : (b : Bool) → opens depth ≡ b → Reads (reader.◌>>=◌ (reader.gate b (spec.line_if_open looser depth bp))
      (λ found. reader.pure (Break found))) line_turn_rule
  gated true is = reads_wider turn_line_if (reads_bind (reads_line_if_open is) (λ found. reads_pure _))
  gated false is = reads_refuse line_turn_rule lives_turn

  reads_line_turn : Reads (spec.line_turn looser depth bp) line_turn_rule
  reads_line_turn = reads_both (reader.sees (kind.Keyword k.If)) (gated (opens depth) refl)
      (reads_wider turn_simple (reads_bind (reads_simple looser depth) reads_behind))

  -- a statement that another follows takes a token
  pub moves_line_turn : OnwardMoves (spec.line_turn looser depth bp)
  moves_line_turn = onward_moves _ _ _ reads_line_turn (full_bind _ _ (full_simple looser depth))

  -- ---- lines

  line_spells : Within (rule.◌>>=◌ (until_rule first_rule (trailed last_told last_rule)) (λ found. rule.pure (
    found.0 ++ found.1.0 ∷ [],
    found.1.1,
    found.1.2,
  ))) (trailed line_told (grammar.line looser depth br))
  line_spells = within_then bind_right (within_then (bind_wider (λ first. within_then bind_right (within_then
      (bind_wider (λ last. pure_out)) (within_then trailed_part trailed_made)))) bind_left)

  pub reads_line : Reads (spec.line looser depth bp) (trailed line_told (grammar.line looser depth br))
  reads_line = reads_wider line_spells (reads_bind (reads_until reads_line_turn
      (full_bind _ _ (full_simple looser depth)) lives_last) (λ found. reads_pure _))
