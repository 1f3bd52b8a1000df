-- The readers of items take whatever the grammar spells.
use Rattle.std.proofs.Common.{◌≡◌, ℕ, ◌⊎◌, inl, inr, Bool, true, false, List, [], ◌∷◌, ◌++◌, Option, Some, None, Ok}
use Rattle.std.proofs.Common.{refl, sym, ap, ◌∙◌, append_assoc}
use Rattle.vb_value.specs.declared.token.Keyword.TheVariants as k
use Rattle.vb_value.specs.declared.token.Symbol.TheVariants as s
use Rattle.vb_value.specs.declared.token.TokenKind.{TokenKind}
use Rattle.vb_value.specs.declared.token.TokenKind.TheVariants as kind
use Rattle.vb_syntax.specs.declared.declaration.Access.{Access}
use Rattle.vb_syntax.specs.declared.statement.Statement.{Statement}
use Rattle.vb_syntax.specs.declared.unit.Item.{Item}
use Rattle.vb_syntax.specs.declared.unit.Item.TheVariants as item
use Rattle.vb_syntax.specs.declared.unit.Unit.{Unit as Script}
use Rattle.vb_syntax.specs.grammar.Rules.{Tokens, Rule}
use Rattle.vb_syntax.specs.grammar.Rules as rule
use Rattle.vb_syntax.specs.grammar.Words as words
use Rattle.vb_syntax.specs.grammar.Words.{tag, name_of}
use Rattle.vb_syntax.specs.grammar.Declarations as declarations
use Rattle.vb_syntax.specs.grammar.SimpleStatements as simple
use Rattle.vb_syntax.specs.grammar.SimpleStatements.{Looser}
use Rattle.vb_syntax.specs.grammar.Statements as statements
use Rattle.vb_syntax.specs.grammar.Statements.{passed_texts}
use Rattle.vb_syntax.specs.grammar.Units as grammar
use Rattle.vb_read.specs.Reader.{Reader, Look, and_then, next, sees, passes}
use Rattle.vb_read.specs.Reader as reader
use Rattle.vb_read.specs.ReadDeclarations as read_declarations
use Rattle.vb_read.specs.ReadDeclarations.{begun, sees_access}
use Rattle.vb_read.specs.ReadExpressions as read
use Rattle.vb_read.specs.ReadSimpleStatements.{const_from as const_reader}
use Rattle.vb_read.specs.ReadLines as lines
use Rattle.vb_read.specs.ReadStatements as read_statements
use Rattle.vb_read.specs.ReadUnits as spec
use Rattle.vb_read.proofs.Reading.{many_step, more_with}
use Rattle.vb_read.proofs.Taking.{Takes, takes_pure, only}
use Rattle.vb_read.proofs.Beginning.{HeadIn}
use Rattle.vb_read.proofs.Binding.{Within, within_then, bind_wider, first_wider, bind_left, bind_right, pure_in}
use Rattle.vb_read.proofs.Binding.{pure_out, or_out, or_within}
use Rattle.vb_read.proofs.SimpleReading.{const_behind}
use Rattle.vb_read.proofs.ProcedureReading.{either_open}
use Rattle.vb_read.proofs.Tags.{among, outside, all_have}
use Rattle.vb_read.proofs.Following.{Before, BeginsIn, Leads, leads_begins, leads_bind, leads_many, leads_or}
use Rattle.vb_read.proofs.Following.{leads_pure, begins_then, begins_either, begins_more, begins_within}
use Rattle.vb_read.proofs.Following.{begins_word_then, name_begins, Asks, asks_kind, asks_either, asks_no, starts}
use Rattle.vb_read.proofs.Following.{skips, starts_one, begins_only, passes_no}
use Rattle.vb_read.proofs.Choosing.{takes_on, takes_off, takes_on_word, takes_off_word, takes_or, takes_within}
use Rattle.vb_read.proofs.Choosing.{takes_word, takes_then, takes_map, takes_list, takes_each, takes_before, Chosen}
use Rattle.vb_read.proofs.Choosing.{chosen, choose_by}
use Rattle.vb_read.proofs.DeclarationTaking.{access_heads, asks_access, begins_access, takes_access_word, access_apart}
use Rattle.vb_read.proofs.DeclarationTaking.{takes_declared}
use Rattle.vb_read.proofs.Following.{name_head}
use Rattle.vb_read.proofs.SimpleTaking.{simple_heads, takes_const_from, begins_simple}
use Rattle.vb_read.proofs.EndTaking.{break_heads, asks_breaks, takes_end, begins_end, leads_texts}
use Rattle.vb_read.proofs.BlankTexts.{text_head, blank_only, blank_is_text, blank_line, blank_statement, as_items}
use Rattle.vb_read.proofs.BlankTexts.{explicit_word, explicit_open, explicit_closed}
use Rattle.vb_read.proofs.UnitReading.{items_of, items_behind, moves_blank_item}
use Rattle.vb_read.proofs.IfTaking.{sentence_heads}
use Rattle.vb_read.proofs.BlockTaking.{takes_sentence, begins_sentence, inside_taken}
use Rattle.vb_read.proofs.ProcedureTaking.{asks_procedure, begins_procedure, takes_procedure, procedure_apart}
use Rattle.vb_read.proofs.ClassTaking.{takes_class, begins_class}

-- ---- items but for statements

-- the numbers of the tokens that begin one
abbrev other_heads : List ℕ
other_heads = access_heads ++ (tag (kind.Keyword k.Sub) ∷ tag (kind.Keyword k.Function) ∷ tag
    (kind.Keyword k.Class) ∷ [])

-- the numbers of the tokens that begin a statement, but for a word before a constant
abbrev plain_heads : List ℕ
plain_heads = tag (kind.Keyword k.If) ∷ tag (kind.Keyword k.Const) ∷ tag (kind.Keyword k.Select) ∷ tag
    (kind.Keyword k.For)
    ∷ tag (kind.Keyword k.Do) ∷ tag (kind.Keyword k.While) ∷ tag (kind.Keyword k.With) ∷ simple_heads

module _ (looser : Looser) (depth : ℕ) where
  abbrev const_item : ℕ × Access → Rule Item
  const_item before = rule.◌>>=◌ (rule.◌>>=◌ (words.keyword k.Const) (λ line. const_behind (begun (Some before) line)))
      (λ found. rule.pure (item.Statement found))

  abbrev procedure_item : Option (ℕ × Access) → Rule Item
  procedure_item before = rule.◌>>=◌ (either_open looser depth before) (λ found. rule.pure (item.Procedure found))

  abbrev variables_item : ℕ × Access → Rule Item
  variables_item before = rule.◌>>=◌ (words.list_of (declarations.declared depth))
      (λ found. rule.pure (item.Variables before.0 before.1 found))

  abbrev class_item : Rule Item
  class_item = rule.◌>>=◌ (grammar.class looser depth) (λ found. rule.pure (item.Class found))

  abbrev item_behind : ℕ × Access → Rule Item
  item_behind before = rule.◌or◌ (const_item before) (rule.◌or◌ (procedure_item (Some before)) (variables_item before))

  takes_const_item : (before : ℕ × Access) → Takes (reader.◌>>=◌ (const_reader (Some before)) (λ found. reader.pure
      (item.Statement found))) (const_item before) (Before break_heads)
  takes_const_item before = takes_map _ (takes_before refl (takes_const_from (Some before)))

  takes_variables : (before : ℕ × Access) → Takes (reader.◌>>=◌ (read.list_of (read_declarations.declared depth))
      (λ found. reader.pure (item.Variables before.0 before.1 found))) (variables_item before) (Before break_heads)
  takes_variables before = takes_map _ (takes_list (takes_declared depth refl) refl)

  begins_variables : (before : ℕ × Access) → BeginsIn name_head (variables_item before)
  begins_variables before = begins_then (begins_then (begins_then name_begins))

  chosen_behind : (before : ℕ × Access) → Chosen (spec.item_behind looser depth before) (tag (kind.Keyword k.Const)
      ∷ (tag (kind.Keyword k.Sub) ∷ tag (kind.Keyword k.Function) ∷ name_head)) (item_behind before)
      (Before break_heads)
  chosen_behind before = choose_by (asks_kind (kind.Keyword k.Const)) (begins_then (begins_word_then
      (kind.Keyword k.Const)))
      refl (takes_const_item before)
      (choose_by (asks_procedure looser) (begins_then (begins_procedure looser depth (Some before))) refl
      (takes_map _ (takes_procedure looser depth (Some before)))
      (chosen (takes_variables before) (begins_variables before)) refl) refl

  -- the items in the order in which the reader asks for them
  abbrev asked : Rule Item
  asked = rule.◌or◌ (rule.◌>>=◌ declarations.access_word item_behind) (rule.◌or◌ (procedure_item None) class_item)

  chosen_item : Chosen (spec.other_item looser depth) other_heads asked (Before break_heads)
  chosen_item = choose_by asks_access (begins_then begins_access) refl
      (takes_then {l = tag (kind.Keyword k.Const) ∷ (tag (kind.Keyword k.Sub) ∷ tag
      (kind.Keyword k.Function) ∷ name_head)}
      takes_access_word (λ before. (chosen_behind before).takes) (λ before. leads_begins (chosen_behind before).begins))
      (choose_by (asks_procedure looser) (begins_then (begins_procedure looser depth None)) refl
      (takes_map _ (takes_procedure looser depth None))
      (chosen (takes_map _ (takes_class looser depth)) (begins_then (begins_class looser depth))) refl) refl

  abbrev ended : Item → Rule Item
  ended found = rule.◌>>◌ statements.«end» (rule.pure found)

  asks_other : Asks (spec.sees_other_item looser) other_heads
  asks_other = asks_either asks_access (asks_either (asks_procedure looser) (asks_kind (kind.Keyword k.Class)))

  takes_other : {v : List ℕ} → all_have (outside break_heads) v ≡ true → Takes (spec.item_line looser depth)
      (rule.◌>>=◌ asked ended) (Before v)
  takes_other none = takes_on (spec.sees_other_item looser) _ (starts asks_other (begins_then chosen_item.begins) refl)
      (takes_then chosen_item.takes (λ found. takes_then (takes_end none) (λ _. takes_pure found _) (λ _. leads_pure))
      (λ found. leads_begins (begins_then begins_end)))

  -- ---- statements

  abbrev inner_rules : statements.Blocks
  inner_rules = statements.blocks_inside looser depth

  abbrev sentence : Rule Statement
  sentence = statements.sentence looser depth inner_rules

  abbrev sentence_end : Statement → Rule Statement
  sentence_end found = rule.◌>>◌ statements.«end» (rule.pure found)

  -- a constant with a word before it, and its end
  abbrev access_const : Rule Statement
  access_const = rule.◌>>=◌ (rule.◌>>=◌ declarations.access_word (λ before. rule.◌>>=◌ (words.keyword k.Const)
      (λ line. const_behind (begun (Some before) line)))) sentence_end

  begins_compound : BeginsIn plain_heads (statements.compound looser depth inner_rules)
  begins_compound = begins_more refl (begins_either (begins_word_then (kind.Keyword k.If))
      (begins_either (begins_word_then (kind.Keyword k.Select))
      (begins_either (begins_word_then (kind.Keyword k.For))
      (begins_either (begins_word_then (kind.Keyword k.For))
      (begins_either (begins_word_then (kind.Keyword k.Do))
      (begins_either (begins_word_then (kind.Keyword k.While)) (begins_word_then (kind.Keyword k.With))))))))

  -- a statement is a constant with a word before it, or begins otherwise
  sentence_apart : (front : Tokens) (x : Statement) → sentence front x
      → access_const front x ⊎ HeadIn (among plain_heads) front
  sentence_apart front x (inr h) = inr ((begins_more {m = plain_heads} refl (begins_then (begins_word_then (kind.Keyword
      k.If)))).head front x h)
  sentence_apart front x (inl h) = go h.first_spells
    where
      longer : HeadIn (among plain_heads) h.front → HeadIn (among plain_heads) front
      longer w = (w.0, w.1 ++ h.back, h.split ∙ ap (λ t. t ++ h.back) w.2, w.3)

      const_apart : simple.const looser depth h.front h.thing → access_const front x ⊎ HeadIn (among plain_heads) front
      const_apart w = split (access_apart {next = const_behind} h.front h.thing w)
        where
          split : rule.◌or◌ (rule.◌>>=◌ declarations.access_word (λ before. rule.◌>>=◌ (words.keyword k.Const)
              (λ line. const_behind (begun (Some before) line)))) (rule.◌>>=◌ (words.keyword k.Const)
              (λ line. const_behind (begun None line))) h.front h.thing
              → access_const front x ⊎ HeadIn (among plain_heads) front
          split (inl c) = inl (record {
            front = h.front;
            back = h.back;
            thing = h.thing;
            split = h.split;
            first_spells = c;
            next_spells = h.next_spells;
          })
          split (inr c) = inr (longer ((begins_more {m = plain_heads} refl (begins_word_then
              (kind.Keyword k.Const))).head
              h.front h.thing c))

      go : rule.◌or◌ (simple.const looser depth) (rule.◌or◌ (statements.compound looser depth inner_rules)
          (simple.simple looser depth)) h.front h.thing → access_const front x ⊎ HeadIn (among plain_heads) front
      go (inl w) = const_apart w
      go (inr (inl w)) = inr (longer (begins_compound.head h.front h.thing w))
      go (inr (inr w)) = inr (longer ((begins_more {m = plain_heads} refl (begins_simple looser depth)).head h.front
          h.thing
          w))

  -- the constant as another item
  const_asked : Within (rule.◌>>=◌ access_const (λ found. rule.pure (item.Statement found))) (rule.◌>>=◌ asked ended)
  const_asked = within_then bind_right (within_then (bind_wider (λ found. within_then bind_right (bind_wider
      (λ _. pure_out)))) (within_then (within_then (bind_wider (λ found. pure_in)) bind_left) (first_wider
      (within_then bind_right (within_then (bind_wider (λ before _ _ h. inl h)) (λ _ _ h. inl h))))))

  takes_statement : {v : List ℕ} → all_have (outside break_heads) v ≡ true → Takes (spec.item_line looser depth)
      (rule.◌>>=◌ sentence (λ found. rule.pure (item.Statement found))) (Before v)
  takes_statement {v} none = record {
    takes = λ front rest x h ok. go front rest x h ok (sentence_apart h.front h.thing h.first_spells);
  }
    where
      plain : Takes (reader.◌>>=◌ (read_statements.sentence looser depth (read_statements.blocks_inside looser depth))
          (λ found. reader.pure (item.Statement found))) (rule.◌>>=◌ sentence (λ found. rule.pure
          (item.Statement found)))
          (Before v)
      plain = takes_map _ (takes_sentence looser depth _ _ (inside_taken looser depth) none)

      off : (front back rest : Tokens) → HeadIn (among plain_heads) front
          → spec.sees_other_item looser (next ((front ++ back) ++ rest)) ≡ false
      off front back rest w = asks_no {l = plain_heads} asks_other refl ((front ++ back) ++ rest) (rw w.2 (record {
        fits = w.3;
      }))

      go : (front rest : Tokens) (x : Item) → (h : rule.◌>>=◌ sentence (λ found. rule.pure
          (item.Statement found)) front x)
          → Before v rest → access_const h.front h.thing ⊎ HeadIn (among plain_heads) h.front
          → spec.item_line looser depth (front ++ rest) ≡ Ok (x, rest)
      go front rest x h ok (inl c) = (takes_other none).takes front rest x (const_asked front x (record {
        front = h.front;
        back = h.back;
        thing = h.thing;
        split = h.split;
        first_spells = c;
        next_spells = h.next_spells;
      })) ok
      go front rest x h ok (inr w) = rw (ap (λ t. spec.sees_other_item looser (next (t ++ rest))) h.split ∙ off h.front
          h.back rest w) (plain.takes front rest x h ok)

  -- ---- items

  variables_asked : Within (rule.◌>>=◌ (grammar.variables looser depth) ended) (rule.◌>>=◌ asked ended)
  variables_asked = first_wider (within_then (bind_wider (λ before _ _ h. inr (inr h))) (λ _ _ h. inl h))

  procedure_asked : Within (rule.◌>>=◌ (grammar.procedure looser depth) (λ found. ended (item.Procedure found)))
      (rule.◌>>=◌ asked ended)
  procedure_asked = within_then (within_then (bind_wider (λ found. pure_in)) bind_left) (first_wider (within_then
      (first_wider (procedure_apart looser depth)) (within_then or_out (or_within
      (within_then bind_right (within_then (bind_wider (λ before _ _ h. inr (inl h))) (λ _ _ h. inl h)))
      (λ _ _ h. inr (inl h))))))

  class_asked : Within (rule.◌>>=◌ (grammar.class looser depth) (λ found. ended (item.Class found)))
      (rule.◌>>=◌ asked ended)
  class_asked = within_then (within_then (bind_wider (λ found. pure_in)) bind_left) (first_wider (λ _ _ h. inr (inr h)))

  pub takes_item_line : {v : List ℕ} → all_have (outside break_heads) v ≡ true → Takes (spec.item_line looser depth)
      (grammar.item_line looser depth) (Before v)
  takes_item_line none = takes_or (takes_statement none) (takes_or (takes_within variables_asked (takes_other none))
      (takes_or (takes_within procedure_asked (takes_other none)) (takes_within class_asked (takes_other none))))

-- the numbers of the tokens that begin an item
abbrev pub item_heads : List ℕ
item_heads = tag (kind.Keyword k.Class) ∷ tag (kind.Keyword k.Function) ∷ tag (kind.Keyword k.Sub) ∷ sentence_heads

item_tag : (kind : TokenKind) → spec.kind_begins_item kind ≡ among item_heads (tag kind)
item_tag (kind.Keyword k.And) = refl
item_tag (kind.Keyword _) = refl
item_tag (kind.Symbol s.Open) = refl
item_tag (kind.Symbol _) = refl
item_tag _ = refl

asks_item : Asks spec.begins_item item_heads
asks_item = record { none = refl; some = λ token. item_tag token.kind }

module _ (looser : Looser) (depth : ℕ) where
  pub begins_item_line : BeginsIn item_heads (grammar.item_line looser depth)
  begins_item_line = begins_more {m = item_heads} refl (begins_either
      (begins_then (begins_sentence looser depth _ _ (inside_taken looser depth)))
      (begins_either (begins_within (variables_asked looser depth) (begins_then (chosen_item looser depth).begins))
      (begins_either (begins_within (procedure_asked looser depth) (begins_then (chosen_item looser depth).begins))
      (begins_within (class_asked looser depth) (begins_then (chosen_item looser depth).begins)))))

  -- before the end of the tokens
  pub takes_items : Takes (spec.items looser depth) (rule.many (grammar.item_line looser depth)) (Before [])
  takes_items = takes_each spec.begins_item begins_item_line (starts asks_item begins_item_line refl)
      (asks_no asks_item refl) (takes_item_line looser depth refl)
