-- The readers of classes, items and units read the grammar's.
use Rattle.std.proofs.Common.{ℕ, zero, suc, inl, inr, Bool, true, false, List, [], ◌∷◌, ◌++◌, Some, None, refl, codes}
use Rattle.vb_value.specs.declared.token.Keyword.TheVariants as k
use Rattle.vb_value.specs.declared.token.Symbol.TheVariants as s
use Rattle.vb_value.specs.declared.token.TokenKind.TheVariants as kind
use Rattle.vb_syntax.specs.declared.declaration.Access.{Access}
use Rattle.vb_syntax.specs.declared.statement.Statement.{Statement}
use Rattle.vb_syntax.specs.declared.unit.Class.{Class}
use Rattle.vb_syntax.specs.declared.unit.ClassMember.{ClassMember}
use Rattle.vb_syntax.specs.declared.unit.ClassMember.TheVariants as member
use Rattle.vb_syntax.specs.declared.unit.FieldAccess.{FieldAccess}
use Rattle.vb_syntax.specs.declared.unit.FieldAccess.TheVariants as field
use Rattle.vb_syntax.specs.declared.unit.Item.{Item}
use Rattle.vb_syntax.specs.declared.unit.Item.TheVariants as item
use Rattle.vb_syntax.specs.declared.unit.Unit.{Unit as Script}
use Rattle.vb_syntax.specs.grammar.Rules.{Tokens, Rule}
use Rattle.vb_syntax.specs.grammar.Rules as rule
use Rattle.vb_syntax.specs.grammar.Words as words
use Rattle.vb_syntax.specs.grammar.Words.{name_of}
use Rattle.vb_syntax.specs.grammar.Declarations as declarations
use Rattle.vb_syntax.specs.grammar.SimpleStatements as simple
use Rattle.vb_syntax.specs.grammar.SimpleStatements.{Looser, quoted_at}
use Rattle.vb_syntax.specs.grammar.Statements as statements
use Rattle.vb_syntax.specs.grammar.Units as grammar
use Rattle.vb_read.specs.Reader.{Reader}
use Rattle.vb_read.specs.Reader as reader
use Rattle.vb_read.specs.ReadExpressions as read
use Rattle.vb_read.specs.ReadDeclarations as read_declarations
use Rattle.vb_read.specs.ReadDeclarations.{begun}
use Rattle.vb_read.specs.ReadLines as lines
use Rattle.vb_read.specs.ReadUnits as spec
use Rattle.vb_read.proofs.Reading.{Reads, Lives, NoEmpty, reads_pure, reads_refuse, reads_wider, reads_bind, reads_one}
use Rattle.vb_read.proofs.Reading.{reads_choice, reads_both, reads_many, reads_word, reads_name, full_one, full_bind}
use Rattle.vb_read.proofs.Reading.{full_word, token_of, Moves, moves}
use Rattle.vb_read.proofs.Binding.{Within, within_then, bind_wider, first_wider, bind_left, bind_right, pure_in}
use Rattle.vb_read.proofs.Binding.{pure_out, bind_or, or_out, or_within}
use Rattle.vb_read.proofs.BlankTexts.{blank_is_text, blank_line, blank_statement, as_texts, many_joined}
use Rattle.vb_read.proofs.BlankTexts.{explicit_word, explicit_open, explicit_closed}
use Rattle.vb_read.proofs.ExpressionReading.{reads_list_of}
use Rattle.vb_read.proofs.DeclarationReading.{reads_opened_then, bounds_behind, reads_declared_from, reads_declared}
use Rattle.vb_read.proofs.DeclarationReading.{reads_access_word, with_access}
use Rattle.vb_read.proofs.SimpleReading.{full_or, reads_property_word, const_behind, reads_const_from}
use Rattle.vb_read.proofs.LineReading.{reads_end}
use Rattle.vb_read.proofs.StatementReading.{reads_passed_texts, inner_blocks, reads_sentence, full_sentence}
use Rattle.vb_read.proofs.ProcedureReading.{full_opened, full_with_access, either_open, reads_procedure}
use Rattle.vb_read.proofs.ProcedureReading.{procedure_behind, procedure_alone, full_procedure, property_open}
use Rattle.vb_read.proofs.ProcedureReading.{reads_property_open, reads_property_from, plain_name, reads_quoted_name}
use Rattle.vb_read.proofs.ProcedureReading.{property_behind, property_alone}

-- ---- blank texts

pub reads_blank_item : Reads spec.blank_item blank_line
reads_blank_item = reads_bind (reads_one spec.blank_at (token_of (kind.PageText [])) (1, []) refl)
    (λ found. reads_bind reads_end (λ _. reads_pure _))

pub full_blank_line : NoEmpty blank_line
full_blank_line = full_bind _ _ (full_one spec.blank_at)

-- a blank text takes a token
pub moves_blank_item : Moves spec.blank_item
moves_blank_item = moves _ _ reads_blank_item full_blank_line

-- ---- fields

-- what stands behind the name of a first field
abbrev pub fields_rest : ℕ → ℕ → FieldAccess → List ℕ → Rule ClassMember
fields_rest depth line access name = rule.◌>>=◌ (rule.◌>>=◌ (bounds_behind depth) (λ found. rule.pure (record {
  name = name;
  bounds = found;
}))) (λ first. rule.◌>>=◌ (rule.many (rule.◌>>◌ (words.symbol s.Comma) (declarations.declared depth)))
    (λ more. rule.pure (member.Fields line access (first ∷ more))))

-- what stands behind the word before fields
abbrev pub fields_of : ℕ → ℕ × FieldAccess → Rule ClassMember
fields_of depth first = rule.◌>>=◌ (words.list_of (declarations.declared depth))
    (λ found. rule.pure (member.Fields first.0 first.1 found))

pub reads_fields_from : (depth line : ℕ) (access : FieldAccess) (name : List ℕ)
    → Reads (spec.fields_from depth line access name) (fields_rest depth line access name)
reads_fields_from depth line access name = reads_bind (reads_declared_from depth name) (λ first. reads_bind
    (reads_many (reader.sees (kind.Symbol s.Comma)) (reads_bind (reads_word (kind.Symbol s.Comma))
    (λ _. reads_declared depth)) (full_bind _ _ (full_word (kind.Symbol s.Comma))) refl)
    (λ more. reads_pure _))

-- a name, and the fields of which it is the first's
pub named_fields : (depth line : ℕ) (access : FieldAccess)
    → Within (rule.◌>>=◌ (rule.one name_of) (λ name. fields_rest depth line access name)) (fields_of depth
    (line, access))
named_fields depth line access = within_then bind_left (within_then (bind_wider (λ first. within_then (bind_wider
    (λ more. pure_in)) bind_left)) bind_left)

module _ (looser : Looser) where
  -- "Public" or "Private" before fields
  pub access_fields : (depth : ℕ) → Within (rule.◌>>=◌ declarations.access_word (λ before. fields_of depth (
    before.0,
    spec.field_access before.1,
  ))) (grammar.fields looser depth)
  access_fields depth = within_then or_out (or_within
      (within_then bind_right (within_then (bind_wider (λ line. within_then pure_out (pure_in {y =
      (line, field.Public)})))
      (within_then bind_left (first_wider (λ _ _ h. inr (inl h))))))
      (within_then bind_right (within_then (bind_wider (λ line. within_then pure_out (pure_in {y =
      (line, field.Private)})))
      (within_then bind_left (first_wider (λ _ _ h. inr (inr h)))))))

  dim_fields : (depth : ℕ) → Within (rule.◌>>=◌ (words.keyword k.Dim) (λ line. rule.◌>>=◌ (rule.one name_of)
      (λ name. fields_rest depth line field.Dim name))) (grammar.fields looser depth)
  dim_fields depth = within_then (bind_wider (λ line. within_then (named_fields depth line field.Dim)
      (pure_in {y = (line, field.Dim)}))) (within_then bind_left (first_wider (λ _ _ h. inl h)))

  reads_dim_fields : (depth : ℕ) → Reads (spec.dim_fields depth) (grammar.fields looser depth)
  reads_dim_fields depth = reads_wider (dim_fields depth) (reads_bind (reads_word (kind.Keyword k.Dim))
      (λ line. reads_bind reads_name (λ name. reads_fields_from depth line field.Dim name)))

  -- ---- members of a class

  lives_member : (depth : ℕ) → Lives (grammar.class_member looser depth)
  lives_member depth = let l = (reads_dim_fields depth).lives in record {
    tokens = l.tokens;
    thing = l.thing;
    spells = inl l.spells;
  }

  abbrev method_behind : ℕ → ℕ × Access → Rule ClassMember
  method_behind depth before = rule.◌>>=◌ (either_open looser depth (Some before)) (λ found. rule.pure (member.Method
      found))

  abbrev fields_behind : ℕ → ℕ × Access → List ℕ → Rule ClassMember
  fields_behind depth before name = fields_rest depth before.0 (spec.field_access before.1) name

  abbrev property_member : ℕ → ℕ × Access → Rule ClassMember
  property_member depth before = rule.◌>>=◌ (property_open looser depth (before.0, Some before.1))
      (λ found. rule.pure (member.Property found))

  abbrev quoted_rest : ℕ → ℕ × Access → List ℕ → Rule ClassMember
  quoted_rest depth before name = rule.◌or◌ (property_member depth before) (fields_behind depth before name)

  abbrev member_behind : ℕ → ℕ × Access → Rule ClassMember
  member_behind depth before = rule.◌or◌ (method_behind depth before)
      (rule.◌or◌ (rule.◌>>=◌ (rule.one (spec.quoted_name (codes "property"))) (quoted_rest depth before))
      (rule.◌>>=◌ (rule.one name_of) (fields_behind depth before)))

  reads_behind_property : (depth : ℕ) (before : ℕ × Access) (name : List ℕ)
      → Reads (spec.behind_property looser depth before name) (quoted_rest depth before name)
  reads_behind_property depth before name =
      let fields : Reads (spec.fields_from depth before.0 (spec.field_access before.1) name)
      (quoted_rest depth before name) =
      reads_wider (λ _ _ h. inr h) (reads_fields_from depth before.0 (spec.field_access before.1) name) in
      reads_both spec.sees_property_kind (reads_property_from looser depth (before.0, Some before.1) member.Property
      (quoted_rest depth before name) fields.lives (λ _ _ h. inl h)) fields

  reads_behind_access : (depth : ℕ) (before : ℕ × Access)
      → Reads (spec.behind_access looser depth before) (member_behind depth before)
  reads_behind_access depth before =
      let fields : Reads (reader.◌>>=◌ (reader.one name_of) (λ name. spec.fields_from depth before.0 (spec.field_access
      before.1) name)) (member_behind depth before) = reads_wider (λ _ _ h. inr (inr h)) (reads_bind reads_name
      (λ name. reads_fields_from depth before.0 (spec.field_access before.1) name)) in
      reads_both spec.sees_procedure (reads_procedure looser depth (Some before) member.Method
      (member_behind depth before)
      fields.lives (λ _ _ h. inl h))
      (reads_both (reader.passes (quoted_at (codes "property")))
      (reads_wider (λ _ _ h. inr (inl h)) (reads_bind reads_quoted_name (λ name. reads_behind_property depth before
      name)))
      fields)

  quoted_spells : (depth : ℕ) → Within (rule.◌>>=◌ declarations.access_word (λ before. rule.◌>>=◌ (rule.one
      (spec.quoted_name (codes "property"))) (quoted_rest depth before))) (grammar.class_member looser depth)
  quoted_spells depth = within_then (bind_wider (λ before. bind_or)) (within_then bind_or (or_within
      (within_then (bind_wider (λ before. bind_left)) (within_then bind_left (within_then (first_wider
      (property_behind looser depth)) (λ _ _ h. inr (inr h)))))
      (within_then (bind_wider (λ before. within_then (first_wider (plain_name (codes "property"))) (named_fields depth
      before.0 (spec.field_access before.1)))) (within_then (access_fields depth) (λ _ _ h. inl h)))))

  member_spells : (depth : ℕ) → Within (rule.◌>>=◌ declarations.access_word (member_behind depth))
      (grammar.class_member looser depth)
  member_spells depth = within_then bind_or (or_within
      (within_then bind_left (within_then (first_wider (procedure_behind looser depth)) (λ _ _ h. inr (inl h))))
      (within_then bind_or (or_within (quoted_spells depth)
      (within_then (bind_wider (λ before. named_fields depth before.0 (spec.field_access before.1)))
      (within_then (access_fields depth) (λ _ _ h. inl h))))))

  reads_property_alone : (depth : ℕ) → Reads (reader.◌>>=◌ (spec.property_alone looser depth)
      (λ found. reader.pure (member.Property found))) (grammar.class_member looser depth)
  reads_property_alone zero = record {
    meets = λ tokens. (reads_refuse (grammar.class_member looser zero) (lives_member zero)).meets tokens;
    lives = lives_member zero;
  }
  reads_property_alone (suc within) = reads_wider (within_then (first_wider (λ front x h. property_alone looser
      (suc within) front x (refl, h))) (λ _ _ h. inr (inr h))) (reads_bind (reads_bind reads_property_word (λ line.
      reads_property_open looser within (line, None))) (λ found. reads_pure (member.Property found)))

  pub reads_class_member : (depth : ℕ) → Reads (spec.class_member looser depth) (grammar.class_member looser depth)
  reads_class_member depth = reads_both read_declarations.sees_access
      (reads_wider (member_spells depth) (reads_bind reads_access_word (reads_behind_access depth)))
      (reads_both (reader.sees (kind.Keyword k.Dim)) (reads_wider (λ _ _ h. inl h) (reads_dim_fields depth))
      (reads_both spec.sees_procedure (reads_procedure looser depth None member.Method
      (grammar.class_member looser depth)
      (lives_member depth) (within_then (first_wider (procedure_alone looser depth)) (λ _ _ h. inr (inl h))))
      (reads_property_alone depth)))

  full_member : (depth : ℕ) → NoEmpty (grammar.class_member looser depth)
  full_member depth = full_or _ _ (full_bind _ _ (full_or _ _ (full_bind _ _ (full_word (kind.Keyword k.Dim)))
      (full_or _ _ (full_bind _ _ (full_word (kind.Keyword k.Public))) (full_bind _ _ (full_word (kind.Keyword
      k.Private))))))
      (full_or _ _ (full_bind _ _ (full_procedure looser depth))
      (full_bind _ _ (full_opened depth (λ within. full_bind _ _ (full_with_access (simple.quoted (codes "property"))
      (full_one (quoted_at (codes "property"))))))))

  reads_member_line : (depth : ℕ) → Reads (spec.member_line looser depth) (grammar.member_line looser depth)
  reads_member_line depth = reads_bind (reads_class_member depth) (λ found. reads_bind reads_end (λ _. reads_bind
      (reads_passed_texts looser.texts) (λ _. reads_pure found)))

  -- a member takes a token
  pub moves_member_line : (depth : ℕ) → Moves (spec.member_line looser depth)
  moves_member_line depth = moves _ _ (reads_member_line depth) (full_bind _ _ (full_member depth))

  reads_class : {B : Type 0} (depth : ℕ) (made : Class → B) (whole : Rule B) → Lives whole
      → Within (rule.◌>>=◌ (grammar.class looser depth) (λ found. rule.pure (made found))) whole
      → Reads (reader.◌>>=◌ (spec.class looser depth) (λ found. reader.pure (made found))) whole
  reads_class depth made whole lives wider = reads_opened_then depth lives wider
      (λ within. reads_bind (reads_word (kind.Keyword k.Class)) (λ line. reads_bind reads_name
      (λ name. reads_bind reads_end
      (λ _. reads_bind (reads_passed_texts looser.texts) (λ _. reads_bind (reads_many spec.begins_member
      (reads_member_line within)
      (full_bind _ _ (full_member within)) refl) (λ members. reads_bind (reads_word (kind.Keyword k.End))
      (λ _. reads_bind
      (reads_word (kind.Keyword k.Class)) (λ _. reads_pure _))))))))
      (λ found. reads_pure (made found))

  -- ---- items

  abbrev const_item : ℕ → Rule Item
  const_item depth = rule.◌>>=◌ (simple.const looser depth) (λ found. rule.pure (item.Statement found))

  abbrev procedure_item : ℕ → Rule Item
  procedure_item depth = rule.◌>>=◌ (grammar.procedure looser depth) (λ found. rule.pure (item.Procedure found))

  abbrev class_item : ℕ → Rule Item
  class_item depth = rule.◌>>=◌ (grammar.class looser depth) (λ found. rule.pure (item.Class found))

  -- what no other statement is, but for its end
  abbrev other_item : ℕ → Rule Item
  other_item depth = rule.◌or◌ (const_item depth) (rule.◌or◌ (grammar.variables looser depth)
      (rule.◌or◌ (procedure_item depth) (class_item depth)))

  -- what stands behind "Public" or "Private"
  abbrev variables_behind : ℕ → ℕ × Access → Rule Item
  variables_behind depth before = rule.◌>>=◌ (words.list_of (declarations.declared depth))
      (λ found. rule.pure (item.Variables before.0 before.1 found))

  abbrev item_behind : ℕ → ℕ × Access → Rule Item
  item_behind depth before = rule.◌or◌ (rule.◌>>=◌ (rule.◌>>=◌ (words.keyword k.Const) (λ line. const_behind (begun
      (Some
      before) line))) (λ found. rule.pure (item.Statement found)))
      (rule.◌or◌ (rule.◌>>=◌ (either_open looser depth (Some before)) (λ found. rule.pure (item.Procedure found)))
      (variables_behind depth before))

  reads_item_behind : (depth : ℕ) (before : ℕ × Access)
      → Reads (spec.item_behind looser depth before) (item_behind depth before)
  reads_item_behind depth before =
      let variables : Reads (reader.◌>>=◌ (read.list_of (read_declarations.declared depth)) (λ found. reader.pure
      (item.Variables before.0 before.1 found))) (item_behind depth before) = reads_wider (λ _ _ h. inr (inr h))
      (reads_bind (reads_list_of (reads_declared depth)) (λ found. reads_pure _)) in
      reads_both (reader.sees (kind.Keyword k.Const)) (reads_wider (λ _ _ h. inl h) (reads_bind (reads_const_from (Some
      before)) (λ found. reads_pure (item.Statement found))))
      (reads_both spec.sees_procedure (reads_procedure looser depth (Some before) item.Procedure
      (item_behind depth before)
      variables.lives (λ _ _ h. inr (inl h))) variables)

  item_spells : (depth : ℕ) → Within (rule.◌>>=◌ declarations.access_word (item_behind depth)) (other_item depth)
  item_spells depth = within_then bind_or (or_within
      (within_then bind_left (within_then (first_wider (with_access {next = const_behind})) (λ _ _ h. inl h)))
      (within_then bind_or (or_within
      (within_then bind_left (within_then (first_wider (procedure_behind looser depth)) (λ _ _ h. inr (inr (inl h)))))
      (λ _ _ h. inr (inl h)))))

  reads_other_item : (depth : ℕ) → Reads (spec.other_item looser depth) (other_item depth)
  reads_other_item depth =
      let behind : Reads (reader.◌>>=◌ read_declarations.access_word (spec.item_behind looser depth))
      (other_item depth) =
      reads_wider (item_spells depth) (reads_bind reads_access_word (reads_item_behind depth)) in
      reads_both read_declarations.sees_access behind
      (reads_both spec.sees_procedure (reads_procedure looser depth None item.Procedure (other_item depth) behind.lives
      (within_then (first_wider (procedure_alone looser depth)) (λ _ _ h. inr (inr (inl h)))))
      (reads_class depth item.Class (other_item depth) behind.lives (λ _ _ h. inr (inr (inr h)))))

  abbrev ended : Item → Rule Item
  ended found = rule.◌>>◌ statements.«end» (rule.pure found)

  -- an item that is made of what a rule gives, with its end behind it
  made_ended : {A : Type 0} {r : Rule A} {made : A → Item} → Within (rule.◌>>=◌ (rule.◌>>=◌ r (λ found. rule.pure (made
      found))) ended) (rule.◌>>=◌ r (λ found. ended (made found)))
  made_ended = within_then bind_right (bind_wider (λ found. pure_out))

  const_spells : (depth : ℕ) → Within (rule.◌>>=◌ (const_item depth) ended) (grammar.item_line looser depth)
  const_spells depth = within_then made_ended (within_then (within_then (bind_wider (λ found. within_then (bind_wider
      (λ _. pure_in)) bind_left)) bind_left) (λ front x h. inl (first_wider (λ _ _ g. inl (first_wider
      (λ _ _ w. inl w) _ _
      g)) front x h)))

  line_spells : (depth : ℕ) → Within (rule.◌>>=◌ (other_item depth) ended) (grammar.item_line looser depth)
  line_spells depth = within_then or_out (or_within (const_spells depth)
      (within_then or_out (or_within (λ _ _ h. inr (inl h))
      (within_then or_out (or_within (within_then made_ended (λ _ _ h. inr (inr (inl h))))
      (within_then made_ended (λ _ _ h. inr (inr (inr h)))))))))

  pub reads_item_line : (depth : ℕ) → Reads (spec.item_line looser depth) (grammar.item_line looser depth)
  reads_item_line depth = reads_both (spec.sees_other_item looser)
      (reads_wider (line_spells depth) (reads_bind (reads_other_item depth) (λ found. reads_bind reads_end
      (λ _. reads_pure found))))
      (reads_wider (λ _ _ h. inl h) (reads_bind (reads_sentence looser depth _ _ (inner_blocks looser depth))
      (λ found. reads_pure (item.Statement found))))

  full_item_line : (depth : ℕ) → NoEmpty (grammar.item_line looser depth)
  full_item_line depth = full_or _ _ (full_bind _ _ (full_sentence looser depth _ _ (inner_blocks looser depth)))
      (full_or _ _ (full_bind _ _ (full_bind _ _ (full_or _ _ (full_bind _ _ (full_word (kind.Keyword k.Public)))
      (full_bind _ _ (full_word (kind.Keyword k.Private))))))
      (full_or _ _ (full_bind _ _ (full_procedure looser depth))
      (full_bind _ _ (full_opened depth (λ within. full_bind _ _ (full_word (kind.Keyword k.Class)))))))

  -- ---- units

  -- an item takes a token
  pub moves_item_line : (depth : ℕ) → Moves (spec.item_line looser depth)
  moves_item_line depth = moves _ _ (reads_item_line depth) (full_item_line depth)

  reads_explicit_word : Reads (reader.one (quoted_at (codes "explicit"))) (simple.quoted (codes "explicit"))
  reads_explicit_word = reads_one (quoted_at (codes "explicit")) (token_of (kind.Name (codes "explicit") false)) 1 refl

  -- ---- blank texts before them

  sentence_item : {r : Rule Statement} (depth : ℕ) → Within r (simple.simple looser depth)
      → Within (rule.◌>>=◌ r (λ found. ended (item.Statement found))) (grammar.item_line looser depth)
  sentence_item depth wider = within_then (within_then (bind_wider (λ found. within_then (bind_wider (λ _. pure_in))
      bind_left)) bind_left) (λ front x h. inl (first_wider (λ _ _ g. inl (first_wider (λ _ _ w. inr (inr (wider _ _
      w))) _ _ g)) front x h))

  -- a blank text is an item
  blank_spells : (depth : ℕ) → Within blank_line (grammar.item_line looser depth)
  blank_spells depth = within_then (first_wider blank_text) (within_then (within_then (bind_wider (λ found. pure_in {y =
      blank_statement found})) bind_left) (sentence_item {r = rule.◌>>=◌ simple.page_text (λ found. rule.pure
      (blank_statement found))} depth (λ _ _ h. inr (inr (inr (inr (inr (inr (inr (inr (inr (inl h))))))))))))
    where
      blank_text : Within (rule.one spec.blank_at) simple.page_text
      blank_text front x h = record {
        token = h.token;
        alone = h.alone;
        passes = blank_is_text h.token x h.passes;
      }

  -- ---- Option Explicit

  reads_option_explicit : Reads (spec.option_explicit looser) (rule.◌or◌ explicit_word (rule.pure false))
  reads_option_explicit = reads_choice (reader.sees (kind.Keyword k.Option))
      (reads_bind (reads_word (kind.Keyword k.Option)) (λ _. reads_bind reads_explicit_word (λ _. reads_bind reads_end
      (λ _. reads_pure true))))
      (reads_pure false)

  -- the items of a script, behind those that were read before them
  abbrev pub items_behind : ℕ → List Item → Bool → Rule Script
  items_behind depth first explicit = rule.◌>>=◌ (rule.many (grammar.item_line looser depth)) (λ found. rule.pure
      (record { option_explicit = explicit; items = spec.kept explicit first ++ found }))

  -- the items of a script
  abbrev pub items_of : ℕ → Bool → Rule Script
  items_of depth explicit = rule.◌>>=◌ (rule.many (grammar.item_line looser depth)) (λ found. rule.pure
      (record { option_explicit = explicit; items = found }))

  -- what is read behind the first end
  abbrev pub unit_behind : ℕ → Rule Script
  unit_behind depth = rule.◌>>=◌ (rule.many blank_line) (λ first. rule.◌>>=◌ (rule.◌or◌ explicit_word (rule.pure
      false)) (items_behind depth first))

  unit_spells : (depth : ℕ) → Within (unit_behind depth) (rule.◌>>=◌ (grammar.option_explicit looser) (items_of depth))
  unit_spells depth = within_then (bind_wider (λ first. or_out)) (within_then bind_or (or_within
      (within_then (bind_wider (λ first. explicit_open)) (within_then as_texts (within_then (bind_wider (λ _.
      explicit_closed {s = items_of depth})) (within_then bind_left (first_wider (λ _ _ h. inl h))))))
      (within_then (bind_wider (λ first. pure_out)) (within_then (many_joined {g = λ found. record {
        option_explicit = false;
        items = found;
      }} (blank_spells depth)) (within_then (pure_in {y = false}) (first_wider (λ _ _ h. inr h)))))))

  pub reads_unit : (depth : ℕ) → Reads (spec.unit looser depth) (grammar.unit looser depth)
  reads_unit depth = reads_wider (bind_wider (λ _. unit_spells depth)) (reads_bind (reads_choice lines.breaks reads_end
      (reads_pure tt)) (λ _. reads_bind (reads_many (reader.passes spec.blank_at) reads_blank_item full_blank_line refl)
      (λ first. reads_bind reads_option_explicit (λ explicit. reads_bind (reads_many spec.begins_item (reads_item_line
      depth) (full_item_line depth) refl) (λ items. reads_pure _)))))
