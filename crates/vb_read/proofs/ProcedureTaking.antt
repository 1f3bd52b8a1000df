-- The readers of procedures and properties take whatever the grammar spells.
use Rattle.std.proofs.Common.{ℕ, zero, suc, inl, inr, List, [], ◌∷◌, Option, Some, None, refl, codes}
use Rattle.vb_value.specs.declared.token.Keyword.TheVariants as k
use Rattle.vb_value.specs.declared.token.TokenKind.TheVariants as kind
use Rattle.vb_syntax.specs.declared.declaration.Access.{Access}
use Rattle.vb_syntax.specs.declared.statement.Statement.{Statement}
use Rattle.vb_syntax.specs.declared.unit.ProcedureKind.{ProcedureKind}
use Rattle.vb_syntax.specs.declared.unit.ProcedureKind.TheVariants as procedure_kind
use Rattle.vb_syntax.specs.declared.unit.Property.{Property}
use Rattle.vb_syntax.specs.grammar.Rules.{Tokens, Rule}
use Rattle.vb_syntax.specs.grammar.Rules as rule
use Rattle.vb_syntax.specs.grammar.Words as words
use Rattle.vb_syntax.specs.grammar.Words.{tag, name_of}
use Rattle.vb_syntax.specs.grammar.Declarations as declarations
use Rattle.vb_syntax.specs.grammar.SimpleStatements as simple
use Rattle.vb_syntax.specs.grammar.SimpleStatements.{Looser}
use Rattle.vb_syntax.specs.grammar.Units as grammar
use Rattle.vb_read.specs.Reader.{sees}
use Rattle.vb_read.specs.ReadDeclarations.{begun}
use Rattle.vb_read.specs.ReadUnits as spec
use Rattle.vb_read.specs.Depths.{opens}
use Rattle.vb_read.proofs.Taking.{Follow, Takes, takes_pure}
use Rattle.vb_read.proofs.Binding.{Within, within_then, bind_wider, or_within, or_wider}
use Rattle.vb_read.proofs.ProcedureReading.{procedure_rest, procedure_open, either_open, property_rest, property_open}
use Rattle.vb_read.proofs.Following.{Before, BeginsIn, Leads, leads_begins, leads_bind, leads_wider, begins_then}
use Rattle.vb_read.proofs.Following.{begins_either, begins_word_then, name_begins, Asks, asks_kind, asks_either}
use Rattle.vb_read.proofs.Following.{starts, Closed, closed_next}
use Rattle.vb_read.proofs.Choosing.{takes_on, takes_off_word, takes_or, takes_word, takes_then, takes_before, Chosen}
use Rattle.vb_read.proofs.Choosing.{chosen, choose, takes_gated}
use Rattle.vb_read.proofs.Placing.{takes_opened, begins_opened, closed_opened}
use Rattle.vb_read.proofs.DeclarationTaking.{access_apart, takes_parameters}
use Rattle.vb_read.proofs.Following.{name_head}
use Rattle.vb_read.proofs.EndTaking.{break_heads, takes_end, begins_end}
use Rattle.vb_read.proofs.IfTaking.{block_heads}
use Rattle.vb_read.proofs.BlockTaking.{blocks_taken}

-- the word before what opens, and what stands behind it
pub opened_apart : {A : Type 0} (word : Rule ℕ) (next : ℕ → ℕ × Option Access → Rule A) (depth : ℕ)
    → Within (declarations.opened depth (λ within. rule.◌>>=◌ (declarations.with_access word) (next within)))
    (rule.◌or◌ (rule.◌>>=◌ declarations.access_word (λ before. declarations.opened depth (λ within.
    rule.◌>>=◌ word (λ line. next within (begun (Some before) line)))))
    (declarations.opened depth (λ within. rule.◌>>=◌ word (λ line. next within (begun None line)))))
opened_apart word next zero = λ front x h. absurd h
opened_apart word next (suc depth) = access_apart {next = next depth}

-- ---- bodies

abbrev end_word : List ℕ
end_word = tag (kind.Keyword k.End) ∷ []

module _ (looser : Looser) where
  pub takes_block : (depth : ℕ) → Takes (spec.block looser depth) (grammar.block looser depth) (Before end_word)
  takes_block depth = takes_before refl (blocks_taken looser depth).block

  leads_block : {B : Type 0} {v : Follow} (depth : ℕ) {f : List Statement → Rule B}
      → ((body : List Statement) → BeginsIn end_word (f body))
      → Leads block_heads (rule.◌>>=◌ (grammar.block looser depth) f) v
  leads_block depth begins = leads_bind (blocks_taken looser depth).leads (λ body. leads_wider {l = end_word} refl
      (leads_begins (begins body)))

  -- ---- procedures

  pub takes_procedure_of : (which : ProcedureKind) (depth : ℕ) (before : Option (ℕ × Access)) {v : Follow}
      → Takes (spec.procedure_of looser which depth before) (procedure_open looser which depth before) v
  takes_procedure_of which depth before {v} = takes_opened depth (λ within. takes_word (λ line. takes_word (λ name.
      takes_then {l = break_heads} (takes_parameters within refl)
      (λ given. takes_then {l = block_heads} (takes_end refl)
      (λ _. takes_then {l = end_word} (takes_block within) (λ body. takes_word (λ _. takes_word (λ _. takes_pure _ v)))
      (λ body. leads_begins (begins_word_then (kind.Keyword k.End))))
      (λ _. leads_block within (λ body. begins_word_then (kind.Keyword k.End))))
      (λ given. leads_begins (begins_then begins_end)))))

  abbrev pub procedure_heads : List ℕ
  procedure_heads = tag (kind.Keyword k.Sub) ∷ tag (kind.Keyword k.Function) ∷ []

  pub asks_procedure : Asks spec.sees_procedure procedure_heads
  asks_procedure = asks_either (asks_kind (kind.Keyword k.Sub)) (asks_kind (kind.Keyword k.Function))

  begins_sub : (depth : ℕ) (before : Option (ℕ × Access)) → BeginsIn (tag (kind.Keyword k.Sub) ∷ [])
      (procedure_open looser procedure_kind.Sub depth before)
  begins_sub depth before = begins_opened depth (λ within. begins_word_then (kind.Keyword k.Sub))

  begins_function : (depth : ℕ) (before : Option (ℕ × Access)) → BeginsIn (tag (kind.Keyword k.Function) ∷ [])
      (procedure_open looser procedure_kind.Function depth before)
  begins_function depth before = begins_opened depth (λ within. begins_word_then (kind.Keyword k.Function))

  pub begins_procedure : (depth : ℕ) (before : Option (ℕ × Access))
      → BeginsIn procedure_heads (either_open looser depth before)
  begins_procedure depth before = begins_either (begins_sub depth before) (begins_function depth before)

  pub takes_procedure : (depth : ℕ) (before : Option (ℕ × Access)) {v : Follow}
      → Takes (spec.procedure looser depth before) (either_open looser depth before) v
  takes_procedure depth before = takes_or
      (takes_on (sees (kind.Keyword k.Sub)) _ (starts (asks_kind (kind.Keyword k.Sub)) (begins_sub depth before) refl)
      (takes_procedure_of procedure_kind.Sub depth before))
      (takes_off_word (kind.Keyword k.Sub) _ (leads_begins (begins_function depth before)) refl
      (takes_procedure_of procedure_kind.Function depth before))

  pub procedure_apart : (depth : ℕ) → Within (grammar.procedure looser depth)
      (rule.◌or◌ (rule.◌>>=◌ declarations.access_word (λ before. either_open looser depth (Some before)))
      (either_open looser depth None))
  procedure_apart depth = or_within
      (within_then (opened_apart (words.keyword k.Sub) (procedure_rest looser procedure_kind.Sub) depth)
      (or_wider (bind_wider (λ before _ _ h. inl h)) (λ _ _ h. inl h)))
      (within_then (opened_apart (words.keyword k.Function) (procedure_rest looser procedure_kind.Function) depth)
      (or_wider (bind_wider (λ before _ _ h. inr h)) (λ _ _ h. inr h)))

  -- ---- properties

  abbrev pub property_kinds : List ℕ
  property_kinds = tag (kind.Keyword k.Get) ∷ tag (kind.Keyword k.Let) ∷ tag (kind.Keyword k.Set) ∷ []

  pub asks_property : Asks spec.sees_property_kind property_kinds
  asks_property = asks_either (asks_kind (kind.Keyword k.Get)) (asks_either (asks_kind (kind.Keyword k.Let))
      (asks_kind (kind.Keyword k.Set)))

  chosen_kind : {v : Follow} → Chosen spec.kind_of_property property_kinds (grammar.kind_of_property looser) v
  chosen_kind {v} = choose (kind.Keyword k.Get) (takes_word (λ _. takes_pure _ v))
      (choose (kind.Keyword k.Let) (takes_word (λ _. takes_pure _ v))
      (chosen (takes_word (λ _. takes_pure _ v)) (begins_word_then (kind.Keyword k.Set))) refl) refl

  pub takes_property_from : (depth : ℕ) (first : ℕ × Option Access) {v : Follow}
      → Takes (spec.property_from looser depth first) (property_open looser depth first) v
  takes_property_from depth first {v} = takes_opened depth (λ within. takes_then {l = name_head} chosen_kind.takes
      (λ which. takes_word (λ name. takes_then {l = break_heads} (takes_parameters within refl)
      (λ given. takes_then {l = block_heads} (takes_end refl)
      (λ _. takes_then {l = end_word} (takes_block within) (λ body. takes_word (λ _. takes_word (λ _. takes_pure _ v)))
      (λ body. leads_begins (begins_word_then (kind.Keyword k.End))))
      (λ _. leads_block within (λ body. begins_word_then (kind.Keyword k.End))))
      (λ given. leads_begins (begins_then begins_end))))
      (λ which. leads_begins (begins_then name_begins)))

  pub begins_property : (depth : ℕ) (first : ℕ × Option Access) → BeginsIn property_kinds
      (property_open looser depth first)
  begins_property depth first = begins_opened depth (λ within. begins_then (chosen_kind {v = Before []}).begins)

  -- a property behind the word "Property"
  abbrev pub property_word : ℕ → Option (ℕ × Access) → Rule Property
  property_word depth before = rule.◌>>=◌ (simple.quoted (codes "property"))
      (λ line. property_open looser depth (begun before line))

  pub property_apart : (depth : ℕ) → Within (grammar.property looser depth)
      (rule.◌or◌ (rule.◌>>=◌ declarations.access_word (λ before. property_word depth (Some before)))
      (property_word depth None))
  property_apart zero = λ front x h. absurd h
  property_apart (suc within) = access_apart {next = property_rest looser within}

  closed_property : (depth : ℕ) → Closed (opens depth) (property_word depth None)
  closed_property depth = closed_next (λ line. closed_opened depth (λ within. property_rest looser within (line, None)))

  pub takes_property_alone : (depth : ℕ) {v : Follow}
      → Takes (spec.property_alone looser depth) (property_word depth None) v
  takes_property_alone depth = takes_gated (opens depth) (closed_property depth) (takes_word
      (λ line. takes_property_from
      depth (line, None)))
