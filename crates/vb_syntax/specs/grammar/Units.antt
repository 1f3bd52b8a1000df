-- Procedures, classes and whole units: which token lists spell which of them, and which faults they have.
use Rattle.std.specs.Prelude.{ℕ, Bool, true, false, List, codes}
use Rattle.vb_value.specs.declared.token.Keyword.TheVariants as k
use Rattle.vb_syntax.specs.declared.statement.Statement.{Statement}
use Rattle.vb_syntax.specs.declared.unit.Class.{Class}
use Rattle.vb_syntax.specs.declared.unit.ClassMember.{ClassMember}
use Rattle.vb_syntax.specs.declared.unit.ClassMember.TheVariants as member
use Rattle.vb_syntax.specs.declared.unit.FieldAccess.{FieldAccess}
use Rattle.vb_syntax.specs.declared.unit.FieldAccess.TheVariants as field
use Rattle.vb_syntax.specs.declared.unit.Item.{Item}
use Rattle.vb_syntax.specs.declared.unit.Item.TheVariants as item
use Rattle.vb_syntax.specs.declared.unit.Procedure.{Procedure}
use Rattle.vb_syntax.specs.declared.unit.ProcedureKind.TheVariants as procedure_kind
use Rattle.vb_syntax.specs.declared.unit.Property.{Property}
use Rattle.vb_syntax.specs.declared.unit.PropertyKind.{PropertyKind}
use Rattle.vb_syntax.specs.declared.unit.PropertyKind.TheVariants as property_kind
use Rattle.vb_syntax.specs.declared.unit.Unit.{Unit as Script}
use Rattle.vb_syntax.specs.grammar.Rules.{Tokens, Rule, pure, ◌>>=◌, ◌>>◌, ◌or◌, one, many}
use Rattle.vb_syntax.specs.grammar.Words.{keyword, list_of, name_of}
use Rattle.vb_syntax.specs.grammar.Declarations.{opened, access_word, with_access, declared, parameters}
use Rattle.vb_syntax.specs.grammar.SimpleStatements.{Looser, quoted}
use Rattle.vb_syntax.specs.grammar.Statements.{«end», blocks, blocks_inside, passed_texts, sentence}
use Rattle.vb_syntax.specs.grammar.Faults.{WouldGoOn}

module _ (looser : Looser) where
  -- block = { ( stmt | const ) end }
  abbrev pub block : ℕ → Rule (List Statement)
  block depth = (blocks looser depth).block

  -- [ "Public" | "Private" ] "Sub" name [ params ] end block "End" "Sub"
  abbrev pub sub : ℕ → Rule Procedure
  sub depth = opened depth (λ within. do
    first ← with_access (keyword k.Sub)
    name ← one name_of
    given ← parameters within
    «end»
    body ← block within
    keyword k.End
    keyword k.Sub
    pure (record {
      line = first.0;
      access = first.1;
      kind = procedure_kind.Sub;
      name = name;
      parameters = given;
      body = body;
    }))

  -- [ "Public" | "Private" ] "Function" name [ params ] end block "End" "Function"
  abbrev pub function : ℕ → Rule Procedure
  function depth = opened depth (λ within. do
    first ← with_access (keyword k.Function)
    name ← one name_of
    given ← parameters within
    «end»
    body ← block within
    keyword k.End
    keyword k.Function
    pure (record {
      line = first.0;
      access = first.1;
      kind = procedure_kind.Function;
      name = name;
      parameters = given;
      body = body;
    }))

  -- proc
  abbrev pub procedure : ℕ → Rule Procedure
  procedure depth = sub depth or function depth

  -- "Get" | "Let" | "Set"
  abbrev pub kind_of_property : Rule PropertyKind
  kind_of_property = (do keyword k.Get; pure property_kind.Get)
      or (do keyword k.Let; pure property_kind.Let)
      or (do keyword k.Set; pure property_kind.Set)

  -- [ "Public" | "Private" ] "Property" ( "Get" | "Let" | "Set" ) name [ params ] end block "End" "Property"
  abbrev pub property : ℕ → Rule Property
  property depth = opened depth (λ within. do
    first ← with_access (quoted (codes "property"))
    kind ← kind_of_property
    name ← one name_of
    given ← parameters within
    «end»
    body ← block within
    keyword k.End
    quoted (codes "property")
    pure (record {
      line = first.0;
      access = first.1;
      kind = kind;
      name = name;
      parameters = given;
      body = body;
    }))

  -- "Dim" | "Public" | "Private", with its line
  abbrev pub field_access : Rule (ℕ × FieldAccess)
  field_access = (do line ← keyword k.Dim; pure (line, field.Dim))
      or (do line ← keyword k.Public; pure (line, field.Public))
      or (do line ← keyword k.Private; pure (line, field.Private))

  -- ( "Dim" | "Public" | "Private" ) decl { "," decl }
  abbrev pub fields : ℕ → Rule ClassMember
  fields depth = do
    first ← field_access
    found ← list_of (declared depth)
    pure (member.Fields first.0 first.1 found)

  -- member
  abbrev pub class_member : ℕ → Rule ClassMember
  class_member depth = fields depth
      or (do found ← procedure depth; pure (member.Method found))
      or (do found ← property depth; pure (member.Property found))

  -- a member and its end, before texts that are passed over
  abbrev pub member_line : ℕ → Rule ClassMember
  member_line depth = do found ← class_member depth; «end»; passed_texts looser.texts; pure found

  -- class = "Class" name end { member end } "End" "Class", with blank texts before and between the members
  abbrev pub class : ℕ → Rule Class
  class depth = opened depth (λ within. do
    line ← keyword k.Class
    name ← one name_of
    «end»
    passed_texts looser.texts
    members ← many (member_line within)
    keyword k.End
    keyword k.Class
    pure (record { line = line; name = name; members = members }))

  -- ( "Public" | "Private" ) decl { "," decl }
  abbrev pub variables : ℕ → Rule Item
  variables depth = do
    first ← access_word
    found ← list_of (declared depth)
    pure (item.Variables first.0 first.1 found)

  -- item end
  abbrev pub item_line : ℕ → Rule Item
  item_line depth = (do found ← sentence looser depth (blocks_inside looser depth); pure (item.Statement found))
      or (do found ← variables depth; «end»; pure found)
      or (do found ← procedure depth; «end»; pure (item.Procedure found))
      or (do found ← class depth; «end»; pure (item.Class found))

  -- [ "Option" "Explicit" end ], and whether it stands there. Blank texts before it are passed over.
  abbrev pub option_explicit : Rule Bool
  option_explicit = (do passed_texts false; keyword k.Option; quoted (codes "explicit"); «end»; pure true)
      or pure false

  -- unit = [ end ] [ "Option" "Explicit" end ] { item end }
  abbrev pub unit : ℕ → Rule Script
  unit depth = do
    «end» or pure tt
    explicit ← option_explicit
    items ← many (item_line depth)
    pure (record { option_explicit = explicit; items = items })

-- the grammar as it is
abbrev pub strict : Looser
strict = record { several = false; texts = false }

-- The tokens spell the unit.
abbrev pub Derives : Tokens → Script → Type 0
Derives = unit strict 200

-- ---- kinds of faults

-- The fault is TooDeep: with one more construct open a unit goes on with the token that is left.
abbrev pub IsTooDeep : Tokens → Tokens → Type 0
IsTooDeep = WouldGoOn (unit strict 201)

-- The fault is CallParens: a unit goes on if the parenthesis of a call statement may hold several expressions.
abbrev pub IsCallParens : Tokens → Tokens → Type 0
IsCallParens = WouldGoOn (unit (record { several = true; texts = false }) 200)

-- The fault is TextHere: a unit goes on if text may stand inside Class and in the head of Select.
abbrev pub IsTextHere : Tokens → Tokens → Type 0
IsTextHere = WouldGoOn (unit (record { several = false; texts = true }) 200)
