-- How procedures, classes and whole units are printed: the words of each construct in the grammar's order. The words of
-- each stand in its line, and those of the statements in it in theirs.
use Rattle.std.specs.Prelude.{ℕ, Bool, true, false, List, [], ◌∷◌, ◌++◌, map, codes}
use Rattle.vb_value.specs.declared.token.Keyword.{Keyword}
use Rattle.vb_value.specs.declared.token.Keyword.TheVariants as k
use Rattle.vb_value.specs.declared.token.Symbol.TheVariants as s
use Rattle.vb_syntax.specs.declared.declaration.Access.{Access}
use Rattle.vb_syntax.specs.declared.declaration.Access.TheVariants as access
use Rattle.vb_syntax.specs.declared.declaration.Parameter.{Parameter}
use Rattle.vb_syntax.specs.declared.unit.Class.{Class}
use Rattle.vb_syntax.specs.declared.unit.ClassMember.{ClassMember}
use Rattle.vb_syntax.specs.declared.unit.ClassMember.TheVariants as member
use Rattle.vb_syntax.specs.declared.unit.FieldAccess.{FieldAccess}
use Rattle.vb_syntax.specs.declared.unit.FieldAccess.TheVariants as field
use Rattle.vb_syntax.specs.declared.unit.Item.{Item}
use Rattle.vb_syntax.specs.declared.unit.Item.TheVariants as item
use Rattle.vb_syntax.specs.declared.unit.Procedure.{Procedure}
use Rattle.vb_syntax.specs.declared.unit.ProcedureKind.{ProcedureKind}
use Rattle.vb_syntax.specs.declared.unit.ProcedureKind.TheVariants as procedure_kind
use Rattle.vb_syntax.specs.declared.unit.Property.{Property}
use Rattle.vb_syntax.specs.declared.unit.PropertyKind.{PropertyKind}
use Rattle.vb_syntax.specs.declared.unit.PropertyKind.TheVariants as property_kind
use Rattle.vb_syntax.specs.declared.unit.Unit.{Unit as Script}
use Rattle.vb_syntax.specs.grammar.Rules.{Tokens}
use Rattle.vb_print.specs.Words.{keyword, symbol, name, quoted, listed}
use Rattle.vb_print.specs.Statements.{access_words, declared_words, line_end, block_words}
use Rattle.vb_print.specs.Statements.{statement_words, body_words}

-- ---- procedures

-- `ByVal`, or nothing
abbrev pub passing_words : ℕ → Bool → Tokens
passing_words line true = keyword line k.ByVal ∷ []
passing_words line false = []

-- a parameter
abbrev pub parameter_words : ℕ → Parameter → Tokens
parameter_words line found = passing_words line found.by_value ++ name line found.name ∷ []

-- the parameters of a procedure, with their parentheses where there are any
abbrev pub parameters_words : ℕ → List Parameter → Tokens
parameters_words line [] = []
parameters_words line (first ∷ more) =
    symbol line s.Open ∷ listed line (map (parameter_words line) (first ∷ more)) ++ symbol line s.Close ∷ []

-- Sub or Function
abbrev pub procedure_word : ProcedureKind → Keyword
procedure_word procedure_kind.Sub = k.Sub
procedure_word procedure_kind.Function = k.Function

-- [ "Public" | "Private" ] ( "Sub" | "Function" ) name [ params ] end block "End" ( "Sub" | "Function" )
abbrev pub procedure_words : Procedure → Tokens
procedure_words found = access_words found.line found.access
    ++ keyword found.line (procedure_word found.kind) ∷ name found.line found.name
    ∷ parameters_words found.line found.parameters
    ++ line_end found.line ∷ body_words found.line found.body
    ++ keyword found.line k.End ∷ keyword found.line (procedure_word found.kind) ∷ []

-- ---- classes

-- Get, Let or Set
abbrev pub property_word : PropertyKind → Keyword
property_word property_kind.Get = k.Get
property_word property_kind.Let = k.Let
property_word property_kind.Set = k.Set

-- [ "Public" | "Private" ] "Property" ( "Get" | "Let" | "Set" ) name [ params ] end block "End" "Property"
abbrev pub property_words : Property → Tokens
property_words found = access_words found.line found.access
    ++ quoted found.line (codes "Property") ∷ keyword found.line (property_word found.kind)
    ∷ name found.line found.name ∷ parameters_words found.line found.parameters
    ++ line_end found.line ∷ body_words found.line found.body
    ++ keyword found.line k.End ∷ quoted found.line (codes "Property") ∷ []

-- the word before the fields of a class
abbrev pub field_word : FieldAccess → Keyword
field_word field.Dim = k.Dim
field_word field.Public = k.Public
field_word field.Private = k.Private

-- a member
abbrev pub member_words : ClassMember → Tokens
member_words (member.Fields line access fields) =
    keyword line (field_word access) ∷ listed line (map (declared_words line) fields)
member_words (member.Method found) = procedure_words found
member_words (member.Property found) = property_words found

-- "Class" name end { member end } "End" "Class"
abbrev pub class_words : Class → Tokens
class_words found = keyword found.line k.Class ∷ name found.line found.name ∷ line_end found.line
    ∷ block_words found.line (map member_words found.members)
    ++ keyword found.line k.End ∷ keyword found.line k.Class ∷ []

-- ---- units

-- Public or Private
abbrev pub access_word : Access → Keyword
access_word access.Public = k.Public
access_word access.Private = k.Private

-- an item
abbrev pub item_words : Item → Tokens
item_words (item.Statement found) = statement_words found
item_words (item.Variables line access variables) =
    keyword line (access_word access) ∷ listed line (map (declared_words line) variables)
item_words (item.Procedure found) = procedure_words found
item_words (item.Class found) = class_words found

-- "Option" "Explicit" end in the first line, or nothing
abbrev pub option_words : Bool → Tokens
option_words true = keyword 1 k.Option ∷ quoted 1 (codes "Explicit") ∷ line_end 1 ∷ []
option_words false = []

-- The words of a unit. The ends of lines between its items stand in the first line.
unfoldable pub print_of : Script → Tokens
print_of unit = option_words unit.option_explicit
    ++ block_words 1 (map item_words unit.items)
