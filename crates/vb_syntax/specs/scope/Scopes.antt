-- Scopes: which names a page, a class and a procedure declare, where the names live that nothing declares, and what a
-- name stands for. A scope is one list of names and what they stand for, of which the first of a name counts. A name is
-- looked for from the inside out: in the procedure, its class, the page and the language.
use Rattle.std.specs.Prelude.{ℕ, ℤ, ◌+◌, Bool, true, false, not, ◌&&◌, if◌then◌else◌, is_some, List, [], ◌∷◌, ◌++◌, length}
use Rattle.std.specs.Prelude.{fold, Option, Some, None, unwrap_or, slice_get}
use Rattle.vb_syntax.specs.declared.declaration.ConstantValue.{ConstantValue}
use Rattle.vb_syntax.specs.declared.note.Level.{Level}
use Rattle.vb_syntax.specs.declared.note.Level.TheVariants as level
use Rattle.vb_syntax.specs.declared.note.Note.{Note}
use Rattle.vb_syntax.specs.declared.note.NoteKind.{NoteKind}
use Rattle.vb_syntax.specs.declared.note.NoteKind.TheVariants as say
use Rattle.vb_syntax.specs.declared.note.PageObject.{PageObject}
use Rattle.vb_syntax.specs.declared.program.name.Named.{Named}
use Rattle.vb_syntax.specs.declared.program.name.Named.TheVariants as named
use Rattle.vb_syntax.specs.declared.program.name.Slot.{Slot}
use Rattle.vb_syntax.specs.declared.program.name.Slot.TheVariants as slot
use Rattle.vb_syntax.specs.declared.program.unit.Constant.{Constant}
use Rattle.vb_syntax.specs.declared.program.unit.Variable.{Variable}
use Rattle.vb_syntax.specs.declared.unit.Class.{Class}
use Rattle.vb_syntax.specs.declared.unit.Unit.{Unit as Script}
use Rattle.vb_value.specs.Folding.{folded}
use Rattle.vb_syntax.specs.scope.Names.{Name, number_of_key, first_of, of_language, object_named}
use Rattle.vb_syntax.specs.scope.Notes.{Notes}
use Rattle.vb_syntax.specs.scope.Units.{Body, in_body, on_page_of, in_class_of}

-- ---- declarations

-- What a page, a class or a procedure declares: its names, and beside each what it stands for; its variables, parameters
-- or fields; its constants; and how many procedures, classes and members of a class.
pub record Declarations : Type 0 where
  pub names : List Name
  pub meanings : List Named
  pub variables : List Variable
  pub constants : List Constant
  pub procedures : ℕ
  pub classes : ℕ
  pub members : ℕ

-- nothing
abbrev pub nothing_declared : Declarations
nothing_declared = record {
  names = [];
  meanings = [];
  variables = [];
  constants = [];
  procedures = 0;
  classes = 0;
  members = 0;
}

-- one name more, and what it stands for
abbrev pub with_name : Name → Named → Declarations → Declarations
with_name name meaning before =
    record before { names = before.names ++ name ∷ []; meanings = before.meanings ++ meaning ∷ [] }

-- the place of a variable, a parameter or a field, by its number
abbrev pub place_at : Level → ℕ → Slot
place_at level.Page number = slot.Page number
place_at level.Class number = slot.Field number
place_at level.Body number = slot.Local number

-- a constant, by its number
abbrev pub constant_at : Level → ℕ → Named
constant_at level.Body number = named.LocalConstant number
constant_at _ number = named.PageConstant number

-- a variable of a line, with the bounds that it is declared with if it is an array
abbrev pub variable_of : ℕ → Option (List ℤ) → Variable
variable_of line bounds = record { line = line; bounds = bounds }

-- a constant of a line, with the variables that stand before it
abbrev pub constant_of : ℕ → List Variable → ConstantValue → Constant
constant_of line variables value = record { line = line; before = length variables; value = value }

-- one variable more
abbrev pub with_variable : Level → Name → Variable → Declarations → Declarations
with_variable level name variable before = with_name name (named.Place (place_at level (length before.variables)))
    (record before { variables = before.variables ++ variable ∷ [] })

-- behind one more place of a script
abbrev pub declare : Level → ℕ → Declarations → NoteKind → Declarations
declare level line before (say.Variable found) = with_variable level found.name (variable_of line found.bounds) before
declare level line before (say.Constant found) = with_name found.name (constant_at level (length before.constants))
    (record before { constants = before.constants ++ constant_of line before.variables found.value ∷ [] })
declare level line before (say.Procedure name) = with_name name (named.Procedure before.procedures)
    (record before { procedures = before.procedures + 1 })
declare level line before (say.Class name) = with_name name (named.Class before.classes)
    (record before { classes = before.classes + 1 })
declare level line before (say.Member name accessor) = with_name name (named.Own before.members)
    (record before { members = before.members + 1 })
declare level line before (say.Result name) = with_name name (named.Place slot.Result) before
declare level line before _ = before

-- what is declared at one more place
abbrev pub declare_note : Level → Declarations → Note → Declarations
declare_note level before note = declare level note.line before note.kind

-- what notes declare
abbrev pub declared : Level → Notes → Declarations
declared level = fold (declare_note level) nothing_declared

-- what a class declares
abbrev pub class_scope : Class → Declarations
class_scope class = declared level.Class (in_class_of class)

-- ---- what a name stands for

-- the scopes in which a place of a script stands, from the outside in
pub record Scopes : Type 0 where
  pub page : Declarations
  pub class : Declarations
  pub body : Declarations

-- on the page, outside of procedures and classes
abbrev pub on_page_in : Declarations → Scopes
on_page_in page = record { page = page; class = nothing_declared; body = nothing_declared }

-- what stands at this number
abbrev pub standing_at : List Named → Option ℕ → Option Named
standing_at meanings None = None
standing_at meanings (Some number) = slice_get meanings number

-- what a name stands for, by its key, in one scope: the first of the name counts
abbrev pub standing_in : Declarations → Name → Option Named
standing_in found key = standing_at found.meanings (number_of_key found.names key)

-- Where it is called, the name of a Function or of a Property Get stands in it for the procedure, and else for the
-- value that it is to give.
abbrev pub where_called : Bool → Option Named → Option Named
where_called true (Some (named.Place slot.Result)) = None
where_called is_called found = found

-- what a name stands for, by its key, where a scope declares it
unfoldable pub declared_in : Scopes → Bool → Name → Option Named
declared_in scopes is_called key = first_of
    (where_called is_called (standing_in scopes.body key)
    ∷ standing_in scopes.class key
    ∷ standing_in scopes.page key
    ∷ [])

-- what a name stands for
unfoldable pub named_in : Scopes → Bool → Name → Named
named_in scopes is_called name =
    unwrap_or (first_of (declared_in scopes is_called (folded name) ∷ of_language name ∷ [])) named.Unknown

-- whether no scope declares a name and the language has none
abbrev pub is_unknown : Named → Bool
is_unknown named.Unknown = true
is_unknown _ = false

-- the object of the page that a name stands for: no scope declares the name
unfoldable pub object_in : Scopes → Name → Option PageObject
object_in scopes name = if is_unknown (named_in scopes false name) then object_named name else None

-- ---- names that nothing declares

-- A name that is mentioned: without Option Explicit it is a variable where it stands for nothing else.
abbrev pub mentioned : Bool → Scopes → Name → Option Name
mentioned true scopes name = None
mentioned false scopes name =
    if is_unknown (named_in scopes false name) && not (is_some (object_named name)) then Some name else None

-- A name that ReDim gives bounds: it is a variable where no scope declares it.
abbrev pub resized : Scopes → Name → Option Name
resized scopes name = if is_some (declared_in scopes false (folded name)) then None else Some name

-- the name that one place makes a variable
abbrev pub made_by : Bool → Scopes → NoteKind → Option Name
made_by explicit scopes (say.Use name steps is_group) = mentioned explicit scopes name
made_by explicit scopes (say.Write name) = mentioned explicit scopes name
made_by explicit scopes (say.Resize name) = resized scopes name
made_by explicit scopes _ = None

-- the name as a variable more, which is no array yet, in the line of the place that makes it one
abbrev pub with_made : Level → ℕ → Declarations → Option Name → Declarations
with_made level line before None = before
with_made level line before (Some name) = with_variable level name (variable_of line None) before

-- behind one more place of the page
abbrev pub make_on_page : Bool → Declarations → Note → Declarations
make_on_page explicit page note = with_made level.Page note.line page (made_by explicit (on_page_in page) note.kind)

-- a page's scope, by what the page says: what it declares, and the variables that undeclared names make
unfoldable pub page_scope_of : Bool → Notes → Declarations
page_scope_of explicit notes = fold (make_on_page explicit) (declared level.Page notes) notes

-- a page's scope
abbrev pub page_scope : Script → Declarations
page_scope unit = page_scope_of unit.option_explicit (on_page_of unit)

-- the scopes of a procedure of a page and a class
abbrev pub scopes_of : Declarations → Declarations → Declarations → Scopes
scopes_of page class body = record { page = page; class = class; body = body }

-- behind one more place of a procedure
abbrev pub make_in_body : Bool → Declarations → Declarations → Declarations → Note → Declarations
make_in_body explicit page class body note =
    with_made level.Body note.line body (made_by explicit (scopes_of page class body) note.kind)

-- a procedure's scope, by what it says: its result, its parameters and what it declares, and the variables that
-- undeclared names make
unfoldable pub body_scope_of : Bool → Declarations → Declarations → Notes → Declarations
body_scope_of explicit page class notes = fold (make_in_body explicit page class) (declared level.Body notes) notes

-- a procedure's scope
abbrev pub body_scope : Bool → Declarations → Declarations → Body → Declarations
body_scope explicit page class body = body_scope_of explicit page class (in_body body)

-- a procedure's scopes
abbrev pub body_scopes : Bool → Declarations → Declarations → Body → Scopes
body_scopes explicit page class body = scopes_of page class (body_scope explicit page class body)
