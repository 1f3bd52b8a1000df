-- Classes and their members (VBScript 5.6 language reference, "Class Object"), found in a program.
use Rattle.std.specs.Prelude.{ℕ, ◌==◌, Bool, true, false, not, ◌&&◌, if◌then◌else◌, List, [], ◌∷◌, codes, slice_get}
use Rattle.std.specs.Prelude.{Option, Some, None, Result, Ok, Err, unwrap_or}
use Rattle.std.specs.List.{position_from}
use Rattle.std.specs.Option.{option_and_then}
use Rattle.vb_value.specs.declared.fault.VbError.{VbError}
use Rattle.vb_value.specs.declared.value.Value.{Value, Obj}
use Rattle.vb_syntax.specs.declared.program.Program.{Program}
use Rattle.vb_syntax.specs.declared.program.name.DictionaryMember.{DictionaryMember}
use Rattle.vb_syntax.specs.declared.program.unit.Class.{Class}
use Rattle.vb_syntax.specs.declared.program.unit.Field.{Field}
use Rattle.vb_syntax.specs.declared.program.unit.Procedure.{Procedure}
use Rattle.vb_syntax.specs.declared.program.unit.ProcedureKind.{ProcedureKind}
use Rattle.vb_syntax.specs.declared.program.unit.ProcedureKind.TheVariants as kind
use Rattle.vb_heap.specs.Store.{Store}
use Rattle.vb_meaning.specs.Inner.{Owner}
use Rattle.vb_meaning.specs.declared.reached.Assigned.{Assigned}
use Rattle.vb_meaning.specs.declared.reached.Assigned.TheVariants.{Let as ByLet, Set as BySet}
use Rattle.vb_meaning.specs.Stored.{class_of}

-- ---- procedures of a name

-- whether a procedure gives a value where its name is read: a Sub, a Function or a Property Get
abbrev pub is_read : ProcedureKind → Bool
is_read kind.Let = false
is_read kind.Set = false
is_read _ = true

-- whether a procedure is used where a value is assigned so
abbrev pub takes_assigned : Assigned → ProcedureKind → Bool
takes_assigned ByLet kind.Let = true
takes_assigned BySet kind.Set = true
takes_assigned _ _ = false

-- the first procedure of a name whose kind passes a test
abbrev pub procedure_named : ℕ → (ProcedureKind → Bool) → List Procedure → Option Procedure
procedure_named name test [] = None
procedure_named name test (first ∷ others) =
    if first.name == name && test first.kind then Some first else procedure_named name test others

-- the procedure of a class that has this number among its procedures
abbrev pub procedure_at : Option Class → Option ℕ → Option Procedure
procedure_at (Some class) number = option_and_then (slice_get class.procedures) number
procedure_at None number = None

-- a procedure that is seen through an object
abbrev pub if_public : Option Procedure → Option Procedure
if_public (Some found) = if found.is_private then None else Some found
if_public None = None

-- ---- fields of a name

-- the number of a field of this name, if it is seen through an object
abbrev pub field_named : ℕ → List Field → Option ℕ
field_named name fields = position_from (λ (field : Field). field.name == name && not field.is_private) 0 fields

-- ---- what an object is

-- the class of an object that has one, of a program
abbrev pub class_at : Program → Option ℕ → Option Class
class_at program (Some number) = slice_get program.unit.classes number
class_at program None = None

-- which member of a dictionary a name says
abbrev pub dictionary_word : Program → ℕ → Option DictionaryMember
dictionary_word program name = unwrap_or (slice_get program.unit.dictionary name) None

-- the name of a class as it is declared, or Dictionary
abbrev pub class_name : Program → Result (Option ℕ) VbError → Result (List ℕ) VbError
class_name program (Ok (Some number)) = Ok (unwrap_or (slice_get program.classes number) [])
class_name program (Ok None) = Ok (codes "Dictionary")
class_name program (Err error) = Err error

-- the name of the class of a value; no value but an object has one
abbrev pub name_of_class : Program → Store → Value → Result (List ℕ) VbError
name_of_class program store (Obj object) = class_name program (class_of object store)
name_of_class program store _ = Ok []

-- the class around a method
abbrev pub owner_class : Program → Owner → Option Class
owner_class program (Some (object, number)) = class_at program (Some number)
owner_class program None = None

-- of the procedures that have the name of that one, the first whose kind passes a test
abbrev pub same_named : (ProcedureKind → Bool) → List Procedure → Option Procedure → Option Procedure
same_named test procedures (Some found) = procedure_named found.name test procedures
same_named test procedures None = None

-- the same by the number of the first of its name in the class around
abbrev pub own_procedure : ℕ → (ProcedureKind → Bool) → Option Class → Option Procedure
own_procedure number test (Some class) = same_named test class.procedures (slice_get class.procedures number)
own_procedure number test None = None
