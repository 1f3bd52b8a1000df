-- What the bodies of a unit say of names: its own body, and those of its procedures and of the methods and properties
-- of its classes.
use Rattle.std.specs.Prelude.{ℕ, Bool, true, false, List, [], ◌∷◌, ◌++◌, length, Option, Some, None}
use Rattle.std.specs.List.{flat_map}
use Rattle.vb_syntax.specs.declared.declaration.Declared.{Declared}
use Rattle.vb_syntax.specs.declared.declaration.Parameter.{Parameter}
use Rattle.vb_syntax.specs.declared.note.Around.{Around}
use Rattle.vb_syntax.specs.declared.note.NoteKind.TheVariants as say
use Rattle.vb_syntax.specs.declared.statement.ExitKind.{ExitKind}
use Rattle.vb_syntax.specs.declared.statement.ExitKind.TheVariants as exit
use Rattle.vb_syntax.specs.declared.statement.Statement.{Statement}
use Rattle.vb_syntax.specs.declared.unit.Class.{Class}
use Rattle.vb_syntax.specs.declared.unit.ClassMember.{ClassMember}
use Rattle.vb_syntax.specs.declared.unit.ClassMember.TheVariants as member
use Rattle.vb_syntax.specs.declared.unit.Item.{Item}
use Rattle.vb_syntax.specs.declared.unit.Item.TheVariants as item
use Rattle.vb_syntax.specs.declared.unit.Procedure.{Procedure}
use Rattle.vb_syntax.specs.declared.unit.ProcedureKind.{ProcedureKind}
use Rattle.vb_syntax.specs.declared.unit.ProcedureKind.TheVariants as procedure_kind
use Rattle.vb_syntax.specs.declared.unit.Property.{Property}
use Rattle.vb_syntax.specs.declared.unit.PropertyKind.{PropertyKind}
use Rattle.vb_syntax.specs.declared.unit.PropertyKind.TheVariants as property_kind
use Rattle.vb_syntax.specs.declared.unit.Unit.{Unit as Script}
use Rattle.vb_syntax.specs.scope.Names.{Name}
use Rattle.vb_syntax.specs.scope.Notes.{Notes, note, at_most, variable_notes, statement_notes, body_notes}

-- ---- bodies of procedures

-- what a procedure has for its scope: the line and the Exit of it, its result's name where it gives a value, and
-- whether it stands in a class
pub record Body : Type 0 where
  pub line : ℕ
  pub in_class : Bool
  pub exit : ExitKind
  pub result : Option Name
  pub parameters : List Parameter
  pub statements : List Statement

-- the Exit of a Sub or a Function
abbrev pub exit_of : ProcedureKind → ExitKind
exit_of procedure_kind.Sub = exit.Sub
exit_of procedure_kind.Function = exit.Function

-- a Function gives a value under its name
abbrev pub result_of : ProcedureKind → Name → Option Name
result_of procedure_kind.Sub name = None
result_of procedure_kind.Function name = Some name

-- Property Get gives a value under its name
abbrev pub result_of_property : PropertyKind → Name → Option Name
result_of_property property_kind.Get name = Some name
result_of_property property_kind.Let name = None
result_of_property property_kind.Set name = None

-- the body of a procedure of a page, or of a class
abbrev pub body_of : Bool → Procedure → Body
body_of in_class found = record {
  line = found.line;
  in_class = in_class;
  exit = exit_of found.kind;
  result = result_of found.kind found.name;
  parameters = found.parameters;
  statements = found.body;
}

-- the body of a property
abbrev pub body_of_property : Property → Body
body_of_property found = record {
  line = found.line;
  in_class = true;
  exit = exit.Property;
  result = result_of_property found.kind found.name;
  parameters = found.parameters;
  statements = found.body;
}

-- what stands around the statements of a procedure: nothing that an Exit outside of it leaves, and no With
abbrev pub around_in : Body → Around
around_in body = record {
  in_class = body.in_class;
  procedure = Some body.exit;
  in_do = false;
  in_for = false;
  in_with = false;
}

-- a parameter is a variable
abbrev pub parameter_variable : Parameter → Declared
parameter_variable found = record { name = found.name; bounds = None }

-- a declared parameter
abbrev pub parameter_notes : ℕ → Parameter → Notes
parameter_notes line found = note line (say.Variable (parameter_variable found))

-- the name of the result, where there is one
abbrev pub result_notes : ℕ → Option Name → Notes
result_notes line None = []
result_notes line (Some name) = note line (say.Result name)

-- what a procedure says: the name of its result, its parameters, of which there are 255 at most, and its statements
abbrev pub in_body : Body → Notes
in_body body = result_notes body.line body.result
    ++ at_most 255 (length body.parameters) body.line
    ++ flat_map (parameter_notes body.line) body.parameters
    ++ body_notes (around_in body) body.statements

-- ---- the page's own body

-- nothing stands around the page's own statements
abbrev pub on_page : Around
on_page = record { in_class = false; procedure = None; in_do = false; in_for = false; in_with = false }

-- what an item says as a part of the page: a procedure or a class is declared
abbrev pub item_notes : Item → Notes
item_notes (item.Statement found) = statement_notes found on_page
item_notes (item.Variables line access variables) = flat_map (variable_notes line) variables
item_notes (item.Procedure found) = note found.line (say.Procedure found.name)
item_notes (item.Class found) = note found.line (say.Class found.name)

-- what a page says itself
abbrev pub on_page_of : Script → Notes
on_page_of unit = flat_map item_notes unit.items

-- ---- procedures and classes

-- the procedure that an item is
abbrev pub procedure_in_item : Item → List Procedure
procedure_in_item (item.Procedure found) = found ∷ []
procedure_in_item _ = []

-- the procedures of a page, in their order
abbrev pub procedures_of : List Item → List Procedure
procedures_of = flat_map procedure_in_item

-- the class that an item is
abbrev pub class_in_item : Item → List Class
class_in_item (item.Class found) = found ∷ []
class_in_item _ = []

-- the classes of a page, in their order
abbrev pub classes_of : List Item → List Class
classes_of = flat_map class_in_item

-- what a member says as a part of its class: a field, a method or a property is declared
abbrev pub member_notes : ClassMember → Notes
member_notes (member.Fields line access fields) = flat_map (variable_notes line) fields
member_notes (member.Method found) = note found.line (say.Member found.name None)
member_notes (member.Property found) = note found.line (say.Member found.name (Some found.kind))

-- the body of a member, if it has one
abbrev pub member_body : ClassMember → List Body
member_body (member.Fields line access fields) = []
member_body (member.Method found) = body_of true found ∷ []
member_body (member.Property found) = body_of_property found ∷ []

-- what a class says itself
abbrev pub in_class_of : Class → Notes
in_class_of class = flat_map member_notes class.members

-- the bodies of a class
abbrev pub bodies_in : Class → List Body
bodies_in class = flat_map member_body class.members
