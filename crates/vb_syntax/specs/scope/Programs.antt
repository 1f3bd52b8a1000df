-- Procedures, classes and whole units with each name as what it stands for.
use Rattle.std.specs.Prelude.{ℕ, Bool, true, false, if◌then◌else◌, List, [], ◌∷◌, ◌++◌, map, Option, Some, None, codes}
use Rattle.std.specs.List.{flat_map, position_from}
use Rattle.vb_syntax.specs.declared.declaration.Access.{Access}
use Rattle.vb_syntax.specs.declared.declaration.Access.TheVariants as access
use Rattle.vb_syntax.specs.declared.declaration.Declared.{Declared}
use Rattle.vb_syntax.specs.declared.declaration.Parameter.{Parameter}
use Rattle.vb_syntax.specs.declared.program.statement.Statement.{Statement as ResolvedStatement, roll-Statement}
use Rattle.vb_syntax.specs.declared.program.statement.StatementKind.TheVariants as st
use Rattle.vb_syntax.specs.declared.program.unit.Class.{Class as ResolvedClass}
use Rattle.vb_syntax.specs.declared.program.unit.Field.{Field}
use Rattle.vb_syntax.specs.declared.program.unit.Procedure.{Procedure as ResolvedProcedure}
use Rattle.vb_syntax.specs.declared.program.unit.ProcedureKind.{ProcedureKind as ResolvedKind}
use Rattle.vb_syntax.specs.declared.program.unit.ProcedureKind.TheVariants as kind
use Rattle.vb_syntax.specs.declared.program.unit.Unit.{Unit as Code}
use Rattle.vb_syntax.specs.declared.unit.Class.{Class}
use Rattle.vb_syntax.specs.declared.unit.ClassMember.{ClassMember}
use Rattle.vb_syntax.specs.declared.unit.ClassMember.TheVariants as member
use Rattle.vb_syntax.specs.declared.unit.FieldAccess.{FieldAccess}
use Rattle.vb_syntax.specs.declared.unit.FieldAccess.TheVariants as field
use Rattle.vb_syntax.specs.declared.unit.Item.{Item}
use Rattle.vb_syntax.specs.declared.unit.Item.TheVariants as item
use Rattle.vb_syntax.specs.declared.unit.Procedure.{Procedure}
use Rattle.vb_syntax.specs.declared.unit.ProcedureKind.{ProcedureKind}
use Rattle.vb_syntax.specs.declared.unit.ProcedureKind.TheVariants as procedure_kind
use Rattle.vb_syntax.specs.declared.unit.Property.{Property}
use Rattle.vb_syntax.specs.declared.unit.PropertyKind.{PropertyKind}
use Rattle.vb_syntax.specs.declared.unit.PropertyKind.TheVariants as property_kind
use Rattle.vb_syntax.specs.declared.unit.Unit.{Unit as Script}
use Rattle.vb_syntax.specs.scope.Faults.{names_of}
use Rattle.vb_syntax.specs.scope.Names.{Name, name_number, dictionary_member}
use Rattle.vb_syntax.specs.scope.Scopes.{Declarations, page_scope, class_scope, on_page_in, nothing_declared}
use Rattle.vb_syntax.specs.scope.Scopes.{body_scope, body_scopes, variable_of}
use Rattle.vb_value.specs.Folding.{same_name}
use Rattle.vb_syntax.specs.declared.program.name.Named.{Named}
use Rattle.vb_syntax.specs.declared.program.name.Named.TheVariants as named
use Rattle.vb_syntax.specs.scope.Trees.{statement_of}
use Rattle.vb_syntax.specs.scope.Units.{Body, body_of, body_of_property, procedures_of, classes_of}

-- whether Private stands before a procedure
abbrev pub is_private : Option Access → Bool
is_private (Some access.Private) = true
is_private _ = false

-- whether Private stands before fields
abbrev pub is_private_field : FieldAccess → Bool
is_private_field field.Private = true
is_private_field _ = false

-- a Sub or a Function
abbrev pub kind_of : ProcedureKind → ResolvedKind
kind_of procedure_kind.Sub = kind.Sub
kind_of procedure_kind.Function = kind.Function

-- an accessor of a property
abbrev pub kind_of_property : PropertyKind → ResolvedKind
kind_of_property property_kind.Get = kind.Get
kind_of_property property_kind.Let = kind.Let
kind_of_property property_kind.Set = kind.Set

-- a declaration, which does nothing when it runs
abbrev pub declaration_at : ℕ → ResolvedStatement
declaration_at line = roll-Statement (record { line = line; kind = st.Declaration })

-- a field
abbrev pub field_of : List Name → ℕ → FieldAccess → Declared → Field
field_of names line access found = record {
  name = name_number names found.name;
  is_private = is_private_field access;
  variable = variable_of line found.bounds;
}

-- the fields that a member declares
abbrev pub fields_of : List Name → ClassMember → List Field
fields_of names (member.Fields line access fields) = map (field_of names line access) fields
fields_of names _ = []

-- of a procedure, its name where it is a Sub
abbrev pub sub_name : ProcedureKind → Name → Option Name
sub_name procedure_kind.Sub name = Some name
sub_name procedure_kind.Function name = None

-- of the procedure that a member is, its name where it is a Sub
abbrev pub sub_in : ClassMember → List (Option Name)
sub_in (member.Fields line access fields) = []
sub_in (member.Method found) = sub_name found.kind found.name ∷ []
sub_in (member.Property found) = None ∷ []

-- whether a name is there, and is this one
abbrev pub is_named : Name → Option Name → Bool
is_named word None = false
is_named word (Some name) = same_name word name

-- the number of a Sub among the methods and properties of members
abbrev pub sub_number : Name → List ClassMember → Option ℕ
sub_number word members = position_from (is_named word) 0 (flat_map sub_in members)

-- `names` are all names of the script.
module _ (explicit : Bool) (page : Declarations) (names : List Name) where
  -- a procedure that stands in a class or in none
  abbrev pub procedure_in : Declarations → Option Access → ResolvedKind → Name → Body → ResolvedProcedure
  procedure_in class access kind name body = record {
    line = body.line;
    is_private = is_private access;
    kind = kind;
    name = name_number names name;
    by_value = map (λ (found : Parameter). found.by_value) body.parameters;
    variables = (body_scope explicit page class body).variables;
    constants = (body_scope explicit page class body).constants;
    body = map (statement_of names (body_scopes explicit page class body)) body.statements;
  }

  -- a procedure of the page
  abbrev pub procedure_of : Procedure → ResolvedProcedure
  procedure_of found = procedure_in nothing_declared found.access (kind_of found.kind) found.name (body_of false found)

  -- a method
  abbrev pub method_of : Declarations → Procedure → ResolvedProcedure
  method_of class found = procedure_in class found.access (kind_of found.kind) found.name (body_of true found)

  -- an accessor of a property
  abbrev pub property_of : Declarations → Property → ResolvedProcedure
  property_of class found =
      procedure_in class found.access (kind_of_property found.kind) found.name (body_of_property found)

  -- the method or property that a member is
  abbrev pub procedure_member : Declarations → ClassMember → List ResolvedProcedure
  procedure_member class (member.Fields line access fields) = []
  procedure_member class (member.Method found) = method_of class found ∷ []
  procedure_member class (member.Property found) = property_of class found ∷ []

  -- a class
  abbrev pub class_of : Class → ResolvedClass
  class_of found = record {
    line = found.line;
    fields = flat_map (fields_of names) found.members;
    procedures = flat_map (procedure_member (class_scope found)) found.members;
    initialize = sub_number (codes "class_initialize") found.members;
    terminate = sub_number (codes "class_terminate") found.members;
  }

-- a statement of the page's own body; declared variables stand there too
abbrev pub own_statement : Declarations → List Name → Item → List ResolvedStatement
own_statement page names (item.Statement found) = statement_of names (on_page_in page) found ∷ []
own_statement page names (item.Variables line access variables) = declaration_at line ∷ []
own_statement page names _ = []

-- A program: the unit's trees with names as numbers, the names of the page's variables, procedures and classes, and
-- whether each variable has to be declared.
pub record Parts : Type 0 where
  pub unit : Code
  pub vars : List Name
  pub procs : List Name
  pub classes : List Name
  pub explicit : Bool

-- the trees of a unit
abbrev pub code_of : Script → Code
code_of unit = record {
  body = flat_map (own_statement (page_scope unit) (names_of unit)) unit.items;
  variables = (page_scope unit).variables;
  constants = (page_scope unit).constants;
  procedures = map (procedure_of unit.option_explicit (page_scope unit) (names_of unit)) (procedures_of unit.items);
  classes = map (class_of unit.option_explicit (page_scope unit) (names_of unit)) (classes_of unit.items);
  names = names_of unit;
  dictionary = map dictionary_member (names_of unit);
}

-- whether a name stands for a variable
abbrev pub is_place : Named → Bool
is_place (named.Place found) = true
is_place _ = false

-- whether a name stands for a procedure of the page
abbrev pub is_procedure : Named → Bool
is_procedure (named.Procedure number) = true
is_procedure _ = false

-- whether a name stands for a class
abbrev pub is_class : Named → Bool
is_class (named.Class number) = true
is_class _ = false

-- the names that stand for something of a kind
abbrev pub names_where : (Named → Bool) → List Name → List Named → List Name
names_where test (name ∷ names) (meaning ∷ meanings) =
    (if test meaning then name ∷ [] else []) ++ names_where test names meanings
names_where test _ _ = []

-- the names of a scope that stand for something of a kind
abbrev pub names_in : (Named → Bool) → Declarations → List Name
names_in test found = names_where test found.names found.meanings

-- the program of a unit
unfoldable pub program_of : Script → Parts
program_of unit = record {
  unit = code_of unit;
  vars = names_in is_place (page_scope unit);
  procs = names_in is_procedure (page_scope unit);
  classes = names_in is_class (page_scope unit);
  explicit = unit.option_explicit;
}
