-- The faults of scope that a unit has, in the order of their places.
use Rattle.std.specs.Prelude.{ℕ, Bool, true, false, not, ◌&&◌, ◌||◌, nat_lt, List, [], ◌∷◌, ◌++◌, length, map, fold}
use Rattle.std.specs.Prelude.{Option, Some, None, is_none}
use Rattle.vb_syntax.specs.declared.note.NoteKind.{NoteKind}
use Rattle.vb_syntax.specs.declared.note.NoteKind.TheVariants as say
use Rattle.vb_syntax.specs.declared.note.PageObject.{PageObject}
use Rattle.vb_syntax.specs.declared.note.ScopeFault.{ScopeFault}
use Rattle.vb_syntax.specs.declared.note.ScopeFault.TheVariants as fault
use Rattle.vb_syntax.specs.declared.note.Shape.{Shape}
use Rattle.vb_syntax.specs.declared.program.name.Named.{Named}
use Rattle.vb_syntax.specs.declared.program.name.Named.TheVariants as named
use Rattle.vb_syntax.specs.declared.unit.Class.{Class}
use Rattle.vb_syntax.specs.declared.unit.ClassMember.{ClassMember}
use Rattle.vb_syntax.specs.declared.unit.Item.{Item}
use Rattle.vb_syntax.specs.declared.unit.Item.TheVariants as item
use Rattle.vb_syntax.specs.declared.unit.PropertyKind.{PropertyKind}
use Rattle.vb_syntax.specs.declared.unit.PropertyKind.TheVariants as property
use Rattle.vb_syntax.specs.declared.unit.Unit.{Unit as Script}
use Rattle.vb_syntax.specs.scope.Members.{member_meant}
use Rattle.vb_syntax.specs.scope.Names.{Name, has_name, add_name}
use Rattle.vb_syntax.specs.scope.Notes.{Notes}
use Rattle.vb_syntax.specs.scope.Scopes.{Scopes, Declarations, page_scope, class_scope, on_page_in, scopes_of}
use Rattle.vb_syntax.specs.scope.Scopes.{nothing_declared}
use Rattle.vb_syntax.specs.scope.Scopes.{body_scopes, named_in, object_in}
use Rattle.vb_syntax.specs.scope.Units.{Body, in_body, item_notes, member_notes, member_body, body_of}

-- ---- what has come so far

-- The names that a scope declares so far: the accessors of properties by what they are for, and all others.
pub record DeclaredNames : Type 0 where
  pub others : List Name
  pub gets : List Name
  pub lets : List Name
  pub sets : List Name

-- what has come so far: the names of the script, each once, and those that the scope declares
pub record SoFar : Type 0 where
  pub names : List Name
  pub declared : DeclaredNames

-- a scope that has declared nothing yet, behind some names
abbrev pub fresh : List Name → SoFar
fresh names = record { names = names; declared = record { others = []; gets = []; lets = []; sets = [] } }

-- what a scope declares behind a declaration
abbrev pub declare : DeclaredNames → Name → Option PropertyKind → DeclaredNames
declare before name None = record before { others = before.others ++ name ∷ [] }
declare before name (Some property.Get) = record before { gets = before.gets ++ name ∷ [] }
declare before name (Some property.Let) = record before { lets = before.lets ++ name ∷ [] }
declare before name (Some property.Set) = record before { sets = before.sets ++ name ∷ [] }

-- behind a name of the script
abbrev pub behind_name : SoFar → Name → SoFar
behind_name before name = record before { names = add_name before.names name }

-- behind a declaration
abbrev pub behind_declaration : SoFar → Name → Option PropertyKind → SoFar
behind_declaration before name accessor =
    record { names = add_name before.names name; declared = declare before.declared name accessor }

-- behind one place
abbrev pub after_kind : SoFar → NoteKind → SoFar
after_kind before (say.Fault found) = before
after_kind before (say.Variable found) = behind_declaration before found.name None
after_kind before (say.Constant found) = behind_declaration before found.name None
after_kind before (say.Procedure name) = behind_declaration before name None
after_kind before (say.Class name) = behind_declaration before name None
after_kind before (say.Member name accessor) = behind_declaration before name accessor
after_kind before (say.Result name) = behind_declaration before name None
after_kind before (say.Use name steps is_group) = behind_name before name
after_kind before (say.Write name) = behind_name before name
after_kind before (say.Resize name) = behind_name before name
after_kind before (say.Part name) = behind_name before name

-- behind some places
abbrev pub after_notes : SoFar → Notes → SoFar
after_notes before [] = before
after_notes before (note ∷ notes) = after_notes (after_kind before note.kind) notes

-- ---- the faults of one place

-- this fault, where the fact holds
abbrev pub where_true : Bool → ScopeFault → List ScopeFault
where_true true found = found ∷ []
where_true false found = []

-- Whether a name is declared already. The three accessors of a property stand together.
abbrev pub is_declared : DeclaredNames → Name → Option PropertyKind → Bool
is_declared before name None = has_name before.others name || has_name before.gets name
    || has_name before.lets name || has_name before.sets name
is_declared before name (Some property.Get) = has_name before.others name || has_name before.gets name
is_declared before name (Some property.Let) = has_name before.others name || has_name before.lets name
is_declared before name (Some property.Set) = has_name before.others name || has_name before.sets name

-- TooMany: a script has at most 65,535 different names.
abbrev pub name_faults : List Name → Name → List ScopeFault
name_faults before name = where_true (not (has_name before name) && not (nat_lt (length before) 65535)) fault.TooMany

-- Redefined: variables and constants of a scope, procedures and classes of a page, and members of a class are unique.
abbrev pub declaration_faults : SoFar → Name → Option PropertyKind → List ScopeFault
declaration_faults before name accessor =
    where_true (is_declared before.declared name accessor) fault.Redefined ++ name_faults before.names name

-- whether a name stands for a constant
abbrev pub is_constant : Named → Bool
is_constant (named.PageConstant number) = true
is_constant (named.LocalConstant number) = true
is_constant (named.Value found) = true
is_constant _ = false

-- whether there is an object of the page
abbrev pub is_object : Option PageObject → Bool
is_object None = false
is_object (Some object) = true

-- ConstTarget: a constant is not written. Nor is an object of the page alone, which is BadMember.
abbrev pub write_faults : Scopes → List Name → Name → List ScopeFault
write_faults scopes before name = where_true (is_constant (named_in scopes false name)) fault.ConstTarget
    ++ where_true (is_object (object_in scopes name)) fault.BadMember
    ++ name_faults before name

-- whether an object of the page has no such member
abbrev pub lacks_member : Option PageObject → List Shape → Bool → Bool
lacks_member None steps is_group = false
lacks_member (Some object) steps is_group = is_none (member_meant object is_group steps)

-- whether a name is an object of the page, and stands without a member or an item that it has
abbrev pub is_bare : Scopes → Name → List Shape → Bool → Bool
is_bare scopes name steps is_group = lacks_member (object_in scopes name) steps is_group

-- BadMember: an object of the page stands with a member or an item.
abbrev pub use_faults : Scopes → List Name → Name → List Shape → Bool → List ScopeFault
use_faults scopes before name steps is_group =
    where_true (is_bare scopes name steps is_group) fault.BadMember ++ name_faults before name

-- the faults of what is said at a place
abbrev pub kind_faults : Scopes → SoFar → NoteKind → List ScopeFault
kind_faults scopes before (say.Fault found) = found ∷ []
kind_faults scopes before (say.Variable found) = declaration_faults before found.name None
kind_faults scopes before (say.Constant found) = declaration_faults before found.name None
kind_faults scopes before (say.Procedure name) = declaration_faults before name None
kind_faults scopes before (say.Class name) = declaration_faults before name None
kind_faults scopes before (say.Member name accessor) = declaration_faults before name accessor
kind_faults scopes before (say.Result name) = declaration_faults before name None
kind_faults scopes before (say.Use name steps is_group) = use_faults scopes before.names name steps is_group
kind_faults scopes before (say.Write name) = write_faults scopes before.names name
kind_faults scopes before (say.Resize name) = write_faults scopes before.names name
kind_faults scopes before (say.Part name) = name_faults before.names name

-- ---- the faults of a unit, each with its line

-- a fault and its line
abbrev pub Faults : Type 0
Faults = List (ScopeFault × ℕ)

-- faults in a line
abbrev pub in_line : ℕ → List ScopeFault → Faults
in_line line = map (λ (found : ScopeFault). (found, line))

-- the faults of what is said in a scope
abbrev pub notes_faults : Scopes → SoFar → Notes → Faults
notes_faults scopes before [] = []
notes_faults scopes before (note ∷ notes) = in_line note.line (kind_faults scopes before note.kind)
    ++ notes_faults scopes (after_kind before note.kind) notes

-- the names of a script behind the body of a procedure, which has a scope of its own
abbrev pub after_body : List Name → Body → List Name
after_body names body = (after_notes (fresh names) (in_body body)).names

-- behind a member of a class and its body
abbrev pub after_member : SoFar → ClassMember → SoFar
after_member before member = record (after_notes before (member_notes member)) {
  names = fold after_body (after_notes before (member_notes member)).names (member_body member);
}

-- behind the members of a class
abbrev pub after_members : SoFar → List ClassMember → SoFar
after_members before [] = before
after_members before (member ∷ members) = after_members (after_member before member) members

-- the names of a script behind a class, which has a scope of its own
abbrev pub after_class : List Name → Class → List Name
after_class names class = (after_members (fresh names) class.members).names

-- the names of a script behind what stands inside an item
abbrev pub after_inside : List Name → Item → List Name
after_inside names (item.Procedure found) = after_body names (body_of false found)
after_inside names (item.Class found) = after_class names found
after_inside names _ = names

-- behind an item
abbrev pub after_item : SoFar → Item → SoFar
after_item before item = record (after_notes before (item_notes item)) {
  names = after_inside (after_notes before (item_notes item)).names item;
}

-- behind the items of a unit
abbrev pub after_items : SoFar → List Item → SoFar
after_items before [] = before
after_items before (item ∷ items) = after_items (after_item before item) items

-- all names of a unit, each as it stands where it first does
unfoldable pub names_of : Script → List Name
names_of unit = (after_items (fresh []) unit.items).names

module _ (explicit : Bool) (page : Declarations) where
  -- the faults in the body of a procedure
  abbrev pub body_faults : Declarations → List Name → Body → Faults
  body_faults class names body = notes_faults (body_scopes explicit page class body) (fresh names) (in_body body)

  -- the faults in the bodies of a member: there is one at most
  abbrev pub bodies_faults : Declarations → List Name → List Body → Faults
  bodies_faults class names [] = []
  bodies_faults class names (body ∷ bodies) =
      body_faults class names body ++ bodies_faults class (after_body names body) bodies

  -- the faults of a member of a class, and then those in its body
  abbrev pub member_faults : Declarations → SoFar → ClassMember → Faults
  member_faults class before member =
      notes_faults (scopes_of page class nothing_declared) before (member_notes member)
      ++ bodies_faults class (after_notes before (member_notes member)).names (member_body member)

  -- the faults of the members of a class
  abbrev pub members_faults : Declarations → SoFar → List ClassMember → Faults
  members_faults class before [] = []
  members_faults class before (member ∷ members) =
      member_faults class before member ++ members_faults class (after_member before member) members

  -- the faults in a class
  abbrev pub class_faults : List Name → Class → Faults
  class_faults names class = members_faults (class_scope class) (fresh names) class.members

  -- the faults inside an item
  abbrev pub inside_faults : List Name → Item → Faults
  inside_faults names (item.Procedure found) = body_faults nothing_declared names (body_of false found)
  inside_faults names (item.Class found) = class_faults names found
  inside_faults names _ = []

  -- the faults of an item: what it says on the page, and then what stands inside
  abbrev pub item_faults : SoFar → Item → Faults
  item_faults before item = notes_faults (on_page_in page) before (item_notes item)
      ++ inside_faults (after_notes before (item_notes item)).names item

  -- the faults of items
  abbrev pub items_faults : SoFar → List Item → Faults
  items_faults before [] = []
  items_faults before (item ∷ items) = item_faults before item ++ items_faults (after_item before item) items

-- all faults of a unit
unfoldable pub faults_of : Script → Faults
faults_of unit = items_faults unit.option_explicit (page_scope unit) (fresh []) unit.items
