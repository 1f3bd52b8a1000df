-- The scopes of what stands inside an item of a script: they are made where the item is checked, and used where its
-- program is made.
use Rattle.std.specs.Prelude.{Bool, true, false, List, [], ◌∷◌, ◌++◌, map}
use Rattle.vb_syntax.specs.declared.unit.ClassMember.{ClassMember}
use Rattle.vb_syntax.specs.declared.unit.ClassMember.TheVariants as member
use Rattle.vb_syntax.specs.declared.unit.Item.{Item}
use Rattle.vb_syntax.specs.declared.unit.Item.TheVariants as item
use Rattle.vb_syntax.specs.scope.Scopes.{Declarations, nothing_declared, class_scope, body_scope}
use Rattle.vb_syntax.specs.scope.Units.{body_of, body_of_property}

module _ (explicit : Bool) (page : Declarations) where
  -- the scope of a member's body; fields have none
  abbrev pub member_scope : Declarations → ClassMember → Declarations
  member_scope class (member.Fields line access fields) = nothing_declared
  member_scope class (member.Method found) = body_scope explicit page class (body_of true found)
  member_scope class (member.Property found) = body_scope explicit page class (body_of_property found)

  -- the scopes inside an item, those inside a class before the class's own
  abbrev pub scopes_inside : Item → List Declarations
  scopes_inside (item.Procedure found) = body_scope explicit page nothing_declared (body_of false found) ∷ []
  scopes_inside (item.Class found) = map (member_scope (class_scope found)) found.members ++ class_scope found ∷ []
  scopes_inside _ = []
