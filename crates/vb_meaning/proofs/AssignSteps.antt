-- A value that is assigned to a member.
use Rattle.std.proofs.Common.{◌≡◌, ℕ, List, Option, Ok, refl}
use Rattle.vb_value.specs.declared.value.ObjNo.{ObjNo}
use Rattle.vb_value.specs.declared.value.Value.{Value}
use Rattle.vb_syntax.specs.declared.program.expression.Expression.{Expression}
use Rattle.vb_meaning.specs.declared.reached.Assigned.{Assigned}
use Rattle.vb_meaning.specs.World.{World}
use Rattle.vb_meaning.specs.Assigning.{into_member, into_object}
use Rattle.vb_meaning.specs.Inner.{Inner}
use Rattle.vb_meaning.specs.Places.{hold}
use Rattle.vb_meaning.specs.State.{State}
use Rattle.vb_meaning.specs.Step.{Returns}
use Rattle.vb_meaning.specs.Stored.{class_of}
use Rattle.vb_meaning.specs.Values.{object_in}

-- a member of a value that is an object of this class
pub member_taken : (E : Type 0) (m : Inner E) (how : Assigned) (whole : Value) (name : ℕ)
    (supplied : Option (List Expression)) (value : Value) (s : State E) (held : World) (object : ObjNo)
    (class : Option ℕ) → hold whole s.world ≡ Returns tt held → object_in whole ≡ Ok object
    → class_of object held.store ≡ Ok class
    → into_member E m how whole name supplied value s
    ≡ into_object E m how object name supplied value class (record s { world = held })
unfolding into_member
member_taken E m how whole name supplied value s held object class held_is object_is class_is =
    rw (held_is, object_is, class_is) refl
