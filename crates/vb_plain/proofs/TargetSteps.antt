-- What stands behind a name that a value is assigned to.
use Rattle.std.proofs.Common.{◌≡◌, ℕ, List, [], ◌∷◌, Some, None, refl}
use Rattle.vb_value.specs.declared.value.Value.{Value}
use Rattle.vb_syntax.specs.declared.program.expression.Expression.{Expression}
use Rattle.vb_syntax.specs.declared.program.name.Named.{Named}
use Rattle.vb_syntax.specs.declared.program.name.Named.TheVariants as named
use Rattle.vb_syntax.specs.declared.program.name.Slot.TheVariants as slot
use Rattle.vb_meaning.specs.declared.reached.Assigned.{Assigned}
use Rattle.vb_meaning.specs.Accesses.{Access, Group, Member, member_before}
use Rattle.vb_meaning.specs.Assigning.{into_slot, into_place, into_called, into_rest, into_own, own_property, property}
use Rattle.vb_meaning.specs.Inner.{Inner}
use Rattle.vb_meaning.specs.Places.{variable}
use Rattle.vb_meaning.specs.Reading.{from_name}
use Rattle.vb_meaning.specs.State.{State, on_world}
use Rattle.vb_meaning.specs.Step.{◌>>=◌}
use Rattle.vb_world.specs.Steps.{first_call, call_alone}

-- the result of a procedure is a variable where a member stands behind it
pub slot_member : (E : Type 0) (m : Inner E) (how : Assigned) (name : ℕ) (more : List Access) (value : Value)
    (s : State E) → into_slot E m how slot.Result (member_before name more) value s
    ≡ (on_world (variable slot.Result) >>= into_place E m how (member_before name more) value) s
slot_member E m how name [] value s = refl
slot_member E m how name (Group arguments ∷ more) value s = refl
slot_member E m how name (Member next arguments ∷ more) value s = refl

-- what stands behind the call that a path begins with
pub into_first_call : (E : Type 0) (m : Inner E) (how : Assigned) (found : Named) (more : List Access) (value : Value)
    (s : State E) → into_called E m how found more value s
    ≡ into_rest E m how (from_name E m found (first_call more).0) (first_call more).1 value s
into_first_call E m how found [] value s = refl
into_first_call E m how found (Group arguments ∷ more) value s = refl
into_first_call E m how found (Member next arguments ∷ more) value s = refl

-- a property of the class around with its arguments alone
pub own_alone : (E : Type 0) (m : Inner E) (how : Assigned) (number : ℕ) (more : List Access) (value : Value)
    (s : State E) (supplied : List Expression) → call_alone more ≡ Some supplied
    → into_own E m how number more value s
    ≡ property E m how s.world.frame.owner (own_property E m how number s.world) supplied value s
own_alone E m how number [] value s supplied alone = cc
own_alone E m how number (Group arguments ∷ []) value s supplied alone = cc
own_alone E m how number (Group arguments ∷ second ∷ more) value s supplied alone = cc
own_alone E m how number (Member next arguments ∷ more) value s supplied alone = cc

-- and what it gives where something else stands behind it
pub own_behind : (E : Type 0) (m : Inner E) (how : Assigned) (number : ℕ) (more : List Access) (value : Value)
    (s : State E) → call_alone more ≡ None
    → into_own E m how number more value s ≡ into_called E m how (named.Own number) more value s
own_behind E m how number [] value s none = cc
own_behind E m how number (Group arguments ∷ []) value s none = cc
own_behind E m how number (Group arguments ∷ second ∷ more) value s none = refl
own_behind E m how number (Member next arguments ∷ more) value s none = refl
