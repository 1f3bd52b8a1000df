-- The values in the groups that stand first, group by group.
use Rattle.std.proofs.Common.{◌≡◌, ℕ, zero, suc, ◌-◌, List, [], ◌∷◌, Some, None, refl, ap, arith}
use Rattle.vb_value.specs.declared.value.Value.{Value}
use Rattle.vb_syntax.specs.declared.program.expression.Expression.{Expression}
use Rattle.vb_meaning.specs.Accesses.{Access, Group, Member}
use Rattle.vb_meaning.specs.Inner.{Inner}
use Rattle.vb_meaning.specs.Reading.{values, group_values}
use Rattle.vb_meaning.specs.State.{State}
use Rattle.vb_meaning.specs.Step.{Returns, and_then}
use Rattle.vb_world.specs.Steps.{next_group}

-- the values in groups end where no group is left
pub groups_end : (E : Type 0) (m : Inner E) (groups : ℕ) (done : List Value) (more : List Access) (s : State E)
    → next_group groups more ≡ None → group_values E m groups done more s ≡ Returns (done, more) s
groups_end E m zero done more s none = refl
groups_end E m (suc groups) done [] s none = refl
groups_end E m (suc groups) done (Group supplied ∷ more) s none = cc
groups_end E m (suc groups) done (Member name supplied ∷ more) s none = refl

-- and else they go on with the next group
pub groups_on : (E : Type 0) (m : Inner E) (groups : ℕ) (done : List Value) (more : List Access) (s : State E)
    (supplied : List Expression) (rest : List Access) → next_group groups more ≡ Some (supplied, rest)
    → group_values E m groups done more s
    ≡ and_then (values E m done supplied s) (λ found. group_values E m (groups - 1) found rest)
groups_on E m zero done more s supplied rest some = cc
groups_on E m (suc groups) done [] s supplied rest some = cc
groups_on E m (suc groups) done (Group first ∷ more) s supplied rest some =
    let one : suc groups - 1 ≡ groups = omega arith in
    let both : (first, more) ≡ (supplied, rest) = cc in
    rw one (ap (λ (split : List Expression × List Access).
    and_then (values E m done split.0 s) (λ found. group_values E m groups found split.1)) both)
groups_on E m (suc groups) done (Member name first ∷ more) s supplied rest some = cc
