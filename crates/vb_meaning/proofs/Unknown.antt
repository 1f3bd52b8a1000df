-- A name that stands for nothing is no call where a member stands behind it.
use Rattle.std.proofs.Common.{◌≡◌, ℕ, List, [], ◌∷◌, refl}
use Rattle.vb_value.specs.Errors.{undefined_variable}
use Rattle.vb_meaning.specs.Accesses.{Access, Group, Member, member_before}
use Rattle.vb_meaning.specs.Inner.{Inner}
use Rattle.vb_meaning.specs.Reading.{unknown}
use Rattle.vb_meaning.specs.State.{State}
use Rattle.vb_meaning.specs.Step.{fails}

pub unknown_member : (E : Type 0) (m : Inner E) (name : ℕ) (more : List Access) (s : State E)
    → unknown E m (member_before name more) s ≡ fails undefined_variable s
unknown_member E m name [] s = refl
unknown_member E m name (Group arguments ∷ more) s = refl
unknown_member E m name (Member next arguments ∷ more) s = refl
