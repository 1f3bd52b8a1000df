-- Members stand before other accesses: one with no group directly behind it takes none, and no call begins with one.
use Rattle.std.proofs.Common.{◌≡◌, ℕ, zero, suc, List, [], ◌∷◌, None, refl}
use Rattle.vb_syntax.specs.declared.program.expression.Expression.{Expression}
use Rattle.vb_meaning.specs.Accesses.{Access, Group, Member, member_before, call_split}
use Rattle.vb_world.specs.Steps.{next_group, first_call, call_alone}

pub member_first : (name other : ℕ) (more : List Access)
    → member_before name (member_before other more) ≡ Member name None ∷ member_before other more
member_first name other [] = refl
member_first name other (Group arguments ∷ more) = refl
member_first name other (Member next arguments ∷ more) = refl

pub no_call : (name : ℕ) (more : List Access)
    → call_split (member_before name more) ≡ ([], member_before name more)
no_call name [] = refl
no_call name (Group arguments ∷ more) = refl
no_call name (Member next arguments ∷ more) = refl

-- no group stands where a member does
pub no_group : (groups name : ℕ) (more : List Access) → next_group groups (member_before name more) ≡ None
no_group zero name more = refl
no_group (suc groups) name [] = refl
no_group (suc groups) name (Group arguments ∷ more) = refl
no_group (suc groups) name (Member next arguments ∷ more) = refl

-- no call begins with a member
pub no_first_call : (name : ℕ) (more : List Access)
    → first_call (member_before name more) ≡ ([], member_before name more)
no_first_call name [] = refl
no_first_call name (Group arguments ∷ more) = refl
no_first_call name (Member next arguments ∷ more) = refl

-- a call is not alone where a member stands, or behind it
pub not_alone : (name : ℕ) (more : List Access) → call_alone (member_before name more) ≡ None
not_alone name [] = refl
not_alone name (Group arguments ∷ more) = refl
not_alone name (Member next arguments ∷ more) = refl

pub not_alone_behind : (supplied : List Expression) (name : ℕ) (more : List Access)
    → call_alone (Group supplied ∷ member_before name more) ≡ None
not_alone_behind supplied name [] = refl
not_alone_behind supplied name (Group arguments ∷ more) = refl
not_alone_behind supplied name (Member next arguments ∷ more) = refl
