-- What is told of a folder, and stops, handed on from call to call.
use Rattle.std.proofs.Common.{◌≡◌, ℕ, ◌≤◌, Option, Some, None, IfErr, IfSome, IsErrAnd, Result}
use Rattle.std.proofs.Common.{refl, subst, sym, arith}
use Rattle.std.proofs.lemmas.Result.{err_from_is_err_and}
use Rattle.asp_io.specs.Faults.{HasCause, HasRisen}

-- what is told of a folder that tells its files, from what is told
pub told : {A : Type 0} (given : Option A) (P Q : A → Type 0) → ((all : A) → given ≡ Some all → P all → Q all)
    → IfSome given P → IfSome given Q
told None P Q from is = tt
told (Some all) P Q from is = from all refl is

-- what is told of a folder that tells its files, from two things that are told
pub told_both : {A : Type 0} (given : Option A) (P Q R : A → Type 0) → ((all : A) → P all → Q all → R all)
    → IfSome given P → IfSome given Q → IfSome given R
told_both None P Q R from one other = tt
told_both (Some all) P Q R from one other = from all one other

-- a stop that is handed on as it is
pub handed_on : {T E : Type 0} (result : Result T E) (stop : E) (P : E → Type 0) → IsErrAnd result (λ err. err ≡ stop)
    → P stop → IfErr result P
handed_on {T} {E} result stop P is holds =
    let err = err_from_is_err_and result is in
    subst (λ (r : Result T E). IfErr r P) (sym err.1) (subst P (sym err.2) holds)

risen_since : (old mid new : ℕ) → old ≤ mid → HasRisen mid new → HasRisen old new
risen_since old mid new later risen = omega arith

-- a fault of the second of two calls
pub cause_after : {S T E : Type 0} (fault : E) (old mid new : ℕ) (first : Result S E) (second : Result T E)
    → HasCause fault old mid first → HasCause fault mid new second → HasCause fault old new second
cause_after fault old mid new first second one other =
    let before = one.later in
    let after = other.later in
    record {
      later = omega arith;
      within = λ small. other.within (one.within small);
      failed = λ e. risen_since old mid new before (other.failed e);
    }
