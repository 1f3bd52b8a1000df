-- What is told of a folder, and stops, handed on from call to call.
use Rattle.std.proofs.Common.{◌≡◌, Option, Some, None, IfErr, IfSome, IsErrAnd, Result, refl, subst, sym}
use Rattle.std.proofs.lemmas.Result.{err_from_is_err_and}

-- what is told of a folder that tells its files, from what is told
pub told : {A : Type 0} (given : Option A) (P Q : A → Type 0) → ((all : A) → given ≡ Some all → P all → Q all)
    → IfSome given P → IfSome given Q
told None P Q from is = tt
told (Some all) P Q from is = from all refl is

-- what is told of a folder that tells its files, from two things that are told
pub told_both : {A : Type 0} (given : Option A) (P Q R : A → Type 0) → ((all : A) → P all → Q all → R all)
    → IfSome given P → IfSome given Q → IfSome given R
told_both None P Q R from one other = tt
told_both (Some all) P Q R from one other = from all one other

-- a stop that is handed on as it is
pub handed_on : {T E : Type 0} (result : Result T E) (stop : E) (P : E → Type 0) → IsErrAnd result (λ err. err ≡ stop)
    → P stop → IfErr result P
handed_on {T} {E} result stop P is holds =
    let err = err_from_is_err_and result is in
    subst (λ (r : Result T E). IfErr r P) (sym err.1) (subst P (sym err.2) holds)

-- what holds of every list of files is told of a folder
pub always : {A : Type 0} (given : Option A) (P : A → Type 0) → ((all : A) → P all) → IfSome given P
always None P holds = tt
always (Some all) P holds = holds all

-- what is told of a folder that tells its files
pub for_some : {A : Type 0} (given : Option A) (P : A → Type 0) → IfSome given P → (all : A) → given ≡ Some all → P all
for_some given P is all tells = subst (λ (one : Option _). IfSome one P) tells is
