-- The hands of a host, one by one.
use Rattle.std.proofs.Common.{◌≡◌, ℕ, true, false, List, [], ◌∷◌, ◌++◌, All, IfSome, MatchOption, Option, Some, None}
use Rattle.std.proofs.Common.{ap, refl}
use Rattle.std.proofs.lemmas.List.Elements.{All-nil, All-pop, All-same}
use Rattle.std.specs.Option.{is_some}
use Rattle.asp_core.specs.Kernel.{RunView}
use Rattle.asp_desk.specs.Hands.{held_number}

-- a hand that says it holds no run holds none
pub free_held : {State : Type 0} (held : Option (RunView State)) (told : Option ℕ) → told ≡ held_number held
    → is_some told ≡ false → held ≡ None
free_held None told is none = refl
free_held (Some run) told is none = absurd (let some : is_some told ≡ true = ap is_some is in cc)

-- what holds of each holds of the last and of the others
pub last_and_others : {X : Type 0} (P : X → Type 0) (xs ys : List X) (last : Option X)
    → MatchOption last ((xs ≡ []) × (ys ≡ [])) (λ one. xs ≡ ys ++ one ∷ []) → All P xs → All P ys × IfSome last P
last_and_others P xs ys None is all = (All-same P ys [] is.1 (All-nil P), tt)
last_and_others P xs ys (Some one) is all = All-pop P xs ys (Some one) is all
