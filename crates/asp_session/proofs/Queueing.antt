-- The runs that wait, from a place on.
use Rattle.std.proofs.Common.{◌≡◌, ℕ, ◌+◌, ◌<◌, ◌≤◌, ◌==◌, true, List, [], ◌∷◌, ◌++◌, length, get_or, take, drop}
use Rattle.std.proofs.Common.{if◌then◌else◌, refl, sym, ap, ◌∙◌, add-one, drop-cons}
use Rattle.std.proofs.lemmas.Bool.{eq-eqb}
use Rattle.std.proofs.lemmas.List.{append-nil, drop_all, take_all}
use Rattle.asp_session.specs.declared.key.Waiter.{Waiter}
use Rattle.asp_session.specs.Steps.{without_first}

-- the run at a place is the first of the key from there on
pub taken_here : (key at : ℕ) (waiting : List Waiter) (waiter : Waiter) → at < length waiting
    → waiter ≡ get_or waiting at waiter → waiter.key ≡ key
    → without_first key (drop at waiting) ≡ drop (at + 1) waiting
taken_here key at waiting waiter within is of_key =
    let front : drop at waiting ≡ get_or waiting at waiter ∷ drop (at + 1) waiting =
    rw (add-one, drop-cons waiting at waiter) refl in
    let same : ((get_or waiting at waiter).key == key) ≡ true =
    ap (λ (one : Waiter). one.key == key) (sym is) ∙ eq-eqb waiter.key key of_key in
    ap (without_first key) front
    ∙ (λ i. if same i then drop (at + 1) waiting
    else get_or waiting at waiter ∷ without_first key (drop (at + 1) waiting))

-- behind the last there is none to take
pub taken_none : (key at : ℕ) (waiting : List Waiter) → length waiting ≤ at
    → waiting ≡ take at waiting ++ without_first key (drop at waiting)
taken_none key at waiting behind =
    sym (rw (drop_all at waiting behind, take_all at waiting behind) (append-nil waiting))
