-- The segments of a path.
use Rattle.std.proofs.Common.{◌≡◌, ℕ, ◌+◌, ◌-◌, ◌<◌, ◌≤◌, List, [], ◌∷◌, length, take, drop, refl, sym, ap, ◌∙◌}
use Rattle.std.proofs.Common.{arith, false, cond, Some, None, All}
use Rattle.std.specs.Prelude.{Bool, not, position, ◌==◌}
use Rattle.std.proofs.lemmas.List.Elements.{All-nil, All-cons}
use Rattle.std.specs.List.{position_or_len}
use Rattle.std.proofs.lemmas.List.{take_all, length-drop}
use Rattle.std.proofs.lemmas.List.Splits.{slice_split_first, slice_split_none}
use Rattle.asp_text.specs.Path.{segments}
use Rattle.asp_text.proofs.Places.{by_cases, place_is, no_place}

-- the character is a slash
abbrev pub is_slash : ℕ → Bool
is_slash c = c == 47

pub cut_at_slash : (path later : List ℕ) (at : ℕ) → position (λ c. c == 47) path ≡ Some at
    → later ≡ take (length path - (at + 1)) (drop (at + 1) path)
    → (length later < length path) × (segments path ≡ take at path ∷ segments later)
cut_at_slash path later at found is =
    let place = (place_is is_slash path at found).0 in
    let inside = (place_is is_slash path at found).1 in
    let rest : later ≡ drop (at + 1) path = is
    ∙ take_all (length path - (at + 1)) (drop (at + 1) path) (omega (arith, length-drop (at + 1) path)) in (
      omega (arith, ap length rest, length-drop (at + 1) path),
      slice_split_first is_slash path 0 (omega arith)
          ∙ ap (λ k. take k path ∷ segments (drop (k + 1) path)) place
          ∙ ap (λ l. take at path ∷ segments l) (sym rest),
    )

-- where no place passes before the end, none does
none_before : (path : List ℕ) → length path ≤ position_or_len is_slash path → All (λ c. is_slash c ≡ false) path
none_before [] long = All-nil (λ c. is_slash c ≡ false)
none_before (c ∷ path) long =
    by_cases (λ t. is_slash c ≡ t → length (c ∷ path) ≤ cond (not t) (1 + position_or_len is_slash path) 0
    → All (λ x. is_slash x ≡ false) (c ∷ path))
    (is_slash c)
    (λ _ _ l. absurd (omega (arith, l)))
    (λ _ e l. All-cons (λ x. is_slash x ≡ false) c path e (none_before path (omega (arith, l))))
    refl long

-- a path without a slash
no_slash : (path : List ℕ) → position (λ c. c == 47) path ≡ None → All (λ c. is_slash c ≡ false) path
no_slash path none = none_before path (omega (arith, no_place is_slash path none))

pub uncut : (path : List ℕ) → position (λ c. c == 47) path ≡ None → segments path ≡ path ∷ []
uncut path none = slice_split_none is_slash path (no_slash path none)
