-- This crate's own: what a map from folded paths to paths has picked of names.
use Rattle.std.specs.Prelude.{◌≡◌, ℕ, List, MatchOption}
use Rattle.std.specs.BTreeMap.{BTreeMap, get}
use Rattle.std.specs.List.{Contains}
use Rattle.vb_value.specs.Folding.{folded}
use Rattle.site_load.specs.Chosen.{IsBefore, IsChosen, compared}

-- none of the names has this folded path
abbrev pub HasNone : List (List ℕ) → List ℕ → Type 0
HasNone names key = (name : List ℕ) → Contains names name → ¬ (folded name ≡ key)

-- the path that the site takes of the names with this folded path
abbrev pub IsFirstWith : List (List ℕ) → List ℕ → List ℕ → Type 0
IsFirstWith names key path = IsChosen names path × (folded path ≡ key)

-- under each folded path, the map has the path that the site takes of the names
abbrev pub HasPicked : List (List ℕ) → BTreeMap (List ℕ) (List ℕ) → Type 0
HasPicked names picked = (key : List ℕ)
    → MatchOption (get compared picked key) (HasNone names key) (IsFirstWith names key)

-- the map has nothing under this folded path, or something that comes after the name
abbrev pub ComesFirst : BTreeMap (List ℕ) (List ℕ) → List ℕ → List ℕ → Type 0
ComesFirst picked key name = MatchOption (get compared picked key) (Unit {0}) (IsBefore name)
