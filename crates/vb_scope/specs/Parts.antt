-- Lists that stand one behind another in one list, by how long each is.
use Rattle.std.specs.Prelude.{ℕ, List, [], ◌∷◌, take, drop}

-- the lists, in their order
abbrev pub parts_by : {A : Type 0} → List ℕ → List A → List (List A)
parts_by [] all = []
parts_by (count ∷ counts) all = take count all ∷ parts_by counts (drop count all)
