-- Names with values, as collections show them (ASP 3.0, "Request Collection Search"). Names compare without ASCII case.
use Rattle.std.specs.Prelude.{ℕ, Bool, not, List, [], ◌∷◌, ◌++◌, map, filter, codes, Option, Some, None}
use Rattle.std.specs.List.{flat_map}
use Rattle.vb_value.specs.Folding.{same_name}

-- a name and a value
abbrev pub Pair : Type 0
Pair = List ℕ × List ℕ

-- whether the pair has that name
abbrev pub is_named : List ℕ → Pair → Bool
is_named name pair = same_name pair.0 name

-- the values of a name, in their order
unfoldable pub values_in : List Pair → List ℕ → List (List ℕ)
values_in pairs name = map (λ pair. pair.1) (filter (is_named name) pairs)

-- the first pair of each name, in their order: the first of all, and then those of other names
unfoldable pub firsts : List Pair → List Pair
firsts [] = []
firsts (pair ∷ pairs) = pair ∷ filter (λ other. not (same_name pair.0 other.0)) (firsts pairs)

-- the names, each as it is first written, in the order in which they first appear
abbrev pub names_in : List Pair → List (List ℕ)
names_in pairs = map (λ pair. pair.0) (firsts pairs)

-- the first of some values
abbrev pub first_of : List (List ℕ) → Option (List ℕ)
first_of [] = None
first_of (value ∷ values) = Some value

-- the values, with `, ` between them
unfoldable pub joined : List (List ℕ) → List ℕ
joined [] = []
joined (value ∷ values) = value ++ flat_map (λ other. codes ", " ++ other) values
