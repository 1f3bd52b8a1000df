-- What is kept of the pairs of a collection.
use Rattle.std.specs.Prelude.{◌≡◌, ℕ, List, [], ◌∷◌, unwrap_or}
use Rattle.std.specs.BTreeMap.{BTreeMap, get}
use Rattle.std.specs.Cmp.Lexicographic.{slice_cmp}
use Rattle.std.specs.Ordering.{nat_cmp}
use Rattle.vb_value.specs.Folding.{folded}
use Rattle.asp_request.specs.declared.collection.Collection.{Collection}
use Rattle.asp_request.specs.Pairs.{Pair, names_in, values_in}

-- what a map has at a folded name: no values where it has none
abbrev pub values_at : BTreeMap (List ℕ) (List (List ℕ)) → List ℕ → List (List ℕ)
values_at groups name = unwrap_or (get (slice_cmp nat_cmp) groups name) []

-- the name, where it has no values yet
abbrev pub new_name : List (List ℕ) → List ℕ → List (List ℕ)
new_name [] name = name ∷ []
new_name (value ∷ values) name = []

-- what is kept has the names of the pairs in their order, and beside each name its values in theirs
pub record Collects (kept : Collection) (pairs : List Pair) : Type 0 where
  pub names : kept.names ≡ names_in pairs
  pub values : (name : List ℕ) → values_at kept.groups (folded name) ≡ values_in pairs name
