-- Paths that were sorted and then kept once each.
use Rattle.std.proofs.Common.{◌≡◌, ◌≢◌, ℕ, ◌<◌, List, [], ◌∷◌, nat_eq, sym, ◌∙◌, ap, subst, arith}
use Rattle.std.specs.Cmp.Lexicographic.{pointwise, slice_cmp, lists_ties}
use Rattle.std.specs.Cmp.{unsigned_ties}
use Rattle.std.specs.Ordering.{nat_cmp, ordering_reverse}
use Rattle.std.specs.declared.cmp.Ordering.TheVariants.{Less, Greater}
use Rattle.std.specs.List.{All, AllByRecursion, AllPairs, dedup}
use Rattle.std.specs.List.Retain.{DiffersFromLast, IsFiltered}
use Rattle.std.specs.List.Sorted.{IsPermutation, IsSorted, IsStrictlySortedBy}
use Rattle.std.proofs.lemmas.Cmp.{nat_list_cmp_total}
use Rattle.std.proofs.lemmas.List.Elements.{All-cons}
use Rattle.std.proofs.lemmas.List.Filters.{All-dedup, dedup_is}
use Rattle.std.proofs.lemmas.List.Kept.{AllPairs-cons, IsStrictlySortedBy-dedup}
use Rattle.std.proofs.lemmas.List.Sorted.{All-permutation}
use Rattle.asp_io.specs.Folder.{AreSitePaths, IsRooted}

-- a text is not below itself
below_differs : (path other : List ℕ) → slice_cmp nat_cmp path other ≡ Less → path ≢ other
below_differs path other below same =
    let own : slice_cmp nat_cmp other other ≡ Less = subst (λ text. slice_cmp nat_cmp text other ≡ Less) same below in
    let flipped : Less ≡ Greater = sym own ∙ nat_list_cmp_total.antisymm other other ∙ ap ordering_reverse own in
    cc

-- what is below each of the paths is none of them
all_differ : (path : List ℕ) (paths : List (List ℕ)) → AllByRecursion (λ other. slice_cmp nat_cmp path other ≡ Less) paths
    → All (λ other. path ≢ other) paths
all_differ path [] below = λ k d within. absurd (let none : k < 0 = within in omega arith)
all_differ path (other ∷ paths) below =
    All-cons (λ other. path ≢ other) other paths (below_differs path other below.0) (all_differ path paths below.1)

-- no two of strictly sorted paths are alike
sorted_differ : (paths : List (List ℕ)) → IsStrictlySortedBy (slice_cmp nat_cmp) paths
    → AllPairs (λ path other. path ≢ other) paths
unfolding IsStrictlySortedBy
sorted_differ [] sorted = λ i j d before within. absurd (let none : j < 0 = within in omega arith)
sorted_differ (path ∷ paths) sorted =
    AllPairs-cons (λ path other. path ≢ other) path paths (all_differ path paths sorted.0) (sorted_differ paths sorted.1)

-- what a sort and then `dedup` leave of paths that begin with a slash
pub kept_paths : (paths sorted kept : List (List ℕ)) → All IsRooted paths → IsPermutation paths sorted
    → IsSorted (slice_cmp nat_cmp) sorted → IsFiltered (DiffersFromLast (pointwise nat_eq)) [] sorted kept → AreSitePaths kept
kept_paths paths sorted kept rooted permutation in_order filtered =
    subst AreSitePaths (sym (dedup_is (pointwise nat_eq) sorted kept filtered)) record {
      rooted = All-dedup (pointwise nat_eq) IsRooted sorted (All-permutation IsRooted paths sorted permutation rooted);
      distinct = sorted_differ (dedup (pointwise nat_eq) sorted)
          (IsStrictlySortedBy-dedup nat_list_cmp_total (lists_ties nat_cmp unsigned_ties) sorted in_order);
    }
