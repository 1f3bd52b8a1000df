-- The paths that the map has picked are the chosen of the names.
use Rattle.std.proofs.Common.{◌≡◌, ℕ, ◌<◌, List, Option, Some, None, MatchOption, refl, sym, ◌∙◌, ap, subst}
use Rattle.std.proofs.Common.{length, get_or, map, arith}
use Rattle.std.specs.declared.cmp.Ordering.{Ordering}
use Rattle.std.specs.declared.cmp.Ordering.TheVariants.{Less, Equal, Greater}
use Rattle.std.specs.BTreeMap.{BTreeMap, IsOrdered, get, keys, values}
use Rattle.std.specs.List.{All, AllPairs, Contains}
use Rattle.std.proofs.lemmas.Cmp.{nat_list_cmp_total}
use Rattle.std.proofs.lemmas.List.{get_or-map, length-map}
use Rattle.std.proofs.lemmas.List.Elements.{All-map, All-weaker, All-get_or}
use Rattle.std.proofs.lemmas.Map.Keys.{Less-from_sorted}
use Rattle.std.proofs.lemmas.Map.Lookups.{exact_bytes}
use Rattle.std.proofs.lemmas.Map.Views.{All-found, tells_apart, Contains-from_lookup}
use Rattle.vb_value.specs.Folding.{folded}
use Rattle.site_load.specs.Chosen.{AreChosen, IsChosen, IsBefore, compared}
use Rattle.site_load.specs.Picking.{HasNone, IsFirstWith, HasPicked}

-- what another comes after comes before it
pub behind : (path other : List ℕ) → compared path other ≡ Greater → IsBefore other path
behind path other after = nat_list_cmp_total.antisymm other path ∙ rw after refl

-- what the map has at a key is the chosen of the names there
at_entry : (names : List (List ℕ)) (picked : BTreeMap (List ℕ) (List ℕ)) → HasPicked names picked → (key path : List ℕ)
    → get compared picked key ≡ Some path → IsFirstWith names key path
at_entry names picked has key path found =
    subst (λ one. MatchOption one (HasNone names key) (IsFirstWith names key)) found (has key)

-- each path is chosen
each_chosen : (names : List (List ℕ)) (picked : BTreeMap (List ℕ) (List ℕ)) → IsOrdered compared picked
    → HasPicked names picked
    → All (IsChosen names) (values picked)
each_chosen names picked ordered has = All-map (IsChosen names) (λ e. e.1) picked.entries
    (All-weaker (λ e. get compared picked e.0 ≡ Some e.1) (λ e. IsChosen names e.1)
    (λ e found. (at_entry names picked has e.0 e.1 found).0) picked.entries
    (All-found nat_list_cmp_total picked ordered))

-- what a list holds is held, changed alike, by the changed list
contains_map : {X Y : Type 0} (f : X → Y) (xs : List X) (x : X) → Contains xs x → Contains (map f xs) (f x)
contains_map f xs x there =
    (there.0, rw (length-map xs f) there.1, get_or-map f xs there.0 x (f x) there.1 ∙ ap f there.2)

-- of paths with one folded path, one is the first
pub one_first : (names : List (List ℕ)) (path first : List ℕ) → IsChosen names path → IsChosen names first
    → folded first ≡ folded path → first ≡ path
one_first names path first chosen also same =
    let apart : (order : Ordering) → compared first path ≡ order → first ≡ path = elim [
      | Less ↦ λ before. absurd (chosen.first first also.there same before)
      | Equal ↦ λ tied. exact_bytes first path tied
      | Greater ↦ λ after. absurd (also.first path chosen.there (sym same) (behind first path after))
    ] in
    apart (compared first path) refl

-- each chosen path is there
all_chosen : (names : List (List ℕ)) (picked : BTreeMap (List ℕ) (List ℕ)) → HasPicked names picked → (path : List ℕ)
    → IsChosen names path → Contains (values picked) path
all_chosen names picked has path taken =
    let there : (found : Option (List ℕ)) → get compared picked (folded path) ≡ found
    → Contains (values picked) path = elim [
      | None ↦ λ found. absurd (subst
          (λ one. MatchOption one (HasNone names (folded path)) (IsFirstWith names (folded path))) found
          (has (folded path)) path taken.there refl)
      | Some first ↦ λ found.
          let at_key = at_entry names picked has (folded path) first found in
          let same = one_first names path first taken at_key.0 at_key.1 in
          let entry = Contains-from_lookup (tells_apart exact_bytes) (folded path) first picked.entries found in
          subst (Contains (values picked)) same (contains_map
          (λ (e : List ℕ × List ℕ). e.1) picked.entries (folded path, first) entry)
    ] in
    there (get compared picked (folded path)) refl

-- they come in the order of their folded paths
in_order : (names : List (List ℕ)) (picked : BTreeMap (List ℕ) (List ℕ)) → IsOrdered compared picked
    → HasPicked names picked
    → AllPairs (λ path other. IsBefore (folded path) (folded other)) (values picked)
in_order names picked ordered has i j d less within =
    let es = picked.entries in
    let at : (k : ℕ) → k < length es → folded (get_or (values picked) k d) ≡ get_or (keys picked) k d = λ k inside.
    let entry = All-get_or
    (λ e. get compared picked e.0 ≡ Some e.1) es k (d, d) inside (All-found nat_list_cmp_total picked ordered) in
    let first = at_entry names picked has (get_or es k (d, d)).0 (get_or es k (d, d)).1 entry in
    ap folded (get_or-map (λ (e : List ℕ × List ℕ). e.1) es k (d, d) d inside) ∙ first.1
    ∙ sym (get_or-map (λ (e : List ℕ × List ℕ). e.0) es k (d, d) d inside) in
    let many : length (values picked) ≡ length es = length-map es (λ (e : List ℕ × List ℕ). e.1) in
    let keyed = Less-from_sorted compared (keys picked) i j d ordered less
    (omega (arith, many, within, length-map es (λ (e : List ℕ × List ℕ). e.0))) in
    rw (at i (omega (arith, many, within, less)), at j (omega (arith, many, within))) keyed

pub are_chosen : (names : List (List ℕ)) (picked : BTreeMap (List ℕ) (List ℕ)) → IsOrdered compared picked
    → HasPicked names picked
    → AreChosen names (values picked)
are_chosen names picked ordered has = record {
  each = each_chosen names picked ordered has;
  all = all_chosen names picked has;
  ordered = in_order names picked ordered has;
}
