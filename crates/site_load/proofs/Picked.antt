-- What the map has picked once one more name was looked at.
use Rattle.std.proofs.Common.{◌≡◌, inl, inr, ℕ, List, [], ◌∷◌, ◌++◌, Bool, true, false, Option, Some, None}
use Rattle.std.proofs.Common.{MatchOption, cond, refl, sym, ◌∙◌, ap, subst}
use Rattle.std.specs.BTreeMap.{BTreeMap, get, Updates, is_at}
use Rattle.std.specs.List.{Contains}
use Rattle.std.specs.Ordering.{is_eq}
use Rattle.std.proofs.lemmas.Cmp.{nat_list_cmp_total, tied_itself}
use Rattle.std.proofs.lemmas.List.Elements.{Contains-push, Contains-push_cases, Contains-append_left}
use Rattle.std.proofs.lemmas.Map.Lookups.{exact_bytes}
use Rattle.std.proofs.lemmas.Map.Views.{tells_apart}
use Rattle.vb_value.specs.Folding.{folded}
use Rattle.site_load.specs.Chosen.{IsBefore, compared}
use Rattle.site_load.specs.Picking.{HasNone, IsFirstWith, HasPicked, ComesFirst}

abbrev Names : Type 0
Names = List (List ℕ)

abbrev Picks : Type 0
Picks = BTreeMap (List ℕ) (List ℕ)

-- ---- one name more

-- there is still none, where the new name is none
still_none : (names : Names) (name key : List ℕ) → ¬ (folded name ≡ key)
    → HasNone names key → HasNone (names ++ name ∷ []) key
still_none names name key other none each there same = elim (Contains-push_cases names name each there) [
  | inl old ↦ none each old same
  | inr new ↦ other (ap folded new ∙ same)
]

-- the same path is still the first, where the new name is none or does not come before it
still_first : (names : Names) (name key path : List ℕ) → (folded name ≡ key → ¬ (IsBefore name path))
    → IsFirstWith names key path → IsFirstWith (names ++ name ∷ []) key path
still_first names name key path later (taken, at_key) = (
  record {
    there = Contains-append_left names (name ∷ []) path taken.there;
    first = λ each there same before. elim (Contains-push_cases names name each there) [
      | inl old ↦ taken.first each old same before
      | inr new ↦ later (ap folded new ∙ same ∙ at_key) (subst (λ one. IsBefore one path) (sym new) before)
    ];
  },
  at_key,
)

-- what is picked under a folded path, where the new name changes nothing
still_picked : (names : Names) (name key : List ℕ) (found : Option (List ℕ))
    → (found ≡ None → ¬ (folded name ≡ key))
    → ((path : List ℕ) → found ≡ Some path → folded name ≡ key → ¬ (IsBefore name path))
    → MatchOption found (HasNone names key) (IsFirstWith names key)
    → MatchOption found (HasNone (names ++ name ∷ []) key) (IsFirstWith (names ++ name ∷ []) key)
still_picked names name key None other later none = still_none names name key (other refl) none
still_picked names name key (Some path) other later first = still_first names name key path (later path refl) first

-- a name that does not come first
pub kept : (names : Names) (name : List ℕ) (picked : Picks) → ¬ (ComesFirst picked (folded name) name)
    → HasPicked names picked → HasPicked (names ++ name ∷ []) picked
kept names name picked late has key = still_picked names name key (get compared picked key)
    (λ none same. late (subst
    (λ found. MatchOption found (Unit {0}) (IsBefore name)) (sym (ap (get compared picked) same ∙ none)) tt))
    (λ path found same before. late (subst
    (λ one. MatchOption one (Unit {0}) (IsBefore name)) (sym (ap (get compared picked) same ∙ found)) before))
    (has key)

-- ---- a name that comes first

-- a text does not come before itself
not_before_itself : (text : List ℕ) → ¬ (IsBefore text text)
not_before_itself text before = let same = tied_itself nat_list_cmp_total text in cc

-- what comes before a name that comes first was not there
before_first : (names : Names) (name other : List ℕ) (found : Option (List ℕ))
    → MatchOption found (HasNone names (folded name)) (IsFirstWith names (folded name))
    → MatchOption found (Unit {0}) (IsBefore name)
    → Contains names other → folded other ≡ folded name → ¬ (IsBefore other name)
before_first names name other None none first there same before =
    none other there same
before_first names name other (Some path) was first there same before =
    was.0.first other there (same ∙ sym was.1) (nat_list_cmp_total.trans other name path before first)

-- the name is the first of those with its folded path
new_first : (names : Names) (name : List ℕ) (picked : Picks) → ComesFirst picked (folded name) name
    → HasPicked names picked → IsFirstWith (names ++ name ∷ []) (folded name) name
new_first names name picked first has = (
  record {
    there = Contains-push names name;
    first = λ other there same before. elim (Contains-push_cases names name other there) [
      | inl old ↦ before_first names name other (get compared picked (folded name)) (has (folded name)) first old same
          before
      | inr new ↦ not_before_itself name (subst (λ one. IsBefore one name) (sym new) before)
    ];
  },
  refl,
)

-- under another key than that of the name, what is picked is what was
other_key : (names : Names) (name key : List ℕ) (picked : Picks) → ¬ (folded name ≡ key) → HasPicked names picked
    → MatchOption (get compared picked key) (HasNone (names ++ name ∷ []) key) (IsFirstWith (names ++ name ∷ []) key)
other_key names name key picked apart has = still_picked names name key (get compared picked key)
    (λ _ same. apart same) (λ path _ same. absurd (apart same)) (has key)

-- a test that misses a key is not at that key
misses : (name key : List ℕ) → name ≡ key → ¬ (is_at (compared name) key ≡ false)
misses name key same miss =
    let tied : is_at (compared key) key ≡ true = ap is_eq (tied_itself nat_list_cmp_total key) in
    let hit : is_at (compared name) key ≡ true = subst (λ one. is_at (compared one) key ≡ true) (sym same) tied in
    cc

-- the name is put under its folded path
pub put_first : (names : Names) (name : List ℕ) (picked new : Picks)
    → ComesFirst picked (folded name) name
    → Updates compared picked new (folded name) (Some name)
    → HasPicked names picked → HasPicked (names ++ name ∷ []) new
put_first names name picked new first updates has key =
    let Goal : Option (List ℕ) → Type 0 =
    λ found. MatchOption found (HasNone (names ++ name ∷ []) key) (IsFirstWith (names ++ name ∷ []) key) in
    let at_key : (hit : Bool) → is_at (compared (folded name)) key ≡ hit
    → Goal (cond hit (Some name) (get compared picked key)) = elim [
      | true ↦ λ hit.
          let same : folded name ≡ key = tells_apart exact_bytes (folded name) key hit in
          subst (λ k. IsFirstWith (names ++ name ∷ []) k name) same (new_first names name picked first has)
      | false ↦ λ miss. other_key names name key picked
          (λ same. misses (folded name) key same miss) has
    ] in
    rw (updates.0 key) (at_key (is_at (compared (folded name)) key) refl)
