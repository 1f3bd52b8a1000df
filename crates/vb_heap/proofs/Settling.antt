-- Numbers that are taken out of the heap, the oldest first.
use Rattle.std.proofs.Common.{ℕ, ◌+◌, ◌^◌, ◌<◌, ◌≤◌, ◌≡◌, ◌≢◌, ◌==◌, ◌&&◌, not, Bool, true, false, cond, zero}
use Rattle.std.proofs.Common.{suc, List, [], ◌∷◌, length, Option, Some, None, All, refl, sym, ap, subst, ◌∙◌, arith}
use Rattle.std.proofs.lemmas.List.Elements.{All-contains}
use Rattle.std.specs.Option.{option_map_or}
use Rattle.slot_pool.specs.Pool.{NumbersRise}
use Rattle.vb_heap.specs.declared.counts.Count.{Count}
use Rattle.vb_heap.specs.Store.{is_number, numbered, replaced}
use Rattle.vb_heap.specs.Tally.{oldest_waiting}
use Rattle.vb_heap.specs.Waiting.{EachStands, Stands, changed, counts_of, ends_of, is_free, settled, turned}
use Rattle.vb_heap.proofs.Parts.{alike, itself, parts_replaced}
use Rattle.vb_heap.proofs.Waiting.{some_left, behind, turns_apart}

-- ---- a number that is taken out

module _ (number : ℕ) (low : number < 2 ^ 32) (loose : List ℕ) where
  one_stays : (other : ℕ) (count : Count) → other ≢ number → Stands (turned number ∷ loose) other count
      → Stands loose other count
  one_stays other count differ one = record {
    fits = one.fits;
    waits = one.waits;
    there =
        λ waits. behind (turned number) (turned other) loose (one.there waits)
        (turns_apart other number one.fits low differ);
  }

  above_stay : (from high : ℕ) (entries : List (ℕ × Count)) → number < from → NumbersRise from entries high
      → EachStands (turned number ∷ loose) entries → EachStands loose entries
  above_stay from high [] less rise all = tt
  above_stay from high (first ∷ others) less rise all = (
    one_stays first.0 first.1 (λ same. omega (arith, less, rise.0, same)) all.0,
    above_stay (first.0 + 1) high others (omega (arith, less, rise.0)) rise.1 all.1,
  )

  pub stands_taken : (change : Count → Count)
      → ((count : Count) → Stands (turned number ∷ loose) number count → Stands loose number (change count))
      → (from high : ℕ) (entries : List (ℕ × Count)) → NumbersRise from entries high
      → EachStands (turned number ∷ loose) entries → EachStands loose (changed number change entries)
  stands_taken change keeps from high entries rise all = by (numbered number entries) refl
    where
      none : (others : List (ℕ × Count)) → numbered number others ≡ None → EachStands (turned number ∷ loose) others
          → EachStands loose others
      none [] is all = tt
      none (first ∷ others) is all = at (is_number number first.0) refl is (λ deeper. none others deeper all.1)
        where
          at : (here : Bool) → is_number number first.0 ≡ here
              → cond here (Some first.1) (numbered number others) ≡ None
              → (numbered number others ≡ None → EachStands loose others) → EachStands loose (first ∷ others)
          at true same found rest = absurd (cc)
          at false same found rest =
              (one_stays first.0 first.1 (λ equal. let it = itself number in absurd (cc)) all.0, rest found)

      some : (count : Count) (start : ℕ) (others : List (ℕ × Count)) → numbered number others ≡ Some count
          → NumbersRise start others high → EachStands (turned number ∷ loose) others
          → EachStands loose (replaced number (change count) others)
      some count start [] is rise all = tt
      some count start (first ∷ others) is rise all =
          at (is_number number first.0) refl is (λ deeper. some count (first.0 + 1) others deeper rise.1 all.1)
        where
          at : (here : Bool) → is_number number first.0 ≡ here
              → cond here (Some first.1) (numbered number others) ≡ Some count
              → (numbered number others ≡ Some count → EachStands loose (replaced number (change count) others))
              → EachStands loose (cond here ((first.0, change count) ∷ others)
              (first ∷ replaced number (change count) others))
          at true same found rest =
              let equal = alike number first.0 same in
              let one : first.1 ≡ count = cc in (
                subst (λ at. Stands loose at (change count)) equal
                    (keeps count (subst (λ it. Stands (turned number ∷ loose) number it) one
                    (subst (λ at. Stands (turned number ∷ loose) at first.1) (sym equal) all.0))),
                above_stay (first.0 + 1) high others (omega (arith, equal)) rise.1 all.1,
              )
          at false same found rest =
              (one_stays first.0 first.1 (λ equal. let it = itself number in absurd (cc)) all.0, rest found)

      by : (found : Option Count) → numbered number entries ≡ found
          → EachStands loose (option_map_or (λ count. replaced number (change count) entries) found entries)
      by None is = none entries is all
      by (Some count) is = some count from entries is rise all

-- ---- the oldest

module _ (number : ℕ) (low : number < 2 ^ 32) (loose : List ℕ) (top : All (λ y. y ≤ turned number) loose) where
  -- no number before the one that comes first is that of a live object without references
  none_before : (other : ℕ) (count : Count) → Stands loose other count → is_free count ≡ true → number ≤ other
  none_before other count one free =
      let there = All-contains (λ y. y ≤ turned number) loose (turned other) top
      (one.there (one.waits (freely count free).0 (freely count free).1)) in
      omega (arith, there, one.fits, low)
    where
      freely : (count : Count) → is_free count ≡ true → (count.count ≡ 0) × (count.ends ≡ false)
      freely count free = by count.ends count.count free
        where
          by : (ends : Bool) (count : ℕ) → not ends && (count == 0) ≡ true → (count ≡ 0) × (ends ≡ false)
          by true count free = absurd (cc)
          by false zero free = (refl, refl)
          by false (suc count) free = let some = some_left count in absurd (cc)

  pub oldest_here : (count : Count) (from high : ℕ) (entries : List (ℕ × Count)) → NumbersRise from entries high
      → EachStands loose entries → numbered number entries ≡ Some count → is_free count ≡ true
      → oldest_waiting (counts_of entries) (ends_of entries) ≡ Some number
  oldest_here count from high [] rise all is free = absurd (cc)
  oldest_here count from high (first ∷ others) rise all is free =
      by (is_number number first.0) refl (is_free first.1) refl is
      (λ deeper. oldest_here count (first.0 + 1) high others rise.1 all.1 deeper free)
    where
      by : (here : Bool) → is_number number first.0 ≡ here → (it : Bool) → is_free first.1 ≡ it
          → cond here (Some first.1) (numbered number others) ≡ Some count
          → (numbered number others ≡ Some count
          → oldest_waiting (counts_of others) (ends_of others) ≡ Some number)
          → cond it (Some first.0) (oldest_waiting (counts_of others) (ends_of others)) ≡ Some number
      by true same true passes found rest = ap Some (sym (alike number first.0 same))
      by true same false passes found rest =
          let one : first.1 ≡ count = cc in absurd (cc)
      by false same true passes found rest =
          let after = none_before first.0 first.1 all.0 passes in
          absurd (omega (arith, after, below_found others (first.0 + 1) rise.1 found))
        where
          below_found : (more : List (ℕ × Count)) (start : ℕ) → NumbersRise start more high
              → numbered number more ≡ Some count → start ≤ number
          below_found [] start rise found = absurd (cc)
          below_found (next ∷ more) start rise found =
              at (is_number number next.0) refl found (λ deeper. below_found more (next.0 + 1) rise.1 deeper)
            where
              at : (here : Bool) → is_number number next.0 ≡ here
                  → cond here (Some next.1) (numbered number more) ≡ Some count
                  → (numbered number more ≡ Some count → next.0 + 1 ≤ number) → start ≤ number
              at true same found rest = omega (arith, alike number next.0 same, rise.0)
              at false same found rest = omega (arith, rest found, rise.0)
      by false same false passes found rest = rest found

-- where none stands in the heap there is none
pub none_waits : (loose : List ℕ) → length loose ≡ 0 → (entries : List (ℕ × Count)) → EachStands loose entries
    → oldest_waiting (counts_of entries) (ends_of entries) ≡ None
none_waits loose empty [] all = refl
none_waits loose empty (first ∷ others) all =
    by first.1.ends first.1.count refl refl (none_waits loose empty others all.1)
  where
    by : (ends : Bool) (count : ℕ) → first.1.ends ≡ ends → first.1.count ≡ count
        → oldest_waiting (counts_of others) (ends_of others) ≡ None
        → cond (not ends && (count == 0)) (Some first.0) (oldest_waiting (counts_of others) (ends_of others)) ≡ None
    by true count live none rest = rest
    by false zero live none rest = let there = all.0.there (all.0.waits none live) in absurd (omega (arith, there.1, empty))
    by false (suc count) live none rest = rw (some_left count) rest

-- ---- a number is taken out

pub settled_stands : (loose : List ℕ) (number : ℕ) (count : Count) → number < 2 ^ 32 → Stands loose number (settled count)
settled_stands loose number count low = record {
  fits = low;
  waits = λ none live. then count.count count.ends none live;
  there = λ waits. absurd (cc);
}
  where
    then : (count : ℕ) (ends : Bool) → count ≡ 0 → cond (count == 0) true ends ≡ false → false ≡ true
    then zero ends none live = absurd (cc)
    then (suc count) ends none live = absurd (omega (arith, none))

pub settled_ends : (number : ℕ) (entries : List (ℕ × Count)) (found : Option Count) → numbered number entries ≡ found
    → option_map_or is_free found false ≡ true
    → ends_of (option_map_or (λ count. replaced number (settled count) entries) found entries)
    ≡ replaced number true (ends_of entries)
settled_ends number entries None is free = absurd (cc)
settled_ends number entries (Some count) is free =
    parts_replaced (λ count. count.ends) number (settled count) entries
    ∙ ap (λ end. replaced number end (ends_of entries)) (then count.count count.ends free)
  where
    then : (count : ℕ) (ends : Bool) → not ends && (count == 0) ≡ true → cond (count == 0) true ends ≡ true
    then zero ends free = refl
    then (suc count) true free = rw (some_left count) refl
    then (suc count) false free = let some = some_left count in absurd (cc)

pub settled_live : (count : Count) → is_free count ≡ false → (settled count).ends ≡ count.ends
settled_live count held = then count.count count.ends held
  where
    then : (count : ℕ) (ends : Bool) → not ends && (count == 0) ≡ false → cond (count == 0) true ends ≡ ends
    then zero true held = refl
    then zero false held = absurd (cc)
    then (suc count) ends held = rw (some_left count) refl

pub free_found : (found : Option Count) → option_map_or is_free found false ≡ true
    → (count : Count) × (found ≡ Some count) × (is_free count ≡ true)
free_found None free = absurd (cc)
free_found (Some count) free = (count, refl, free)

pub held_found : (found : Option Count) (count : Count) → found ≡ Some count → option_map_or is_free found false ≡ false
    → is_free count ≡ false
held_found found count is held = ap (λ it. option_map_or is_free it false) (sym is) ∙ held
