-- Counts that rise and fall, and numbers that are put into the heap.
use Rattle.std.proofs.Common.{ℕ, ◌+◌, ◌-◌, ◌^◌, ◌<◌, ◌≡◌, ◌==◌, ◌&&◌, not, Bool, true, false, cond, zero, suc, List}
use Rattle.std.proofs.Common.{[], ◌∷◌, ◌++◌, Option, Some, None, Contains, refl, sym, ap, ◌∙◌, arith}
use Rattle.std.proofs.lemmas.List.Sorted.{Contains-permutation}
use Rattle.std.specs.List.Sorted.{IsPermutation}
use Rattle.std.specs.Option.{option_map, option_map_or}
use Rattle.slot_pool.specs.Pool.{NumbersRise}
use Rattle.vb_heap.specs.declared.counts.Count.{Count}
use Rattle.vb_heap.specs.Counted.{HaveRoom, counts_less, counts_more}
use Rattle.vb_heap.specs.Store.{numbered, replaced}
use Rattle.vb_heap.specs.Waiting.{Stands, apart, counts_of, ended, falls, lowered, raised, turned}
use Rattle.vb_heap.proofs.Counting.{lowered_nowhere, lowered_there, raised_nowhere, raised_there, room_one}
use Rattle.vb_heap.proofs.Parts.{parts_numbered}
use Rattle.vb_heap.proofs.Waiting.{some_left, apart_changed, apart_more}

-- ---- one reference more or less

pub raised_stands : (loose : List ℕ) (number : ℕ) (count : Count) → Stands loose number count
    → Stands loose number (raised count)
raised_stands loose number count one = record {
  fits = one.fits;
  waits = λ none live. absurd (omega (arith, none));
  there = one.there;
}

pub raised_counts : (number low high : ℕ) (entries : List (ℕ × Count)) (found : Option Count)
    → NumbersRise low entries high → numbered number entries ≡ found → HaveRoom (number ∷ []) (counts_of entries)
    → counts_of (option_map_or (λ count. replaced number (raised count) entries) found entries)
    ≡ counts_more (number ∷ []) (counts_of entries)
raised_counts number low high entries None rise is room =
    raised_nowhere (λ count. count.count) number low high entries rise is
raised_counts number low high entries (Some count) rise is room =
    let there = parts_numbered (λ count. count.count) number entries ∙ ap (option_map (λ count. count.count)) is in
    let fits = room_one number count.count [] (counts_of entries) room there in
    raised_there (λ count. count.count) number low high entries rise count (raised count) is (omega (arith, fits))

pub lowered_counts : (number low high : ℕ) (entries : List (ℕ × Count)) (found : Option Count)
    → NumbersRise low entries high → numbered number entries ≡ found
    → counts_of (option_map_or (λ count. replaced number (lowered count) entries) found entries)
    ≡ counts_less (number ∷ []) (counts_of entries)
lowered_counts number low high entries None rise is =
    lowered_nowhere (λ count. count.count) number low high entries rise is
lowered_counts number low high entries (Some count) rise is =
    lowered_there (λ count. count.count) number low high entries rise count (lowered count) is refl

-- the last reference goes, and the number isn't in the heap
pub falls_apart : (count : Count) → falls count ≡ true → (count.waits ≡ false) × ((lowered count).waits ≡ true)
falls_apart count fallen = so (count.count - 1) count.waits fallen
  where
    so : (left : ℕ) (waits : Bool) → (left == 0) && not waits ≡ true
        → (waits ≡ false) × (cond (left == 0) true waits ≡ true)
    so zero true fallen = absurd (cc)
    so zero false fallen = (refl, refl)
    so (suc left) waits fallen = let some = some_left left in absurd (cc)

pub keeps_place : (count : Count) → falls count ≡ false → (lowered count).waits ≡ count.waits
keeps_place count stays = so (count.count - 1) count.waits stays
  where
    so : (left : ℕ) (waits : Bool) → (left == 0) && not waits ≡ false → cond (left == 0) true waits ≡ waits
    so zero true stays = refl
    so zero false stays = absurd (cc)
    so (suc left) waits stays = rw (some_left left) refl

lowered_waits : (count : Count) → (lowered count).count ≡ 0 → (lowered count).waits ≡ true
lowered_waits count none = so (count.count - 1) none
  where
    so : (left : ℕ) → left ≡ 0 → cond (left == 0) true count.waits ≡ true
    so zero none = refl
    so (suc left) none = absurd (omega (arith, none))

pub lowered_stands : (loose : List ℕ) (number : ℕ) (count : Count) → falls count ≡ false → Stands loose number count
    → Stands loose number (lowered count)
lowered_stands loose number count stays one = record {
  fits = one.fits;
  waits = λ none live. lowered_waits count none;
  there = λ waits. one.there (sym (keeps_place count stays) ∙ waits);
}

pub fallen_stands : (loose : List ℕ) (number : ℕ) (count : Count) → Contains loose (turned number)
    → Stands loose number count → Stands loose number (lowered count)
fallen_stands loose number count there one = record {
  fits = one.fits;
  waits = λ none live. lowered_waits count none;
  there = λ waits. there;
}

pub fallen_apart : (number : ℕ) (entries : List (ℕ × Count)) (found : Option Count) → numbered number entries ≡ found
    → option_map_or falls found false ≡ true
    → apart (option_map_or (λ count. replaced number (lowered count) entries) found entries) + 1 ≡ apart entries
fallen_apart number entries None is fallen = absurd (cc)
fallen_apart number entries (Some count) is fallen =
    let both = falls_apart count fallen in
    omega (
      arith,
      apart_changed number count (lowered count) entries is,
      ap {B = ℕ} (λ waits. cond waits 0 1) both.0,
      ap {B = ℕ} (λ waits. cond waits 0 1) both.1,
    )

pub stays_found : (found : Option Count) (count : Count) → found ≡ Some count → option_map_or falls found false ≡ false
    → falls count ≡ false
stays_found found count is stays = ap (λ it. option_map_or falls it false) (sym is) ∙ stays

-- ---- a number more in the heap

pub one_more : (number : ℕ) (old new : List ℕ) → IsPermutation (turned number ∷ old) new
    → (x : ℕ) → Contains old x → Contains new x
one_more number old new moved x (at, within, is) =
    Contains-permutation (turned number ∷ old) new x moved (suc at, omega (arith, within), is)

pub it_stands : (number : ℕ) (old new : List ℕ) → IsPermutation (turned number ∷ old) new
    → Contains new (turned number)
it_stands number old new moved =
    Contains-permutation (turned number ∷ old) new (turned number) moved (0, omega arith, refl)

pub new_stands : (loose : List ℕ) (number count : ℕ) → number < 2 ^ 32
    → ((count == 0) ≡ true → Contains loose (turned number))
    → Stands loose number (record { count = count; waits = count == 0; ends = false })
new_stands loose number count low there = record {
  fits = low;
  waits = λ none live. rw none refl;
  there = there;
}

pub apart_new : (number count : ℕ) (entries : List (ℕ × Count))
    → apart (entries ++ (number, record { count = count; waits = count == 0; ends = false }) ∷ [])
    ≡ apart entries + cond (count == 0) 0 1
apart_new number count entries = apart_more number (record { count = count; waits = count == 0; ends = false }) entries

pub none_apart : (count : ℕ) → count ≡ 0 → ◌≡◌ {A = ℕ} (cond (count == 0) 0 1) 0
none_apart count none = rw none refl

-- ---- the terminator begins

pub ended_stands : (loose : List ℕ) (number : ℕ) (count : Count) → Stands loose number count
    → Stands loose number (ended count)
ended_stands loose number count one = record {
  fits = one.fits;
  waits = λ none live. absurd (cc);
  there = one.there;
}
