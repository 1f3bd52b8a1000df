-- Numbers that stand in a heap where their counts say so.
use Rattle.std.proofs.Common.{ℕ, ◌+◌, ◌^◌, ◌<◌, ◌≤◌, ◌≡◌, ◌≢◌, ◌==◌, Bool, true, false, cond, zero, suc}
use Rattle.std.proofs.Common.{List, [], ◌∷◌, ◌++◌, length, Option, Some, None, Contains, refl, sym, ap, ◌∙◌, arith}
use Rattle.std.proofs.lemmas.Bool.Decides.{nat_tests}
use Rattle.std.specs.Option.{option_map, option_map_or}
use Rattle.vb_heap.specs.declared.counts.Count.{Count}
use Rattle.vb_heap.specs.Counted.{parts_of}
use Rattle.vb_heap.specs.Store.{is_number, numbered, replaced, without}
use Rattle.vb_heap.specs.Waiting.{EachStands, Stands, apart, if_apart, turned}
use Rattle.vb_heap.proofs.Parts.{alike, parts_numbered, parts_replaced, parts_same}

pub some_left : (count : ℕ) → (suc count == 0) ≡ false
some_left count = grind (arith, nat_tests)

-- ---- what stands in a heap

pub behind : (x y : ℕ) (xs : List ℕ) → Contains (x ∷ xs) y → x ≢ y → Contains xs y
behind x y xs (zero, within, is) differ = absurd (differ is)
behind x y xs (suc k, within, is) differ = (k, omega (arith, within), is)

pub turns_apart : (m n : ℕ) → m < 2 ^ 32 → n < 2 ^ 32 → m ≢ n → turned n ≢ turned m
turns_apart m n small low differ same = differ (omega (arith, small, low, same))

-- ---- each number stands

module _ (loose : List ℕ) where
  pub stands_changed : (number : ℕ) (new : Count) (entries : List (ℕ × Count)) → Stands loose number new
      → EachStands loose entries → EachStands loose (replaced number new entries)
  stands_changed number new [] one all = tt
  stands_changed number new (first ∷ others) one all =
      by (is_number number first.0) refl (stands_changed number new others one all.1)
    where
      by : (here : Bool) → is_number number first.0 ≡ here → EachStands loose (replaced number new others)
          → EachStands loose (cond here ((first.0, new) ∷ others) (first ∷ replaced number new others))
      by true is rest = (rw (sym (alike number first.0 is)) one, all.1)
      by false is rest = (all.0, rest)

  pub stands_without : (number : ℕ) (entries : List (ℕ × Count)) → EachStands loose entries
      → EachStands loose (without number entries)
  stands_without number [] all = tt
  stands_without number (first ∷ others) all = by (is_number number first.0) (stands_without number others all.1)
    where
      by : (here : Bool) → EachStands loose (without number others)
          → EachStands loose (cond here others (first ∷ without number others))
      by true rest = all.1
      by false rest = (all.0, rest)

  pub stands_more : (number : ℕ) (new : Count) (entries : List (ℕ × Count)) → Stands loose number new
      → EachStands loose entries → EachStands loose (entries ++ (number, new) ∷ [])
  stands_more number new [] one all = (one, tt)
  stands_more number new (first ∷ others) one all = (all.0, stands_more number new others one all.1)

  pub stands_at : (number : ℕ) (old : Count) (entries : List (ℕ × Count)) → numbered number entries ≡ Some old
      → EachStands loose entries → Stands loose number old
  stands_at number old [] is all = absurd (cc)
  stands_at number old (first ∷ others) is all =
      by (is_number number first.0) refl is (λ deeper. stands_at number old others deeper all.1)
    where
      by : (here : Bool) → is_number number first.0 ≡ here
          → cond here (Some first.1) (numbered number others) ≡ Some old
          → (numbered number others ≡ Some old → Stands loose number old) → Stands loose number old
      by true same found rest =
          let one : first.1 ≡ old = cc in
          rw (sym one, alike number first.0 same) all.0
      by false same found rest = rest found

-- where more stands in the heap
pub stands_in : (loose more : List ℕ) → ((x : ℕ) → Contains loose x → Contains more x) → (entries : List (ℕ × Count))
    → EachStands loose entries → EachStands more entries
stands_in loose more grows [] all = tt
stands_in loose more grows (first ∷ others) all = (
  record { fits = all.0.fits; waits = all.0.waits; there = λ waits. grows _ (all.0.there waits) },
  stands_in loose more grows others all.1,
)

-- ---- how many don't stand there

pub apart_changed : (number : ℕ) (old new : Count) (entries : List (ℕ × Count)) → numbered number entries ≡ Some old
    → apart (replaced number new entries) + if_apart old ≡ apart entries + if_apart new
apart_changed number old new [] is = absurd (cc)
apart_changed number old new (first ∷ others) is =
    by (is_number number first.0) is (λ deeper. apart_changed number old new others deeper)
  where
    by : (here : Bool) → cond here (Some first.1) (numbered number others) ≡ Some old
        → (numbered number others ≡ Some old
        → apart (replaced number new others) + if_apart old ≡ apart others + if_apart new)
        → apart (cond here ((first.0, new) ∷ others) (first ∷ replaced number new others)) + if_apart old
        ≡ apart (first ∷ others) + if_apart new
    by true found rest =
        let one : first.1 ≡ old = cc in
        let same = ap if_apart one in omega (arith, same)
    by false found rest = omega (arith, rest found)

pub apart_without : (number : ℕ) (entries : List (ℕ × Count)) → apart (without number entries) ≤ apart entries
apart_without number [] = omega arith
apart_without number (first ∷ others) = by (is_number number first.0) (apart_without number others)
  where
    by : (here : Bool) → apart (without number others) ≤ apart others
        → apart (cond here others (first ∷ without number others)) ≤ apart (first ∷ others)
    by true rest = omega arith
    by false rest = omega (arith, rest)

pub apart_more : (number : ℕ) (new : Count) (entries : List (ℕ × Count))
    → apart (entries ++ (number, new) ∷ []) ≡ apart entries + if_apart new
apart_more number new [] = omega arith
apart_more number new (first ∷ others) = omega (arith, apart_more number new others)

pub at_most_one : (waits : Bool) → cond waits 0 1 ≤ 1
at_most_one true = omega arith
at_most_one false = omega arith

pub apart_few : (entries : List (ℕ × Count)) → apart entries ≤ length entries
apart_few [] = omega arith
apart_few (first ∷ others) = omega (arith, at_most_one first.1.waits, apart_few others)

-- ---- one count is changed

pub parts_stay : {S T : Type 0} (part : S → T) (number : ℕ) (change : S → S) (things : List (ℕ × S)) (found : Option S)
    → numbered number things ≡ found → ((thing : S) → found ≡ Some thing → part (change thing) ≡ part thing)
    → parts_of part (option_map_or (λ thing. replaced number (change thing) things) found things)
    ≡ parts_of part things
parts_stay part number change things None is same = refl
parts_stay part number change things (Some thing) is same =
    parts_same part number thing (change thing) things is (same thing refl)

pub apart_least : (number : ℕ) (change : Count → Count) (entries : List (ℕ × Count)) (found : Option Count)
    → numbered number entries ≡ found
    → apart (option_map_or (λ count. replaced number (change count) entries) found entries) ≤ apart entries + 1
apart_least number change entries None is = omega arith
apart_least number change entries (Some count) is =
    omega (
      arith,
      apart_changed number count (change count) entries is,
      at_most_one (change count).waits,
    )

-- ---- a count that stays where it stands

pub stands_still : (loose : List ℕ) (number : ℕ) (change : Count → Count) (entries : List (ℕ × Count))
    (found : Option Count) → numbered number entries ≡ found
    → ((count : Count) → found ≡ Some count → Stands loose number count → Stands loose number (change count))
    → EachStands loose entries
    → EachStands loose (option_map_or (λ count. replaced number (change count) entries) found entries)
stands_still loose number change entries None is keeps all = all
stands_still loose number change entries (Some count) is keeps all =
    stands_changed loose number (change count) entries (keeps count refl (stands_at loose number count entries is all)) all

pub apart_still : (number : ℕ) (change : Count → Count) (entries : List (ℕ × Count)) (found : Option Count)
    → numbered number entries ≡ found → ((count : Count) → found ≡ Some count → (change count).waits ≡ count.waits)
    → apart (option_map_or (λ count. replaced number (change count) entries) found entries) ≡ apart entries
apart_still number change entries None is same = refl
apart_still number change entries (Some count) is same =
    omega (
      arith,
      apart_changed number count (change count) entries is,
      ap {B = ℕ} (λ waits. cond waits 0 1) (same count refl),
    )

unplaced : {T : Type 0} (number : ℕ) (thing : T) (things : List (ℕ × T)) → numbered number things ≡ None
    → replaced number thing things ≡ things
unplaced number thing [] none = refl
unplaced number thing (first ∷ others) none =
    by (is_number number first.0) none (λ deeper. unplaced number thing others deeper)
  where
    by : (here : Bool) → cond here (Some first.1) (numbered number others) ≡ None
        → (numbered number others ≡ None → replaced number thing others ≡ others)
        → cond here ((first.0, thing) ∷ others) (first ∷ replaced number thing others) ≡ first ∷ others
    by true none rest = absurd (cc)
    by false none rest = ap (λ more. first ∷ more) (rest none)

-- whether or not there is one
pub part_placed : {S T : Type 0} (part : S → T) (number : ℕ) (end : T) (change : S → S) (things : List (ℕ × S))
    (found : Option S) → numbered number things ≡ found → ((thing : S) → part (change thing) ≡ end)
    → parts_of part (option_map_or (λ thing. replaced number (change thing) things) found things)
    ≡ replaced number end (parts_of part things)
part_placed part number end change things None is told =
    sym (unplaced number end (parts_of part things) (parts_numbered part number things ∙ ap (option_map part) is))
part_placed part number end change things (Some thing) is told =
    parts_replaced part number (change thing) things
    ∙ ap (λ one. replaced number one (parts_of part things)) (told thing)
