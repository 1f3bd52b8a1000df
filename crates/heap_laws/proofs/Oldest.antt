-- The oldest of some things by their numbers that passes a test.
use Rattle.std.proofs.Common.{ℕ, ◌≡◌, ◌≢◌, ◌<◌, Bool, true, false, not, ◌&&◌, ◌==◌, if◌then◌else◌, List, [], ◌∷◌}
use Rattle.std.proofs.Common.{Some, None, refl, sym, ap, ◌∙◌, arith}
use Rattle.std.proofs.lemmas.Bool.Decides.{nat_tests}
use Rattle.std.specs.Cmp.{nat_cmp_is}
use Rattle.std.specs.Ordering.{is_eq, nat_cmp}
use Rattle.std.specs.declared.cmp.Ordering.TheVariants.{Equal}
use Rattle.vb_heap.specs.declared.object.Object.{Object}
use Rattle.vb_heap.specs.References.{references_to}
use Rattle.vb_heap.specs.Releases.{is_loose, oldest}
use Rattle.vb_heap.specs.Store.{is_number, numbered}
use Rattle.heap_laws.specs.Objects.{EachAbove, EndedIsLoose, InOrder, LastIsOldest, NoneIsLive, NoneIsLoose}
use Rattle.heap_laws.specs.Objects.{OlderAreHeld}
use Rattle.heap_laws.proofs.Cells.{differ, one}

itself : (number : ℕ) → is_number number number ≡ true
itself number = let is : nat_cmp number number ≡ Equal = sym (nat_cmp_is number number Equal refl) in ap is_eq is

-- what is found at the first, or behind it
at_first : (first : ℕ × Object) (others : List (ℕ × Object)) (number : ℕ) (found : Object) (here : Bool)
    → is_number number first.0 ≡ here → (if here then Some first.1 else numbered number others) ≡ Some found
    → (P : Type 0) → (number ≡ first.0 → found ≡ first.1 → P) → (numbered number others ≡ Some found → P) → P
at_first first others number found true same is P there behind = there (one number first.0 same) (cc)
at_first first others number found false same is P there behind = behind is

first_or_behind : (first : ℕ × Object) (others : List (ℕ × Object)) (number : ℕ) (found : Object)
    → numbered number (first ∷ others) ≡ Some found
    → (P : Type 0) → (number ≡ first.0 → found ≡ first.1 → P) → (numbered number others ≡ Some found → P) → P
first_or_behind first others number found is =
    at_first first others number found (is_number number first.0) refl is

-- what is found among things above a number has a number above it
above : (things : List (ℕ × Object)) (least number : ℕ) (found : Object) → EachAbove least things
    → numbered number things ≡ Some found → least < number
above [] least number found each is = absurd (cc)
above (first ∷ others) least number found each is = first_or_behind first others number found is (least < number)
    (λ same thing. rw same each.0) (λ behind. above others least number found each.1 behind)

module _ (test : ℕ → Object → Bool) where
  -- where none passes, what is found does not
  none_passes : (things : List (ℕ × Object)) (number : ℕ) (found : Object) → oldest test things ≡ None
      → numbered number things ≡ Some found → test number found ≡ false
  none_passes [] number found none is = absurd (cc)
  none_passes (first ∷ others) number found none is =
      by (test first.0 first.1) refl none (none_passes others number found)
    where
      by : (passes : Bool) → test first.0 first.1 ≡ passes
          → (if passes then Some first.0 else oldest test others) ≡ None
          → (oldest test others ≡ None → numbered number others ≡ Some found → test number found ≡ false)
          → test number found ≡ false
      by true tested nothing rest = absurd (cc)
      by false tested nothing rest = first_or_behind first others number found is (test number found ≡ false)
          (λ same thing. ap (λ n. test n found) same ∙ ap (test first.0) thing ∙ tested)
          (λ behind. rest nothing behind)

  -- the one that is named is there, and passes
  named_passes : (things : List (ℕ × Object)) (number : ℕ) → InOrder things → oldest test things ≡ Some number
      → (found : Object) × (numbered number things ≡ Some found) × (test number found ≡ true)
  named_passes [] number order is = absurd (cc)
  named_passes (first ∷ others) number order is =
      by (test first.0 first.1) refl is (named_passes others number order.1)
    where
      by : (passes : Bool) → test first.0 first.1 ≡ passes
          → (if passes then Some first.0 else oldest test others) ≡ Some number
          → (oldest test others ≡ Some number
          → (found : Object) × (numbered number others ≡ Some found) × (test number found ≡ true))
          → (found : Object) × (numbered number (first ∷ others) ≡ Some found) × (test number found ≡ true)
      by true tested named rest =
          let same : number ≡ first.0 = cc in
          (first.1, rw (same, itself first.0) refl, rw same tested)
      by false tested named rest =
          let behind = rest named in
          let later : first.0 < number = above others first.0 number behind.0 order.0 behind.1 in
          let apart : is_number number first.0 ≡ false = differ number first.0 (λ same. omega (arith, later, same)) in
          (behind.0, rw apart behind.1, behind.2)

  -- one of a smaller number does not pass
  older_fails : (things : List (ℕ × Object)) (number older : ℕ) (found : Object) → InOrder things
      → oldest test things ≡ Some number → older < number → numbered older things ≡ Some found
      → test older found ≡ false
  older_fails [] number older found order is less there = absurd (cc)
  older_fails (first ∷ others) number older found order is less there =
      by (test first.0 first.1) refl is
      (λ named behind. older_fails others number older found order.1 named less behind)
    where
      by : (passes : Bool) → test first.0 first.1 ≡ passes
          → (if passes then Some first.0 else oldest test others) ≡ Some number
          → (oldest test others ≡ Some number → numbered older others ≡ Some found → test older found ≡ false)
          → test older found ≡ false
      by true tested named rest =
          let same : number ≡ first.0 = cc in
          first_or_behind first others older found there (test older found ≡ false)
          (λ it thing. absurd (omega (arith, less, same, it)))
          (λ behind. absurd (omega (arith, less, same, above others first.0 older found order.0 behind)))
      by false tested named rest = first_or_behind first others older found there (test older found ≡ false)
          (λ same thing. ap (λ n. test n found) same ∙ ap (test first.0) thing ∙ tested)
          (λ behind. rest named behind)

-- ---- an object without references

loose_parts : (ending : Bool) (count : ℕ) → not ending && (count == 0) ≡ true → (ending ≡ false) × (count ≡ 0)
loose_parts true count is = absurd (cc)
loose_parts false count is = (refl, grind (arith, nat_tests))

held_parts : (ending : Bool) (count : ℕ) → not ending && (count == 0) ≡ false → ending ≡ false → count ≢ 0
held_parts true count is live = absurd (cc)
held_parts false count is live = λ none. absurd (cc (ap (λ n. n == 0) none))

pub ended_is_loose : EndedIsLoose
ended_is_loose store object order is =
    let named = named_passes (is_loose store) store.objects object order is in
    let parts = loose_parts named.0.ending (references_to object store) named.2 in
    (named.0, named.1, parts.0, parts.1)

pub older_are_held : OlderAreHeld
older_are_held store object older found order is less there live =
    held_parts found.ending (references_to older store)
    (older_fails (is_loose store) store.objects object older found order is less there) live

pub none_is_loose : NoneIsLoose
none_is_loose store object found is there live = held_parts found.ending (references_to object store)
    (none_passes (is_loose store) store.objects object found is there) live

not_live : (ending : Bool) → not ending ≡ false → ending ≢ false
not_live true is = λ live. absurd (cc)
not_live false is = absurd (cc)

pub last_is_oldest : LastIsOldest
last_is_oldest store object older found order is there less = not_live found.ending
    (older_fails (λ number thing. not thing.ending) store.objects object older found order is less there)

pub none_is_live : NoneIsLive
none_is_live store object found is there = not_live found.ending
    (none_passes (λ number thing. not thing.ending) store.objects object found is there)
