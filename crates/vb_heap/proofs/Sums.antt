-- References, counted in parts: those that pass a test.
use Rattle.std.proofs.Common.{ℕ, ◌+◌, ◌≡◌, List, [], ◌∷◌, ◌++◌, sum_by, sym, ap, ◌∙◌, arith, cond, refl}
use Rattle.std.proofs.Common.{Bool, true, false, if◌then◌else◌, Some}
use Rattle.std.specs.Prelude.{count_by}
use Rattle.std.proofs.lemmas.List.Sums.{sum_by-append, sum_by-cons}
use Rattle.std.specs.List.{flat_map}
use Rattle.std.specs.Map.{values_of}
use Rattle.vb_heap.specs.References.{all_references, object_references, references}
use Rattle.vb_heap.specs.Store.{Store, is_number, numbered, replaced, without}

module _ (test : ℕ → Bool) where
  pub counted_both : (numbers others : List ℕ)
      → count_by test (numbers ++ others) ≡ count_by test numbers + count_by test others
  counted_both numbers others = sum_by-append (λ other. cond (test other) 1 0) numbers others

  pub counted : {T : Type 0} (part : T → List ℕ) (things : List T)
      → count_by test (flat_map part things) ≡ sum_by (λ thing. count_by test (part thing)) things
  counted part [] = refl
  counted part (thing ∷ things) =
      let first = counted_both (part thing) (flat_map part things) in
      let rest = counted part things in
      let all = sum_by-cons (λ thing. count_by test (part thing)) thing things in
      first ∙ (ap (λ n. count_by test (part thing) + n) rest ∙ sym all)

  -- all references, in parts
  pub add_up : (store : Store) → count_by test (all_references store)
      ≡ sum_by (λ value. count_by test (references value)) (values_of store.cells)
      + sum_by (λ thing. count_by test (object_references thing)) (values_of store.objects)
      + count_by test store.held
  add_up store =
      let cells = counted references (values_of store.cells) in
      let objects = counted object_references (values_of store.objects) in
      let both = counted_both (flat_map references (values_of store.cells))
      (flat_map object_references (values_of store.objects)) in
      let all : count_by test (all_references store) ≡ count_by test
      (flat_map references (values_of store.cells) ++ flat_map object_references (values_of store.objects))
      + count_by test store.held = counted_both
      (flat_map references (values_of store.cells) ++ flat_map object_references (values_of store.objects))
      store.held in
      omega arith

-- ---- sums over things by their numbers

module _ {T : Type 0} (weight : T → ℕ) where
  abbrev pub total : List (ℕ × T) → ℕ
  total things = sum_by weight (values_of things)

  -- one thing less
  pub without_total : (number : ℕ) (thing : T) (things : List (ℕ × T)) → numbered number things ≡ Some thing
      → total (without number things) + weight thing ≡ total things
  without_total number thing [] is = absurd (cc)
  without_total number thing (first ∷ others) is =
      by (is_number number first.0) refl is (without_total number thing others)
    where
      by : (here : Bool) → is_number number first.0 ≡ here
          → (if here then Some first.1 else numbered number others) ≡ Some thing
          → (numbered number others ≡ Some thing
          → total (without number others) + weight thing ≡ total others)
          → total (without number (first ∷ others)) + weight thing ≡ total (first ∷ others)
      by true same found deeper =
          let one : first.1 ≡ thing = cc in
          let weighs : weight first.1 ≡ weight thing = ap weight one in
          let all = sum_by-cons weight first.1 (values_of others) in
          rw same (omega arith)
      by false other found deeper =
          let rest = deeper found in
          let all = sum_by-cons weight first.1 (values_of others) in
          let less = sum_by-cons weight first.1 (values_of (without number others)) in
          rw other (omega arith)

  -- another thing in the place of one
  pub replaced_total : (number : ℕ) (old new : T) (things : List (ℕ × T)) → numbered number things ≡ Some old
      → total (replaced number new things) + weight old ≡ total things + weight new
  replaced_total number old new [] is = absurd (cc)
  replaced_total number old new (first ∷ others) is =
      by (is_number number first.0) refl is (replaced_total number old new others)
    where
      by : (here : Bool) → is_number number first.0 ≡ here
          → (if here then Some first.1 else numbered number others) ≡ Some old
          → (numbered number others ≡ Some old
          → total (replaced number new others) + weight old ≡ total others + weight new)
          → total (replaced number new (first ∷ others)) + weight old ≡ total (first ∷ others) + weight new
      by true same found deeper =
          let one : first.1 ≡ old = cc in
          let weighs : weight first.1 ≡ weight old = ap weight one in
          let all = sum_by-cons weight first.1 (values_of others) in
          let after = sum_by-cons weight new (values_of others) in
          rw same (omega arith)
      by false other found deeper =
          let rest = deeper found in
          let all = sum_by-cons weight first.1 (values_of others) in
          let after = sum_by-cons weight first.1 (values_of (replaced number new others)) in
          rw other (omega arith)
