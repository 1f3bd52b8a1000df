-- Which data fit, and which answers follow.
use Rattle.std.proofs.Common.{◌≡◌, ℕ, ◌≤◌, ◌<◌, length, true, false, refl, arith, Result, Ok, Err}
use Rattle.std.proofs.lemmas.Bool.Decides.{nat_tests}
use Rattle.vb_value.specs.declared.fault.VbError.{VbError}
use Rattle.vb_value.specs.declared.limit.LimitKind.TheVariants.{Data}
use Rattle.vb_value.specs.declared.value.Value.{Value}
use Rattle.vb_heap.specs.declared.fault.HeapStop.{HeapStop}
use Rattle.vb_heap.specs.declared.fault.HeapStop.TheVariants.{Limit}
use Rattle.vb_heap.specs.Answers as answers
use Rattle.vb_heap.specs.Limits.{fits, if_fits, if_fits_at, is_too_deep}
use Rattle.vb_heap.specs.PageWeight.{weight_of_page}
use Rattle.vb_heap.specs.Saturated.{weight_told}
use Rattle.vb_heap.specs.Store.{Store}

-- the limits that data keep
pub record IsFit (store : Store) : Type 0 where
  pub light : weight_of_page store ≤ 16777216
  pub objects : store.objects_made ≤ 4294967295
  pub cells : store.cells_made ≤ 18446744073709551615
  pub few : length store.held ≤ 1048576

-- data that keep them fit
pub they_fit : (store : Store) → IsFit store → fits store ≡ true
they_fit store fit = grind (arith, nat_tests)

-- data that weigh more do not
pub too_heavy : (store : Store) → 16777216 < weight_of_page store → fits store ≡ false
too_heavy store heavy = grind (arith, nat_tests)

-- the answer for data that fit
pub answer_fits : {T : Type 0} (store : Store) (answer : T) → fits store ≡ true → if_fits store answer ≡ Ok answer
answer_fits store answer fit = rw fit refl

-- the answer for data that do not
pub answer_heavy : {T : Type 0} (store : Store) (answer : T) → fits store ≡ false
    → if_fits store answer ≡ Err (Limit Data)
answer_heavy store answer heavy = rw heavy refl

-- the answer for a value that does not lie too deep
pub answer_flat : {T : Type 0} (depth : ℕ) (value : Value) (store : Store) (answer : T)
    → is_too_deep depth value ≡ false → if_fits_at depth value store answer ≡ if_fits store answer
answer_flat depth value store answer flat = rw flat refl

-- an answer that has a value goes on
pub goes_on : (answer : Result Value VbError) (weight : ℕ) (next : Result (Unit {0}) HeapStop)
    → Ok weight ≡ weight_told answer → answers.and_then answer (λ _. next) ≡ next
goes_on (Ok value) weight next told = refl
goes_on (Err error) weight next told = absurd (cc)
