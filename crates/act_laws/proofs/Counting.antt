-- How many objects have ended.
use Rattle.std.proofs.Common.{ℕ, zero, suc, ◌+◌, ◌≡◌, ◌<◌, ◌≤◌, Bool, true, false, if◌then◌else◌}
use Rattle.std.proofs.Common.{List, [], ◌∷◌, ◌++◌, length, None, is_none, refl, sym, ap, ◌∙◌, inl, inr, arith}
use Rattle.std.proofs.Common.{length-append}
use Rattle.vb_heap.specs.Below.{EachBelow}
use Rattle.vb_heap.specs.Store.{is_number, numbered}
use Rattle.act_laws.specs.Objects.{Account, AddsUp, Differ, absent_below, ended_objects, numbers_below}
use Rattle.act_laws.proofs.Numbers.{compared, differ, itself}

-- one number more, if no object has it
more_absent : (absent : Bool) (numbers : List ℕ) (n : ℕ)
    → length (if absent then numbers ++ n ∷ [] else numbers) ≡ length numbers + (if absent then 1 else 0)
more_absent true numbers n = length-append numbers (n ∷ [])
more_absent false numbers n = omega arith

one_more : (n : ℕ) (objects : List (ℕ × Bool)) → length (absent_below (suc n) objects)
    ≡ length (absent_below n objects) + (if is_none (numbered n objects) then 1 else 0)
one_more n objects = more_absent (is_none (numbered n objects)) (absent_below n objects) n

-- the same, where it is known whether one has it
counted : (n : ℕ) (objects : List (ℕ × Bool)) (absent : Bool) → is_none (numbered n objects) ≡ absent
    → length (absent_below (suc n) objects) ≡ length (absent_below n objects) + (if absent then 1 else 0)
counted n objects absent is =
    one_more n objects ∙ ap (λ b. length (absent_below n objects) + (if b then 1 else 0)) is

-- an object that comes later changes nothing
absent_before : (n : ℕ) (first : ℕ × Bool) (others : List (ℕ × Bool)) → n ≤ first.0
    → absent_below n (first ∷ others) ≡ absent_below n others
absent_before zero first others before = refl
absent_before (suc n) first others before =
    let apart : is_number n first.0 ≡ false = differ n first.0 (λ same. absurd (omega (arith, same, before))) in
    let rest = absent_before n first others (omega (arith, before)) in
    rw (apart, rest) refl

-- an object that is there is one absent number less
absent_less : (n : ℕ) (first : ℕ × Bool) (others : List (ℕ × Bool)) → first.0 < n → numbered first.0 others ≡ None
    → length (absent_below n (first ∷ others)) + 1 ≡ length (absent_below n others)
absent_less zero first others below none = absurd (omega (arith, below))
absent_less (suc n) first others below none = elim (compared n first.0) [
  | inl same ↦
      let here : is_number n first.0 ≡ true = ap (is_number n) (sym same) ∙ itself n in
      let there : is_none (numbered n (first ∷ others)) ≡ false = rw here refl in
      let absent : is_none (numbered n others) ≡ true = ap (λ k. is_none (numbered k others)) same ∙ ap is_none none in
      let before = ap length (absent_before n first others (omega (arith, same))) in
      let with_it = counted n (first ∷ others) false there in
      let without_it = counted n others true absent in
      omega (arith, before, with_it, without_it)
  | inr away ↦
      let rest = absent_less n first others (omega (arith, below, away.0)) none in
      let found : is_none (numbered n (first ∷ others)) ≡ is_none (numbered n others) = rw (away.1) refl in
      let with_it = counted n (first ∷ others) (is_none (numbered n others)) found in
      let without_it = one_more n others in
      omega (arith, rest, with_it, without_it)
]

all_absent : (n : ℕ) → absent_below n [] ≡ numbers_below n
all_absent zero = refl
all_absent (suc n) = ap (λ numbers. numbers ++ n ∷ []) (all_absent n)

numbers_count : (n : ℕ) → length (numbers_below n) ≡ n
numbers_count zero = refl
numbers_count (suc n) =
    let more = length-append (numbers_below n) (n ∷ []) in
    let rest = numbers_count n in
    omega (arith, more, rest)

absent_count : (made : ℕ) (objects : List (ℕ × Bool)) → Differ objects → EachBelow made objects
    → length (absent_below made objects) + length objects ≡ made
absent_count made [] apart below =
    let all = ap length (all_absent made) ∙ numbers_count made in omega (arith, all)
absent_count made (first ∷ others) apart below =
    let rest = absent_count made others apart.1 below.1 in
    let less = absent_less made first others below.0 apart.0 in
    omega (arith, rest, less)

-- as many as an account that adds up says
pub ended_count : (account : Account) → AddsUp account → length (ended_objects account) ≡ account.finished
ended_count account right =
    let all = absent_count account.made account.objects right.differ right.below in
    omega (arith, all, right.count)

-- where none is there, all have ended
pub ended_all : (account : Account) → account.objects ≡ [] → ended_objects account ≡ numbers_below account.made
ended_all account none = ap (absent_below account.made) none ∙ all_absent account.made
