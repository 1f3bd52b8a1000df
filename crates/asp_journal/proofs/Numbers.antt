-- The numbers from 1 on, and what is found among one more of them.
use Rattle.std.proofs.Common.{◌≡◌, ℕ, suc, zero, ◌+◌, ◌≤◌, Bool, if◌then◌else◌, [], ◌∷◌, ◌++◌, refl}
use Rattle.std.proofs.Common.{ap, sym, ◌∙◌, arith, add-one, filter}
use Rattle.std.proofs.lemmas.List.Elements.{filter-append}
use Rattle.asp_job.specs.Runs.{numbers}

pub numbers_more : (i : ℕ) → numbers (i + 1) ≡ numbers i ++ (i + 1) ∷ []
numbers_more i = rw add-one refl

pub filter_more : (p : ℕ → Bool) (i : ℕ) → filter p (numbers (i + 1)) ≡ filter p (numbers i) ++
    (if p (i + 1) then (i + 1) ∷ [] else [])
filter_more p i = ap (filter p) (numbers_more i) ∙ filter-append p (numbers i) ((i + 1) ∷ [])

-- two tests that agree up to n
pub filter_same : (p q : ℕ → Bool) (n : ℕ) → ((r : ℕ) → r ≤ n → p r ≡ q r) → filter p (numbers n) ≡ filter q (numbers n)
filter_same p q zero h = refl
filter_same p q (suc n) h =
    let front : filter p (numbers n) ≡ filter q (numbers n) = filter_same p q n (λ r l. h r (omega arith)) in
    let last : p (suc n) ≡ q (suc n) = h (suc n) (omega arith) in
    filter-append p (numbers n) (suc n ∷ []) ∙ cc (front, last) ∙ sym (filter-append q (numbers n) (suc n ∷ []))
