-- A past that grows by one entry.
use Rattle.std.proofs.Common.{◌≡◌, ℕ, ◌+◌, ◌<◌, List, [], ◌∷◌, ◌++◌}
use Rattle.std.proofs.Common.{length, get_or, take, reverse, refl, ap, ◌∙◌, Option, Some, None, unwrap_or, sum_by}
use Rattle.std.proofs.lemmas.List.{reverse-append, take_more, length-reverse}
use Rattle.std.proofs.lemmas.List.Sums.{sum_by_push}
use Rattle.std.specs.Option.{option_map}
use Rattle.asp_job.specs.declared.job.Job.{Job}
use Rattle.asp_job.specs.Running.{is_page}
use Rattle.asp_job.specs.Turns.{is_last_work}

pub past_push : {A : Type 0} → (xs : List A) (x : A) → reverse (xs ++ x ∷ []) ≡ x ∷ reverse xs
past_push xs x = reverse-append xs (x ∷ [])

pub length_past : {A : Type 0} → (xs : List A) → length (reverse xs) ≡ length xs
length_past xs = length-reverse xs

-- what is told of the job that is found
pub page_more : (found : Option Job) (before : Job) → is_page (unwrap_or found before).work
    ≡ unwrap_or (option_map (λ job. is_page job.work) found) (is_page before.work)
page_more None before = refl
page_more (Some job) before = refl

pub last_more : (found : Option Job) (before : Job) → is_last_work (unwrap_or found before).work
    ≡ unwrap_or (option_map (λ job. is_last_work job.work) found) (is_last_work before.work)
last_more None before = refl
last_more (Some job) before = refl

-- the sum of one item more
pub sum_more : {A : Type 0} → (f : A → ℕ) (xs : List A) (i : ℕ) (d : A) → i < length xs → sum_by f (take (i + 1) xs)
    ≡ sum_by f (take i xs) + f (get_or xs i d)
sum_more f xs i d h = ap (sum_by f) (take_more xs i d h) ∙ sum_by_push f (take i xs) (get_or xs i d)
