-- A table of runs after an entry.
use Rattle.std.proofs.Common.{◌≡◌, ℕ, zero, suc, ◌+◌, ◌-◌, ◌<◌, ◌≤◌, ◌==◌, Bool, true, false, if◌then◌else◌, List}
use Rattle.std.proofs.Common.{[], ◌∷◌, ◌++◌, length, unwrap_or, refl, ap, sym, ◌∙◌, arith, inl, inr}
use Rattle.std.proofs.Common.{get_or, slice_set, reverse, min, ◌^◌}
use Rattle.std.proofs.Math.Path.{fun_ext}
use Rattle.std.proofs.lemmas.Bool.{cases_Bool, eqb-true}
use Rattle.std.proofs.lemmas.Grind.{get_or-set_at}
use Rattle.std.proofs.lemmas.List.{get_or-set_other}
use Rattle.std.specs.Option.{option_map}
use Rattle.asp_job.specs.History.{with_lane, counts, entries_in, weight_in, what_weight}
use Rattle.asp_job.specs.Keys.{made as made_in}
use Rattle.asp_job.specs.Running.{is_page}
use Rattle.asp_job.specs.Runs.{drawn, draws, job_in, job_of}
use Rattle.asp_job.specs.Turns.{is_last_work}
use Rattle.asp_job.specs.declared.entry.Entry.{Entry}
use Rattle.asp_job.specs.declared.entry.What.{What}
use Rattle.asp_job.specs.declared.entry.What.TheVariants.{Admit, App, Begin, End, Halt, Queue, Refuse, Stop, Take, Tick}
use Rattle.asp_journal.specs.Rows.{IsNumberedFor, changed, marked, no_row, row_after, row_at, row_of, rows_after}
use Rattle.asp_journal.specs.Rows.{with_row}
use Rattle.asp_journal.specs.Telling.{admitted}
use Rattle.asp_journal.specs.Tables.{tally_after, tally_of}
use Rattle.asp_journal.specs.declared.rows.Row.{Row}
use Rattle.asp_journal.specs.declared.tally.Tally.{Tally}
use Rattle.asp_journal.proofs.Bounds.{drawn_small, made_small}
use Rattle.asp_journal.proofs.Others.{own_number}
use Rattle.asp_journal.proofs.Past.{page_more, last_more, length_past}

-- ---- a list with one item more

pub get_last : {A : Type 0} → (xs : List A) (x d : A) (i : ℕ) → i ≡ length xs → get_or (xs ++ x ∷ []) i d ≡ x
get_last [] x d zero e = refl
get_last [] x d (suc i) e = absurd (omega arith)
get_last (y ∷ xs) x d zero e = absurd (omega arith)
get_last (y ∷ xs) x d (suc i) e = get_last xs x d i (omega arith)

pub get_other : {A : Type 0} → (xs : List A) (x d : A) (i : ℕ) → (i ≡ length xs → ⊥)
    → get_or (xs ++ x ∷ []) i d ≡ get_or xs i d
get_other [] x d zero n = absurd (n refl)
get_other [] x d (suc i) n = refl
get_other (y ∷ xs) x d zero n = refl
get_other (y ∷ xs) x d (suc i) n = get_other xs x d i (λ e. n (omega arith))

above : (r : ℕ) → (r == 0) ≡ false → 0 < r
above r e = grind arith

differs : (run r : ℕ) → (run == r) ≡ false → run ≡ r → ⊥
differs run r e same = grind arith

-- ---- a row is put into its place

pub row_push : (rows : List Row) (run : ℕ) (row : Row) → run ≡ length rows + 1
    → row_at (rows ++ row ∷ []) ≡ with_row run row (row_at rows)
row_push rows run row e = fun_ext (λ r. elim (cases_Bool (r == 0)) [
  | inl nought ↦ rw nought refl
  | inr some ↦ elim (cases_Bool (run == r)) [
    | inl own ↦ (let is : run ≡ r = eqb-true run r own in
        let found = get_last rows row no_row (r - 1) (omega arith) in rw (some, own) found)
    | inr other ↦ (let low = above r some in let apart = differs run r other in
        let found = get_other rows row no_row (r - 1) (λ same. apart (omega arith)) in rw (some, other) found)
  ]
])

pub row_set : (rows : List Row) (run : ℕ) (row : Row) → 0 < run → run ≤ length rows
    → row_at (slice_set rows (run - 1) row) ≡ with_row run row (row_at rows)
row_set rows run row low high = fun_ext (λ r. elim (cases_Bool (r == 0)) [
  | inl nought ↦ rw nought refl
  | inr some ↦ elim (cases_Bool (run == r)) [
    | inl own ↦ (let is : run ≡ r = eqb-true run r own in
        let found : get_or (slice_set rows (run - 1) row) (r - 1) no_row ≡ row =
        get_or-set_at rows (run - 1) (r - 1) row no_row (omega arith) (omega arith) in rw (some, own) found)
    | inr other ↦ (let positive = above r some in let apart = differs run r other in
        let found : get_or (slice_set rows (run - 1) row) (r - 1) no_row ≡ get_or rows (r - 1) no_row =
        get_or-set_other rows (run - 1) (r - 1) row no_row (λ same. apart (omega arith)) in rw (some, other) found)
  ]
])

zero_apart : (r : ℕ) → (r == 0) ≡ false → (0 == r) ≡ false
zero_apart r e = grind arith

pub row_none : (rows : List Row) (row : Row) → row_at rows ≡ with_row 0 row (row_at rows)
row_none rows row = fun_ext (λ r. elim (cases_Bool (r == 0)) [
  | inl none ↦ rw none refl
  | inr some ↦ (let apart = zero_apart r some in rw (some, apart) refl)
])

-- ---- an entry

pub numbered_most : (n : ℕ) (what : What) → IsNumberedFor n what → marked what ≤ n + 1
numbered_most n (Queue run work key) h = omega arith
numbered_most n (Admit run key fresh job) h = omega arith
numbered_most n (Refuse run job) h = omega arith
numbered_most n (Begin run serial) h = let high = h.1 in omega arith
numbered_most n (End run kind status size n1 n2) h = let high = h.1 in omega arith
numbered_most n (Take run) h = let high = h.1 in omega arith
numbered_most n (Tick moment) h = omega arith
numbered_most n (App run call reply) h = omega arith
numbered_most n Stop h = omega arith
numbered_most n Halt h = omega arith

not_next : (run n : ℕ) → run ≤ n → (run == (n + 1)) ≡ false
not_next run n l = grind arith

pub length_marked : (n : ℕ) (what : What) → IsNumberedFor n what
    → (if marked what == (n + 1) then marked what else n) ≡ (if draws what then n + 1 else n)
length_marked n (Queue run work key) h = rw h (rw (own_number (n + 1)) refl)
length_marked n (Admit run key fresh job) h = rw h (rw (own_number (n + 1)) refl)
length_marked n (Refuse run job) h = rw h (rw (own_number (n + 1)) refl)
length_marked n (Begin run serial) h = let other = not_next run n h.1 in rw other refl
length_marked n (End run kind status size n1 n2) h = let other = not_next run n h.1 in rw other refl
length_marked n (Take run) h = let other = not_next run n h.1 in rw other refl
length_marked n (Tick moment) h = let other = not_next 0 n (omega arith) in rw other refl
length_marked n (App run call reply) h = let other = not_next 0 n (omega arith) in rw other refl
length_marked n Stop h = let other = not_next 0 n (omega arith) in rw other refl
length_marked n Halt h = let other = not_next 0 n (omega arith) in rw other refl

row_other : (place lane : ℕ) (what : What) (r : ℕ) (row : Row) → (marked what == r) ≡ false
    → row_after place lane what r row ≡ row
row_other place lane (Queue run work key) r row e = rw e refl
row_other place lane (Admit run key fresh job) r row e = rw e refl
row_other place lane (Refuse run job) r row e = rw e refl
row_other place lane (Begin run serial) r row e = rw e refl
row_other place lane (End run kind status size n1 n2) r row e = rw e refl
row_other place lane (Take run) r row e = rw e refl
row_other place lane (Tick moment) r row e = refl
row_other place lane (App run call reply) r row e = refl
row_other place lane Stop r row e = refl
row_other place lane Halt r row e = refl

row_own : (place lane : ℕ) (what : What) (row : Row)
    → changed place lane what row ≡ row_after place lane what (marked what) row
row_own place lane (Queue run work key) row = let own = own_number run in rw own refl
row_own place lane (Admit run key fresh job) row = let own = own_number run in rw own refl
row_own place lane (Refuse run job) row = let own = own_number run in rw own refl
row_own place lane (Begin run serial) row = let own = own_number run in rw own refl
row_own place lane (End run kind status size n1 n2) row = let own = own_number run in rw own refl
row_own place lane (Take run) row = let own = own_number run in rw own refl
row_own place lane (Tick moment) row = refl
row_own place lane (App run call reply) row = refl
row_own place lane Stop row = refl
row_own place lane Halt row = refl

pub not_zero : (run : ℕ) → 0 < run → (run == 0) ≡ false
not_zero run l = grind arith

row_zero : (n place lane : ℕ) (what : What) (row : Row) → IsNumberedFor n what → row_after place lane what 0 row ≡ row
row_zero n place lane (Queue run work key) row h = row_other place lane (Queue run work key) 0 row
    (not_zero run (omega arith))
row_zero n place lane (Admit run key fresh job) row h = row_other place lane (Admit run key fresh job) 0 row
    (not_zero run (omega arith))
row_zero n place lane (Refuse run job) row h = row_other place lane (Refuse run job) 0 row
    (not_zero run (omega arith))
row_zero n place lane (Begin run serial) row h = row_other place lane (Begin run serial) 0 row (not_zero run h.0)
row_zero n place lane (End run kind status size n1 n2) row h =
    row_other place lane (End run kind status size n1 n2) 0 row (not_zero run h.0)
row_zero n place lane (Take run) row h = row_other place lane (Take run) 0 row (not_zero run h.0)
row_zero n place lane (Tick moment) row h = refl
row_zero n place lane (App run call reply) row h = refl
row_zero n place lane Stop row h = refl
row_zero n place lane Halt row h = refl

-- the rows are those after the entry
pub rows_marked : (rows : List Row) (place lane : ℕ) (what : What) → IsNumberedFor (length rows) what
    → with_row (marked what) (changed place lane what (row_at rows (marked what))) (row_at rows)
    ≡ rows_after place lane what (row_at rows)
rows_marked rows place lane what h = fun_ext (λ r. elim (cases_Bool (r == 0)) [
  | inl none ↦ (let is : r ≡ 0 = eqb-true r 0 none in
      let here : with_row (marked what) (changed place lane what (row_at rows (marked what))) (row_at rows) r ≡ no_row =
      rw none refl in
      let there : row_at rows r ≡ no_row = rw none refl in
      here ∙ sym (row_zero (length rows) place lane what no_row h)
      ∙ ap (λ row. row_after place lane what 0 row) (sym there)
      ∙ ap (λ i. row_after place lane what i (row_at rows r)) (sym is))
  | inr some ↦ elim (cases_Bool (marked what == r)) [
    | inl own ↦ (let is : marked what ≡ r = eqb-true (marked what) r own in
        let here : with_row (marked what) (changed place lane what (row_at rows (marked what))) (row_at rows) r
        ≡ changed place lane what (row_at rows (marked what)) = rw (some, own) refl in
        here ∙ row_own place lane what (row_at rows (marked what))
        ∙ ap (λ i. row_after place lane what i (row_at rows i)) is)
    | inr other ↦ (let here :
        with_row (marked what) (changed place lane what (row_at rows (marked what))) (row_at rows) r
        ≡ row_at rows r = rw (some, other) refl in
        here ∙ sym (row_other place lane what r (row_at rows r) other))
  ]
])

-- what the journal tells of a run after one more entry
pub row_more : (past : List Entry) (entry : Entry) (r : ℕ)
    → row_of (entry ∷ past) r ≡ row_after (length past) entry.lane entry.what r (row_of past r)
row_more past entry r =
    let page : is_page (job_of (entry ∷ past) r).work
    ≡ unwrap_or (option_map (λ job. is_page job.work) (job_in r entry.what)) (is_page (job_of past r).work) =
    page_more (job_in r entry.what) (job_of past r) in
    let last : is_last_work (job_of (entry ∷ past) r).work
    ≡ unwrap_or (option_map (λ job. is_last_work job.work) (job_in r entry.what)) (is_last_work (job_of past r).work) =
    last_more (job_in r entry.what) (job_of past r) in
    cc (page, last)

-- ---- counts

-- a weight that is kept within a bound, with more weight
kept_weight : (w x m : ℕ) → min (w + x) m ≡ min (min w m + x) m
kept_weight w x m = omega arith

pub tally_more : (past : List Entry) (entry : Entry) → tally_of (entry ∷ past) ≡ tally_after entry.what (tally_of past)
tally_more past entry =
    let weight : min (weight_in past + what_weight entry.what) (2 ^ 64 - 1)
    ≡ min (min (weight_in past) (2 ^ 64 - 1) + what_weight entry.what) (2 ^ 64 - 1) =
    kept_weight (weight_in past) (what_weight entry.what) (2 ^ 64 - 1) in
    cc weight

one_more : (counted : Bool) (n k : ℕ) → n ≤ k → (if counted then n + 1 else n) ≤ k + 1
one_more true n k h = omega arith
one_more false n k h = omega arith

pub entries_few : (past : List Entry) → entries_in past ≤ length past
entries_few [] = omega arith
entries_few (entry ∷ past) =
    let more : entries_in (entry ∷ past) ≤ length past + 1 =
    one_more (counts entry.what) (entries_in past) (length past) (entries_few past) in
    omega arith

pub entries_within : (journal : List Entry) (n : ℕ) → n ≡ entries_in (reverse journal) → n ≤ length journal
entries_within journal n e =
    let long = length_past journal in
    let few = entries_few (reverse journal) in
    omega arith

jobs_more : (past : List Entry) (lane : ℕ) (what : What) → admitted past ≤ drawn past
    → admitted (with_lane lane what ∷ past) ≤ drawn (with_lane lane what ∷ past)
jobs_more past lane (Queue run work key) h = omega arith
jobs_more past lane (Admit run key fresh job) h = omega arith
jobs_more past lane (Refuse run job) h = omega arith
jobs_more past lane (Tick moment) h = h
jobs_more past lane (Begin run serial) h = h
jobs_more past lane (App run call reply) h = h
jobs_more past lane (End run kind status size n1 n2) h = h
jobs_more past lane (Take run) h = h
jobs_more past lane Stop h = h
jobs_more past lane Halt h = h

jobs_small : (past : List Entry) → admitted past ≤ drawn past
jobs_small [] = omega arith
jobs_small (entry ∷ past) = jobs_more past entry.lane entry.what (jobs_small past)

pub jobs_few : (journal : List Entry) (tally : Tally) → tally ≡ tally_of (reverse journal) → tally.jobs ≤ length journal
jobs_few journal tally e =
    let long = length_past journal in
    let entries = entries_few (reverse journal) in
    let runs = drawn_small (reverse journal) in
    let jobs = jobs_small (reverse journal) in
    let one : tally.jobs ≡ admitted (reverse journal) = ap (λ t. t.jobs) e in
    omega arith

pub tally_few : (journal : List Entry) (tally : Tally) → tally ≡ tally_of (reverse journal)
    → (tally.entries ≤ length journal) × (tally.made ≤ length journal)
tally_few journal tally e =
    let long = length_past journal in
    let entries = entries_few (reverse journal) in
    let made = made_small (reverse journal) in
    let one : tally.entries ≡ entries_in (reverse journal) = ap (λ t. t.entries) e in
    let two : tally.made ≡ made_in (reverse journal) = ap (λ t. t.made) e in
    (omega arith, omega arith)

pub drawn_few : (journal : List Entry) (n : ℕ) → n ≡ drawn (reverse journal)
    → (n ≤ entries_in (reverse journal)) × (n ≤ length journal)
drawn_few journal n e =
    let long = length_past journal in
    let entries = entries_few (reverse journal) in
    let runs = drawn_small (reverse journal) in
    (omega arith, omega arith)

pub made_few : (journal : List Entry) (n : ℕ) → n ≡ made_in (reverse journal)
    → (n ≤ entries_in (reverse journal)) × (n ≤ length journal)
made_few journal n e =
    let long = length_past journal in
    let entries = entries_few (reverse journal) in
    let keys = made_small (reverse journal) in
    (omega arith, omega arith)
