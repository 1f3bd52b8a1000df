-- Where the entry that drew a run stands in a journal.
use Rattle.std.proofs.Common.{◌≡◌, ℕ, suc, ◌<◌, List, [], ◌∷◌, ◌++◌, length, Option, Some, None, unwrap_or}
use Rattle.std.proofs.Common.{refl, ap, sym, ◌∙◌, arith, reverse, subst}
use Rattle.std.proofs.lemmas.List.{reverse-append, reverse-reverse}
use Rattle.std.specs.Prelude.{IfSome}
use Rattle.std.specs.Option.{option_map, option_or}
use Rattle.asp_job.specs.Runs.{job_in, job_of, queued_job}
use Rattle.asp_job.specs.declared.entry.Entry.{Entry}
use Rattle.asp_job.specs.declared.job.Job.{Job}
use Rattle.asp_job.specs.declared.job.Work.TheVariants as work
use Rattle.asp_journal.specs.Rows.{job_by, no_entry, place_of}
use Rattle.asp_journal.proofs.Indexing.{get_last, get_other}
use Rattle.asp_journal.proofs.Past.{length_past}

-- a place within so many entries
abbrev pub IsPlace : ℕ → Option ℕ → Type 0
IsPlace n place = IfSome place (λ i. i < n)

place_more : (found : Option Job) (place : Option ℕ) (n : ℕ) → IsPlace n place
    → IsPlace (suc n) (option_or (option_map (λ job. n) found) place)
place_more None None n h = h
place_more None (Some i) n h = omega arith
place_more (Some job) place n h = omega arith

pub place_within : (past : List Entry) (r : ℕ) → IsPlace (length past) (place_of past r)
place_within [] r = tt
place_within (entry ∷ past) r = place_more (job_in r entry.what) (place_of past r) (length past) (place_within past r)

not_last : (i n : ℕ) → i < n → i ≡ n → ⊥
not_last i n l e = absurd (omega arith)

-- a place tells the same with one entry more
job_same : (journal : List Entry) (entry : Entry) (place : Option ℕ) (r : ℕ) → IsPlace (length journal) place
    → job_by (journal ++ entry ∷ []) place r ≡ job_by journal place r
job_same journal entry None r h = refl
job_same journal entry (Some i) r h =
    ap (λ e. unwrap_or (job_in r e.what) (queued_job work.Start))
    (get_other journal entry no_entry i (not_last i (length journal) h))

job_more : (journal : List Entry) (entry : Entry) (found : Option Job) (before : Job) (place : Option ℕ) (r : ℕ)
    → job_in r entry.what ≡ found → before ≡ job_by journal place r → IsPlace (length journal) place
    → unwrap_or found before
    ≡ job_by (journal ++ entry ∷ []) (option_or (option_map (λ job. length journal) found) place) r
job_more journal entry None before place r e f h = f ∙ sym (job_same journal entry place r h)
job_more journal entry (Some job) before place r e f h =
    sym (ap (λ e. unwrap_or (job_in r e.what) (queued_job work.Start))
    (get_last journal entry no_entry (length journal) refl) ∙ ap (λ f. unwrap_or f (queued_job work.Start)) e)

-- the entry at a run's place tells its job
job_placed : (past : List Entry) (r : ℕ) → job_of past r ≡ job_by (reverse past) (place_of past r) r
job_placed [] r = refl
job_placed (entry ∷ past) r =
    let of : reverse (entry ∷ past) ≡ reverse past ++ entry ∷ [] = reverse-append (entry ∷ []) past in
    let long : length (reverse past) ≡ length past = length_past past in
    let within : IsPlace (length (reverse past)) (place_of past r) =
    subst (λ n. IsPlace n (place_of past r)) (sym long) (place_within past r) in
    job_more (reverse past) entry (job_in r entry.what) (job_of past r) (place_of past r) r refl (job_placed past r)
    within
    ∙ ap (λ n. job_by (reverse past ++ entry ∷ [])
    (option_or (option_map (λ job. n) (job_in r entry.what)) (place_of past r)) r) long
    ∙ ap (λ journal. job_by journal (place_of (entry ∷ past) r) r) (sym of)

pub job_found : (journal : List Entry) (r : ℕ)
    → job_by journal (place_of (reverse journal) r) r ≡ job_of (reverse journal) r
job_found journal r =
    ap (λ xs. job_by xs (place_of (reverse journal) r) r) (sym (reverse-reverse journal))
    ∙ sym (job_placed (reverse journal) r)

pub place_found : (journal : List Entry) (r : ℕ) → IsPlace (length journal) (place_of (reverse journal) r)
place_found journal r = subst (λ n. IsPlace n (place_of (reverse journal) r)) (length_past journal)
    (place_within (reverse journal) r)
