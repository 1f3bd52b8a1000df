-- A request to a host of its own comes to one outcome.
use Rattle.std.proofs.Common.{◌≡◌, List, Option, Some, None, Result, Ok, Err, ap, sym, subst, ◌∙◌}
use Rattle.asp_journal.specs.declared.full.Full.{Full}
use Rattle.asp_core.specs.Kernel.{IsTooMuch}
use Rattle.asp_core.specs.Start.{start_fail}
use Rattle.asp_get.specs.Answered.{HasAnswered, IsReadyFor, OfFirst, OfJob, OfPage, WasTooMuch, run_for, with_job}
use Rattle.asp_get.specs.declared.stop.GetStop.{GetStop}
use Rattle.asp_get.specs.declared.stop.GetStop.TheVariants as stop
use Rattle.asp_job.specs.declared.answer.Answer.{Answer}
use Rattle.asp_job.specs.declared.answer.Fail.{Fail}
use Rattle.asp_job.specs.declared.entry.Entry.{Entry}
use Rattle.asp_job.specs.declared.job.Job.{Job}
use Rattle.asp_job.specs.Output.{answer_of_run}
use Rattle.asp_job.specs.Rules.{Rules}
use Rattle.asp_lane.specs.Course.{GoesThrough, IsRunTooMuch}
use Rattle.asp_lane.specs.First.{HasBegun, first_past}
use Rattle.host_laws.proofs.OneCourse.{no_room, not_too_much, one_load, one_much, one_through}
use Rattle.host_laws.specs.Laws.{IsOutcome}

some_one : {A : Type 0} → (one other : A) → Some one ≡ Some other → one ≡ other
some_one one other e = cc

module _ (rules : Rules) where
  -- ---- the first run

  one_begun : (one other : Option Fail) (past last : List Entry) → HasBegun rules 0 one past
      → HasBegun rules 0 other last
      → (past ≡ last) × (one ≡ other)
  one_begun one other past last is also =
      let same = one_through rules 0 (first_past 0) past last 1 1 is.through also.through in
      (same, sym is.fail_is ∙ ap (start_fail rules) same ∙ also.fail_is)

  not_both : (fail : Fail) (past last : List Entry) → HasBegun rules 0 (Some fail) past → HasBegun rules 0 None last → ⊥
  not_both fail past last is also =
      let both : Some fail ≡ None = (one_begun (Some fail) None past last is also).1 in cc

  module _ (job : Job) where
    one_answer : (one other : Answer) → HasAnswered rules job one → HasAnswered rules job other → one ≡ other
    one_answer one other is also =
        let past = (one_begun None None is.past also.past is.came.begun also.came.begun).0 in
        let turned : GoesThrough rules 0 (with_job rules is.past job) (run_for rules is.past job) also.last =
        subst (λ some. GoesThrough rules 0 (with_job rules some job) (run_for rules some job) also.last) (sym past)
        also.through in
        let last = one_through rules 0 (with_job rules is.past job) is.last also.last (run_for rules is.past job)
        (run_for rules is.past job) is.through turned in
        let same : answer_of_run rules is.last (run_for rules is.past job)
        ≡ answer_of_run rules also.last (run_for rules also.past job) =
        λ i. answer_of_run rules (last i) (run_for rules (past i) job) in
        some_one one other (sym is.answer_is ∙ same ∙ also.answer_is)

    -- what is answered does not fail, and is not too much
    answer_not_failed : (answer : Answer) (fail : Fail) (past : List Entry) → HasAnswered rules job answer
        → HasBegun rules 0 (Some fail) past → ⊥
    answer_not_failed answer fail past is failed = not_both fail past is.past failed is.came.begun

    answer_not_much : (answer : Answer) (full : Full) → HasAnswered rules job answer
        → WasTooMuch rules job full → ⊥
    answer_not_much answer full is (OfFirst much) =
        not_too_much rules 0 (first_past 0) is.past 1 full is.came.begun.through much
    answer_not_much answer full is (OfJob past begun much) =
        let same = (one_begun None None past is.past begun is.came.begun).0 in
        no_room (with_job rules is.past job) full is.came.within
        (subst (λ some. IsTooMuch (with_job rules some job) full) same much)
    answer_not_much answer full is (OfPage past ready much) =
        let same = (one_begun None None past is.past ready.begun is.came.begun).0 in
        not_too_much rules 0 (with_job rules is.past job) is.last (run_for rules is.past job) full is.through
        (subst (λ some. IsRunTooMuch rules 0 (with_job rules some job) full) same much)

    failed_not_much : (fail : Fail) (past : List Entry) (full : Full) → HasBegun rules 0 (Some fail) past
        → WasTooMuch rules job full → ⊥
    failed_not_much fail past full is (OfFirst much) =
        not_too_much rules 0 (first_past 0) past 1 full is.through much
    failed_not_much fail past full is (OfJob last begun much) = not_both fail past last is begun
    failed_not_much fail past full is (OfPage last ready much) = not_both fail past last is ready.begun

    -- ---- too much

    job_not_page : (past last : List Entry) (full : Full) → HasBegun rules 0 None past
        → IsTooMuch (with_job rules past job) full → IsReadyFor rules job last → ⊥
    job_not_page past last full begun much ready =
        let same = (one_begun None None past last begun ready.begun).0 in
        no_room (with_job rules last job) full ready.within
        (subst (λ some. IsTooMuch (with_job rules some job) full) same much)

    one_full : (full filled : Full) → WasTooMuch rules job full → WasTooMuch rules job filled
        → full ≡ filled
    one_full full filled (OfFirst much) (OfFirst also) =
        one_much rules 0 (first_past 0) full filled much also
    one_full full filled (OfFirst much) (OfJob past begun also) =
        absurd (not_too_much rules 0 (first_past 0) past 1 full begun.through much)
    one_full full filled (OfFirst much) (OfPage past ready also) =
        absurd (not_too_much rules 0 (first_past 0) past 1 full ready.begun.through much)
    one_full full filled (OfJob past begun much) (OfFirst also) =
        absurd (not_too_much rules 0 (first_past 0) past 1 filled begun.through also)
    one_full full filled (OfJob past begun much) (OfJob last has also) =
        let same = (one_begun None None last past has begun).0 in
        one_load (with_job rules past job) full filled much
        (subst (λ some. IsTooMuch (with_job rules some job) filled) same also)
    one_full full filled (OfJob past begun much) (OfPage last ready also) =
        absurd (job_not_page past last full begun much ready)
    one_full full filled (OfPage past ready much) (OfFirst also) =
        absurd (not_too_much rules 0 (first_past 0) past 1 filled ready.begun.through also)
    one_full full filled (OfPage past ready much) (OfJob last begun also) =
        absurd (job_not_page last past filled begun also ready)
    one_full full filled (OfPage past ready much) (OfPage last has also) =
        let same = (one_begun None None last past has.begun ready.begun).0 in
        one_much rules 0 (with_job rules past job) full filled much
        (subst (λ some. IsRunTooMuch rules 0 (with_job rules some job) filled) same also)

    -- ---- outcomes

    one_stop : (one other : GetStop) → IsOutcome rules job (Err one) → IsOutcome rules job (Err other) → one ≡ other
    one_stop (stop.StartFailed fail) (stop.StartFailed other) is also =
        let same : Some fail ≡ Some other = (one_begun (Some fail) (Some other) is.0 also.0 is.1 also.1).1 in
        ap stop.StartFailed (some_one fail other same)
    one_stop (stop.StartFailed fail) (stop.JournalFull full) is also =
        absurd (failed_not_much fail is.0 full is.1 also)
    one_stop (stop.JournalFull full) (stop.StartFailed fail) is also =
        absurd (failed_not_much fail also.0 full also.1 is)
    one_stop (stop.JournalFull full) (stop.JournalFull filled) is also =
        ap stop.JournalFull (one_full full filled is also)
    one_stop (stop.StartFailed fail) stop.Memory is also = absurd also
    one_stop (stop.JournalFull full) stop.Memory is also = absurd also
    one_stop stop.Memory other is also = absurd is

    not_stopped : (answer : Answer) (ended : GetStop) → IsOutcome rules job (Ok answer) → IsOutcome rules job (Err ended)
        → ⊥
    not_stopped answer (stop.StartFailed fail) is also = answer_not_failed answer fail also.0 is also.1
    not_stopped answer (stop.JournalFull full) is also = answer_not_much answer full is also
    not_stopped answer stop.Memory is also = also

    pub one_outcome : (one other : Result Answer GetStop) → IsOutcome rules job one → IsOutcome rules job other
        → one ≡ other
    one_outcome (Ok one) (Ok other) is also = ap Ok (one_answer one other is also)
    one_outcome (Ok one) (Err ended) is also = absurd (not_stopped one ended is also)
    one_outcome (Err ended) (Ok other) is also = absurd (not_stopped other ended also is)
    one_outcome (Err one) (Err other) is also = ap Err (one_stop one other is also)
