use Rattle.std.proofs.Common.{[], ◌∷◌, subst, sym}
use Rattle.std.proofs.lemmas.Result.{err_from_is_err_and}
use Rattle.asp_core.specs.Kernel.{past_of, rules_of}
use Rattle.asp_job.specs.Journal.{begin_entry}
use Rattle.asp_lane.proofs.Growing.{rules_grown}
use Rattle.asp_lane.proofs.Through.{begun_fits, begun_so, not_begun, stop_so, through_so}
use Rattle.asp_lane.specs.Course.{GoesThrough}
use Rattle.asp_lane.specs.Underway.{GoesOn, IsGoingStop}
use Rattle.asp_lane.proofs.course.go_through.Goals as goal

pub finish-requires-clause-run : goal.finish-requires-clause-run
finish-requires-clause-run g c =
    begun_fits g.R.Runner.meaning g.R.Runner.stands c.args.lane c.args.core.now c.begin.new.self
    c.journal.ensures.valid c.requires.free c.in-Ok.run' c.in-Ok.ensures.next c.in-Ok.ensures.begun
    c.in-Ok.ensures.run c.in-Ok.ensures.going

pub returns-in_ok-finish-in-Ok-clause-ok : goal.returns-in_ok-finish-in-Ok-clause-ok
returns-in_ok-finish-in-Ok-clause-ok g c =
    let meaning = g.R.Runner.meaning in
    let old = c.args.core.now in
    let mid = c.begin.new.self in
    let new = c.finish.new.core in
    let lane = c.args.lane in
    let run = c.in-Ok.run'.number in
    let m = rules_of meaning old in
    let just = begun_so meaning g.R.Runner.stands lane old mid c.journal.ensures.valid c.requires.free run
    c.in-Ok.ensures.next c.in-Ok.ensures.begun c.journal-in-Ok.ensures.within in
    let same = rules_grown meaning old mid (begin_entry m (past_of old) lane run ∷ [], c.in-Ok.ensures.begun) in
    subst (λ number. GoesThrough m lane (past_of old) number (past_of new)) (sym c.number-number.ensures)
    (through_so m lane (past_of old) (past_of mid) run just (past_of new)
    (subst (λ rules. GoesOn rules lane (past_of mid) run (past_of new)) same c.in_ok-finish-in-Ok.ensures.ok))

pub returns-in_err-finish-in-Ok-clause-err : goal.returns-in_err-finish-in-Ok-clause-err
returns-in_err-finish-in-Ok-clause-err g c =
    let meaning = g.R.Runner.meaning in
    let old = c.args.core.now in
    let mid = c.begin.new.self in
    let lane = c.args.lane in
    let run = c.in-Ok.run'.number in
    let m = rules_of meaning old in
    let just = begun_so meaning g.R.Runner.stands lane old mid c.journal.ensures.valid c.requires.free run
    c.in-Ok.ensures.next c.in-Ok.ensures.begun c.journal-in-Ok.ensures.within in
    let same = rules_grown meaning old mid (begin_entry m (past_of old) lane run ∷ [], c.in-Ok.ensures.begun) in
    let stop = c.in_err-finish-in-Ok.field-0.0 in
    let p = err_from_is_err_and c.from_residual.result c.from_residual.ensures.1 in
    rw (p.1, p.2) (stop_so m lane (past_of old) (past_of mid) run just stop
    (subst (λ rules. IsGoingStop rules lane (past_of mid) run stop) same c.in_err-finish-in-Ok.ensures.err))

pub returns-in-Err-clause-err : goal.returns-in-Err-clause-err
returns-in-Err-clause-err g c =
    rw c.from.ensures (not_begun g.R.Runner.meaning g.R.Runner.stands c.args.lane c.args.core.now
    c.begin.new.self c.journal.ensures.valid c.requires.free c.in-Err.stop c.in-Err.ensures.full)
