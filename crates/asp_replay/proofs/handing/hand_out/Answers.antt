use Rattle.std.proofs.Common.{◌≡◌, ap, arith, sym, ◌∙◌}
use Rattle.std.proofs.lemmas.Result.{err_from_is_err_and}
use Rattle.asp_core.specs.Kernel.{past_of}
use Rattle.asp_job.specs.Runs.{moment_of}
use Rattle.asp_feed.specs.Shown.{Shown}
use Rattle.asp_replay.proofs.HandedOut.{handed_all, handed_part}
use Rattle.asp_replay.proofs.HandingOut.{handing_goes_on, handing_smaller, handing_starts, hands_one, some_waits}
use Rattle.asp_replay.proofs.Pieces.{with_none}
use Rattle.asp_replay.proofs.handing.hand_out.Goals as goal

pub loop-run-init : goal.loop-run-init
loop-run-init g c =
    let held = g.K.Sink.held c.args.sink.now in (
      handing_starts g.R.Runner.meaning c.args.core.now held c.journal.ensures.valid.entries c.journal.ensures.answered
          c.requires.lane (sym (with_none held)),
      omega arith,
      λ below. below,
    )

pub returns-in_err-write_record-clause-out : goal.returns-in_err-write_record-clause-out
returns-in_err-write_record-clause-out g c =
    let meaning = g.R.Runner.meaning in
    let old = c.args.core.now in
    let now = c.loop-run.core in
    let new = c.first_out.new.core in
    let before = g.K.Sink.held c.args.sink.now in
    let held = g.K.Sink.held c.loop-run.sink in
    let after = g.K.Sink.held c.write_record.new.sink in
    let run = c.in-Some.run' in
    let answer = c.in-Some.answer in
    let one = hands_one meaning old now new before held (run, answer) c.loop-run.invariant.0 c.in-Some.ensures.first
    c.in-Some.ensures.some in
    let shown : Shown = record { run = run; moment = c.moment.result; answer = answer } in
    let same = ap (λ at. record { run = run; moment = at; answer = answer }) c.moment.ensures in
    let ended = c.in_err-write_record.field-0.0 in
    let p = err_from_is_err_and c.from_residual.result c.from_residual.ensures.1 in
    rw p.1 (handed_part meaning old new before held after (run, answer) shown ended one same
    c.in_err-write_record.ensures.wrote)

pub returns-in_err-write_record-clause-none : goal.returns-in_err-write_record-clause-none
returns-in_err-write_record-clause-none g c = λ none.
    let meaning = g.R.Runner.meaning in
    let one = hands_one meaning c.args.core.now c.loop-run.core c.first_out.new.core (g.K.Sink.held c.args.sink.now)
    (g.K.Sink.held c.loop-run.sink) (c.in-Some.run', c.in-Some.answer) c.loop-run.invariant.0 c.in-Some.ensures.first
    c.in-Some.ensures.some in
    absurd (some_waits one.taken one.rest (c.in-Some.run', c.in-Some.answer) (sym none ∙ one.split))

pub loop-run-smaller : goal.loop-run-smaller
loop-run-smaller g c =
    handing_smaller g.R.Runner.meaning c.args.core.now c.loop-run.core c.first_out.new.core
    (g.K.Sink.held c.args.sink.now) (g.K.Sink.held c.loop-run.sink) (c.in-Some.run', c.in-Some.answer)
    c.loop-run.invariant.0 c.in-Some.ensures.first c.in-Some.ensures.some

pub loop-run-preserved : goal.loop-run-preserved
loop-run-preserved g c =
    let meaning = g.R.Runner.meaning in
    let old = c.args.core.now in
    let now = c.loop-run.core in
    let new = c.first_out.new.core in
    let before = g.K.Sink.held c.args.sink.now in
    let held = g.K.Sink.held c.loop-run.sink in
    let after = g.K.Sink.held c.write_record.new.sink in
    let run = c.in-Some.run' in
    let answer = c.in-Some.answer in
    let one = hands_one meaning old now new before held (run, answer) c.loop-run.invariant.0 c.in-Some.ensures.first
    c.in-Some.ensures.some in
    let shown : Shown = record { run = run; moment = c.moment.result; answer = answer } in
    let same : shown ≡ record { run = run; moment = moment_of (past_of new); answer = answer } =
    ap (λ at. record { run = run; moment = at; answer = answer }) c.moment.ensures in
    let wrote = c.in_ok-write_record.ensures.wrote in
    let cause = c.in_ok-write_record.ensures.cause in (
      handing_goes_on meaning old new before held after (run, answer) shown wrote.0 one same wrote.1 wrote.2,
      omega (arith, cause.later),
      λ below. cause.within (c.loop-run.invariant.2 below),
    )

pub returns-clause-out : goal.returns-clause-out
returns-clause-out g c =
    let meaning = g.R.Runner.meaning in
    let old = c.args.core.now in
    let now = c.loop-run.core in
    let before = g.K.Sink.held c.args.sink.now in
    let after = g.K.Sink.held c.loop-run.sink in
    let all = handed_all meaning old now before after c.loop-run.invariant.0 c.in_default.ensures.first in
    (all.0, c.in_default.ensures.none ∙ all.1, all.2, all.3)
