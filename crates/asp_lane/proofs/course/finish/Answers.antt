use Rattle.std.proofs.Common.{◌≡◌, ◌∙◌, [], ◌∷◌, ap, subst, sym, OnOk}
use Rattle.asp_core.specs.Kernel.{past_of, rules_of}
use Rattle.asp_job.specs.Runs.{unfinished}
use Rattle.asp_lane.proofs.Called.{none_called}
use Rattle.asp_lane.proofs.Growing.{grows_not, host_grown}
use Rattle.asp_lane.proofs.Looping.{grows_on, loop_calls, loop_ends, loop_stops, none_is}
use Rattle.asp_lane.specs.Turns.{Fits, run_in}
use Rattle.asp_lane.specs.Underway.{GoesOn, IsGoingStop, turn_stop}
use Rattle.asp_lane.proofs.course.finish.Goals as goal

pub loop-init : goal.loop-init
loop-init g c = record {
  host = c.requires.host;
  fits = c.requires.run;
  grows = grows_not c.args.core.now;
  called = none_called (rules_of g.R.Runner.meaning c.args.core.now) c.args.lane (past_of c.args.core.now)
      c.number-number.result (subst (λ number. unfinished (past_of c.args.core.now) ≡ number ∷ [])
      (sym c.number-number.ensures) c.requires.run.0.alone);
}

pub returns-in-Some-clause-err : goal.returns-in-Some-clause-err
returns-in-Some-clause-err g c =
    subst (λ number. IsGoingStop (rules_of g.R.Runner.meaning c.args.core.now) c.args.lane (past_of c.args.core.now)
    number c.in-Some.stop) c.number-number.ensures
    (loop_stops g.R.Runner.meaning g.R.Runner.stands c.args.lane c.args.core.now c.loop.core c.take_turn-next.new.core
    (run_in c.loop.load) (run_in c.take_turn-next.result.0) c.take_turn-next.result.1 c.loop.invariant.grows
    c.journal.ensures.valid c.loop.invariant.fits c.take_turn-next.ensures.turn c.number-number.result c.in-Some.stop
    (sym c.turn_stop.ensures ∙ c.in-Some.is) c.loop.invariant.called)

pub returns-in-Free-clause-ok : goal.returns-in-Free-clause-ok
returns-in-Free-clause-ok g c =
    subst (λ number. OnOk c.store_back.result (GoesOn (rules_of g.R.Runner.meaning c.args.core.now) c.args.lane
    (past_of c.args.core.now) number (past_of c.take_turn-next.new.core))) c.number-number.ensures
    (loop_ends g.R.Runner.meaning g.R.Runner.stands c.args.lane c.args.core.now c.loop.core c.take_turn-next.new.core
    (run_in c.loop.load) (run_in c.take_turn-next.result.0) c.take_turn-next.result.1 c.loop.invariant.grows
    c.journal.ensures.valid c.loop.invariant.fits c.take_turn-next.ensures.turn c.store_back.result
    c.number-number.result (ap run_in c.in-Free.is)
    (none_is (turn_stop c.take_turn-next.result.1) (λ ended e. c.in_default.not-Some ended (c.turn_stop.ensures ∙ e)))
    c.loop.invariant.called c.store_back.ensures.ok)

pub loop-preserved : goal.loop-preserved
loop-preserved g c =
    let grows = grows_on g.R.Runner.meaning g.R.Runner.stands c.args.lane c.args.core.now c.loop.core
    c.take_turn-next.new.core (run_in c.loop.load) (run_in c.take_turn-next.result.0) c.take_turn-next.result.1
    c.loop.invariant.grows c.journal.ensures.valid c.loop.invariant.fits c.take_turn-next.ensures.turn in
    record {
      host = host_grown c.args.core.now c.take_turn-next.new.core c.args.runner.now c.args.site.now grows c.requires.host;
      fits = subst (λ some. Fits g.R.Runner.meaning g.R.Runner.stands c.take_turn-next.new.core c.args.lane some)
          (ap run_in c.in-Runs.is) c.take_turn-next.ensures.turn.fits;
      grows = grows;
      called = loop_calls g.R.Runner.meaning g.R.Runner.stands c.args.lane c.args.core.now c.loop.core
          c.take_turn-next.new.core (run_in c.loop.load) (run_in c.take_turn-next.result.0) c.take_turn-next.result.1
          c.loop.invariant.grows c.journal.ensures.valid c.loop.invariant.fits c.take_turn-next.ensures.turn
          c.number-number.result c.in-Runs.run' (ap run_in c.in-Runs.is)
          (none_is (turn_stop c.take_turn-next.result.1)
          (λ ended e. c.in_default.not-Some ended (c.turn_stop.ensures ∙ e))) c.journal-in-loop.ensures.within
          c.loop.invariant.called;
    }
