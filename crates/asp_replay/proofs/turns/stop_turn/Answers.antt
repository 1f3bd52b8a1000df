use Rattle.std.proofs.Common.{Err, ap, sym, ◌∙◌}
use Rattle.std.proofs.lemmas.Result.{err_from_is_err_and}
use Rattle.asp_core.specs.Kernel.{past_of, rules_of}
use Rattle.asp_job.specs.Journal.{stop_entries}
use Rattle.asp_replay.proofs.Aside.{aside_stopped}
use Rattle.asp_replay.proofs.Turning.{stop_after, stop_ends, stop_lanes, turn_fits, turn_grows}
use Rattle.asp_replay.proofs.turns.stop_turn.Goals as goal

pub hand_out-handed-requires : goal.hand_out-handed-requires
hand_out-handed-requires g c = record {
  lane = stop_lanes g.R.Runner.meaning c.args.core.now c.stop.new.core c.in_ok-stop.ensures.ok c.requires.lane;
}

pub returns-in_err-stop-clause-after : goal.returns-in_err-stop-clause-after
returns-in_err-stop-clause-after g c = λ items clients before is.
    let p = err_from_is_err_and c.from_residual.result c.from_residual.ensures.1 in
    rw p.1 (stop_ends g.R.Runner.meaning c.args.core.now c.stop.new.core items clients before
    (g.K.Sink.held c.args.sink.now) p.0 c.in_err-stop.ensures.err c.requires.calm c.requires.once c.requires.started
    (λ full e. c.in_err-stop.ensures.full full (ap Err (sym p.2 ∙ e)))
    (λ fail e. c.in_err-stop.ensures.no_start fail (ap Err (sym p.2 ∙ e))) is)

pub returns-clause-grows : goal.returns-clause-grows
returns-clause-grows g c =
    turn_grows g.R.Runner.meaning c.hand_out-handed.result c.args.core.now c.stop.new.core c.hand_out-handed.new.core
    (stop_entries (rules_of g.R.Runner.meaning c.args.core.now) (past_of c.args.core.now) 0)
    (g.K.Sink.held c.args.sink.now) (g.K.Sink.held c.hand_out-handed.new.sink) c.in_ok-stop.ensures.ok
    c.hand_out-handed.ensures.out

pub returns-clause-fits : goal.returns-clause-fits
returns-clause-fits g c = λ in_hand fits.
    let m = rules_of g.R.Runner.meaning c.args.core.now in
    turn_fits g.R.Runner.meaning g.R.Runner.stands c.hand_out-handed.result c.args.core.now c.stop.new.core
    c.hand_out-handed.new.core (stop_entries m (past_of c.args.core.now) 0) (g.K.Sink.held c.args.sink.now)
    (g.K.Sink.held c.hand_out-handed.new.sink) in_hand c.in_ok-stop.ensures.ok
    (aside_stopped m (past_of c.args.core.now) 0) c.journal.ensures.valid.entries c.journal-2.ensures.valid.entries
    c.hand_out-handed.ensures.out fits

pub returns-clause-after : goal.returns-clause-after
returns-clause-after g c = λ items clients before is.
    stop_after g.R.Runner.meaning c.hand_out-handed.result c.args.core.now c.stop.new.core c.hand_out-handed.new.core
    items clients before (g.K.Sink.held c.args.sink.now) (g.K.Sink.held c.hand_out-handed.new.sink)
    c.in_ok-stop.ensures.ok c.requires.calm c.requires.once c.journal.ensures.valid.entries
    c.journal.ensures.answered c.hand_out-handed.ensures.only c.hand_out-handed.ensures.out is
