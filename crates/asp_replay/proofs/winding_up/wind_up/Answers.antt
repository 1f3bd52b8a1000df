use Rattle.std.proofs.Common.{ap, inl, inr, refl}
use Rattle.asp_lane.specs.Turns.{run_in}
use Rattle.asp_replay.proofs.WindingUp.{quiet_then, turns_quiet, wound_free}
use Rattle.asp_replay.proofs.winding_up.wind_up.Goals as goal

pub returns-in-Free : goal.returns-in-Free
returns-in-Free g c =
    let turned = c.take_turns-hand.ensures.turns in
    record {
      wound_up = wound_free g.R.Runner.meaning g.R.Runner.stands c.halt.new.core c.take_turns-hand.new.core
          (run_in c.args.hand) (run_in c.take_turns-hand.result.0) c.take_turns-hand.result.1 c.args.stop turned
          (ap run_in c.in-Free.is) c.halt.ensures.halted;
      grows = quiet_then c.args.core.now c.halt.new.core c.take_turns-hand.new.core c.halt.ensures.grows
          (turns_quiet g.R.Runner.meaning g.R.Runner.stands c.halt.new.core c.take_turns-hand.new.core
          (run_in c.args.hand) (run_in c.take_turns-hand.result.0) c.take_turns-hand.result.1 turned);
      stop = inl refl;
      failed = λ fail e. absurd (c.in_default.not-StartFailed fail e);
    }

pub returns-in-Runs : goal.returns-in-Runs
returns-in-Runs g c =
    let turned = c.take_turns-hand.ensures.turns in
    record {
      wound_up = tt;
      grows = quiet_then c.args.core.now c.halt.new.core c.take_turns-hand.new.core c.halt.ensures.grows
          (turns_quiet g.R.Runner.meaning g.R.Runner.stands c.halt.new.core c.take_turns-hand.new.core
          (run_in c.args.hand) (run_in c.take_turns-hand.result.0) c.take_turns-hand.result.1 turned);
      stop = inr refl;
      failed = λ fail e. absurd (c.in_default.not-StartFailed fail e);
    }
