use Rattle.std.proofs.Common.{◌≡◌, ◌∙◌, true, None, Ok, ap, refl, subst, sym}
use Rattle.asp_core.specs.declared.run.Progress.TheVariants as progress
use Rattle.asp_core.specs.Kernel.{progress_of}
use Rattle.asp_lane.specs.declared.turn.TurnEnd.TheVariants as turn
use Rattle.asp_lane.specs.Turns.{run_in}
use Rattle.asp_lane.proofs.Slices.{dead_ticks, is_some_step, more_ticks, other_ticks}
use Rattle.asp_lane.proofs.Turns.{dead_turn, done_turn, more_turn, same_turn, still_alone}
use Rattle.asp_lane.proofs.turn.go.Goals as goal

pub returns-in-Ok-More : goal.returns-in-Ok-More
returns-in-Ok-More g c =
    let core = c.args.core.now in
    let lane = c.args.lane in
    let run = c.go.new.self in
    let host = c.requires.host in
    let came = c.in-Ok-More.is ∙ ap Ok c.in-Ok-More.field-0-is in
    let stands_still = rw (host.runner_is, host.site_is) at c.go.ensures.stands in
    let went = rw (host.runner_is, host.site_is) at c.go.ensures.slice in
    let alone = still_alone g.R.Runner.meaning g.R.Runner.stands core lane c.args.run run c.requires.load.0
    c.go.ensures.number c.go.ensures.stand_ins stands_still in
    let going : run.progress ≡ progress.Going = c.go.ensures.progress ∙ ap progress_of came in
    record {
      turn = more_turn g.R.Runner.meaning g.R.Runner.stands core lane c.args.run run alone going;
      ticks = more_ticks g.R.Runner.pace g.R.Runner.meaning g.R.Runner.stands lane core c.args.run run c.go.result came
          went;
    }

pub returns-in-Ok-Wants : goal.returns-in-Ok-Wants
returns-in-Ok-Wants g c =
    let host = c.requires.host in
    let came = c.in-Ok-Wants.is ∙ ap Ok c.in-Ok-Wants.field-0-is in
    let went = rw (host.runner_is, host.site_is) at c.go.ensures.slice in
    record {
      turn = same_turn g.R.Runner.meaning g.R.Runner.stands c.args.lane c.args.core.now c.call.new.core c.args.run
          c.go.new.self (run_in c.call.result.0) c.call.result.1 c.go.ensures.number c.call.ensures.turn;
      ticks = other_ticks g.R.Runner.pace g.R.Runner.meaning g.R.Runner.stands c.args.lane c.args.core.now c.args.run
          c.go.new.self.state c.go.result c.call.new.core (run_in c.call.result.0) c.call.result.1
          (subst (λ r. is_some_step r ≡ true) (sym came) refl) went c.call.ensures.made;
    }

pub returns-in-Ok-Ended : goal.returns-in-Ok-Ended
returns-in-Ok-Ended g c =
    let core = c.args.core.now in
    let lane = c.args.lane in
    let run = c.go.new.self in
    let host = c.requires.host in
    let came = c.in-Ok-Ended.is ∙ ap Ok c.in-Ok-Ended.field-0-is in
    let stands_still = rw (host.runner_is, host.site_is) at c.go.ensures.stands in
    let went = rw (host.runner_is, host.site_is) at c.go.ensures.slice in
    let alone = still_alone g.R.Runner.meaning g.R.Runner.stands core lane c.args.run run c.requires.load.0
    c.go.ensures.number c.go.ensures.stand_ins stands_still in
    let ended : run.progress ≡ progress.Ended = c.go.ensures.progress ∙ ap progress_of came in
    record {
      turn = same_turn g.R.Runner.meaning g.R.Runner.stands lane core c.end-store.new.self c.args.run run None turn.Done
          c.go.ensures.number (done_turn g.R.Runner.meaning g.R.Runner.stands lane core c.end-store.new.self run
          c.requires.valid alone ended c.end-store.ensures);
      ticks = other_ticks g.R.Runner.pace g.R.Runner.meaning g.R.Runner.stands lane core c.args.run run.state
          c.go.result c.end-store.new.self None turn.Done (subst (λ r. is_some_step r ≡ true) (sym came) refl) went
          (λ e. absurd cc);
    }

pub returns : goal.returns
returns g c =
    let core = c.args.core.now in
    let lane = c.args.lane in
    let run = c.go.new.self in
    let stands_still = rw (c.requires.host.runner_is, c.requires.host.site_is) at c.go.ensures.stands in
    let alone = still_alone g.R.Runner.meaning g.R.Runner.stands core lane c.args.run run c.requires.load.0
    c.go.ensures.number c.go.ensures.stand_ins stands_still in
    record {
      turn = same_turn g.R.Runner.meaning g.R.Runner.stands lane core c.end-store-in-Err.new.self c.args.run run None
          turn.Done c.go.ensures.number (dead_turn g.R.Runner.meaning g.R.Runner.stands lane core
          c.end-store-in-Err.new.self run c.requires.valid alone c.end-store-in-Err.ensures);
      ticks = dead_ticks g.R.Runner.pace g.R.Runner.meaning g.R.Runner.stands lane core c.args.run run.number
          c.end-store-in-Err.new.self c.go.ensures.number c.end-store-in-Err.ensures;
    }
