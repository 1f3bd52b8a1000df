use Rattle.std.proofs.Common.{◌∙◌, ap, Err}
use Rattle.asp_core.specs.Kernel.{rules_of, wanted_by}
use Rattle.asp_lane.proofs.Turns.{called_turn, dead_turn, full_turn, not_kept_out, some_is}
use Rattle.asp_lane.proofs.turn.call.Goals as goal

pub unreachable-requires : goal.unreachable-requires
unreachable-requires g c =
    let holder = c.in-Err-Blocked.field-0-0 in
    not_kept_out (rules_of g.R.Runner.meaning c.args.core.now) c.args.core.now c.args.run holder c.requires.valid
    c.requires.load.alone
    ((c.app_step.ensures.blocked holder).0 (c.in-Err-Blocked.is ∙ ap Err c.in-Err-Blocked.field-0-is))

pub returns-in-Ok : goal.returns-in-Ok
returns-in-Ok g c =
    let wants = some_is (wanted_by c.args.run.progress) c.requires.wants in
    record {
      turn = called_turn g.R.Runner.meaning g.R.Runner.stands c.args.lane c.args.core.now c.app_step.new.self
          c.args.run c.app_step.new.run wants.0 c.requires.load wants.1 c.in-Ok.ensures.ok c.in-Ok.ensures.run
          c.in-Ok.ensures.going.0 c.in-Ok.ensures.going.1;
      made = λ e. absurd cc;
    }

pub returns-in-Err-JournalFull : goal.returns-in-Err-JournalFull
returns-in-Err-JournalFull g c =
    let wants = some_is (wanted_by c.args.run.progress) c.requires.wants in
    let full = c.in-Err-JournalFull.full in
    let same = c.in-Err-JournalFull.ensures.err in
    let ended = rw (same.0, same.1) at c.end-store.ensures in
    record {
      turn = full_turn g.R.Runner.meaning g.R.Runner.stands c.args.lane c.args.core.now c.end-store.new.self c.args.run
          wants.0 full c.requires.valid c.requires.load wants.1 (c.app_step.ensures.full full
          (c.in-Err-JournalFull.is ∙ ap Err c.in-Err-JournalFull.field-0-is)) ended;
      made = λ e. absurd cc;
    }

pub returns-in-Err-Memory : goal.returns-in-Err-Memory
returns-in-Err-Memory g c =
    let same = c.in-Err-Memory.ensures.err in
    let ended = rw (same.0, same.1) at c.end-store-in-Err-Memory.ensures in
    record {
      turn = dead_turn g.R.Runner.meaning g.R.Runner.stands c.args.lane c.args.core.now
          c.end-store-in-Err-Memory.new.self c.args.run c.requires.valid c.requires.load ended;
      made = λ e. absurd cc;
    }
