use Rattle.asp_job.specs.Output.{end_of}
use Rattle.asp_job.specs.declared.entry.EndKind.TheVariants.{JournalFull}
use Rattle.asp_core.specs.Kernel.{past_of, rules_of}
use Rattle.core_cases.proofs.Lanes.{desk_called, desk_full, desk_taken, run_full}
use Rattle.core_cases.proofs.desk.Desk.call.Goals as goal

pub invariant_of-self-then-not-matches : goal.invariant_of-self-then-not-matches
invariant_of-self-then-not-matches g c =
    desk_taken g.R.Runner.meaning g.R.Runner.stands c.self.inside.core c.args.lane c.self.inside.runner
    c.self.inside.site c.self.inside.runs.items c.take_run.new.runs.items c.in_ok-run.run' c.self.invariant
    c.in_ok-run.ensures.ok

pub app_step-told-requires-clause-run : goal.app_step-told-requires-clause-run
app_step-told-requires-clause-run g c =
    c.self.invariant.runs_are c.args.lane c.in_ok-run.run' c.in_ok-run.ensures.ok.run_is

pub end-requires-clause-run : goal.end-requires-clause-run
end-requires-clause-run g c =
    let same = rw c.in-Err-JournalFull.is at c.app_step-told.ensures.err in
    let one = c.self.invariant.runs_are c.args.lane c.in_ok-run.run' c.in_ok-run.ensures.ok.run_is in
    run_full g.R.Runner.meaning g.R.Runner.stands c.self.inside.core c.args.lane c.self.inside.runner
    c.self.inside.site c.self.inside.runs.items c.app_step-told.new.self c.in_ok-run.run' c.app_step-told.new.run one same

pub invariant_of-self-in-JournalFull-1 : goal.invariant_of-self-in-JournalFull-1
invariant_of-self-in-JournalFull-1 g c =
    let next = c.app_step-told.new.self in
    let same = rw c.in-Err-JournalFull.is at c.app_step-told.ensures.err in
    let what = end_of (rules_of g.R.Runner.meaning next) (past_of next) c.app_step-told.new.run.number JournalFull in
    desk_full g.R.Runner.meaning g.R.Runner.stands c.self.inside.core c.args.lane c.self.inside.runner
    c.self.inside.site c.self.inside.runs.items next c.end.new.self c.take_run.new.runs.items c.in_ok-run.run' what
    c.self.invariant c.in_ok-run.ensures.ok same.0 c.end.ensures c.journal-in-Err-JournalFull.ensures.valid

pub invariant_of-self-in_default-told : goal.invariant_of-self-in_default-told
invariant_of-self-in_default-told g c =
    desk_called g.R.Runner.meaning g.R.Runner.stands c.self.inside.core c.args.lane c.self.inside.runner
    c.self.inside.site c.self.inside.runs.items c.app_step-told.result c.app_step-told.new.self
    c.take_run.new.runs.items c.put_run.new.runs.items c.in_ok-run.run' c.app_step-told.new.run c.self.invariant
    c.in_ok-run.ensures.ok c.app_step-told.ensures.ok c.app_step-told.ensures.run c.app_step-told.ensures.err
    c.journal.ensures.valid c.put_run.ensures
