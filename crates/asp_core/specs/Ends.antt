-- What a run leaves where it ends, and the entry of its end.
use Rattle.std.specs.Prelude.{◌≡◌, ℕ, ◌+◌, ◌<◌, ◌≤◌, ◌∷◌, true, List, length, Option, Some, None, IfSome}
use Rattle.asp_job.specs.declared.answer.Finished.{Finished}
use Rattle.asp_job.specs.declared.entry.EndKind.{EndKind}
use Rattle.asp_job.specs.declared.entry.EndKind.TheVariants as kind
use Rattle.asp_job.specs.declared.entry.Entry.{Entry}
use Rattle.asp_job.specs.declared.entry.What.{What}
use Rattle.asp_job.specs.declared.entry.What.TheVariants.{End}
use Rattle.asp_job.specs.History.{with_lane}
use Rattle.asp_job.specs.Output.{status_in, length_in}
use Rattle.asp_job.specs.Running.{IsBounded}
use Rattle.asp_job.specs.Runs.{drawn, is_open, unfinished}
use Rattle.asp_core.specs.Kernel.{IsSessionIn}
use Rattle.asp_core.specs.declared.ends.Left.{Left}
use Rattle.asp_core.specs.declared.run.StandIns.{StandIns}

-- what the runner told, or one of the answers that stand in
abbrev pub left_of : EndKind → Option Finished → StandIns → Left
left_of kind.Done None ins = record { answer = None; session = None; fail = None; made = 0; finished = 0 }
left_of kind.Done (Some told) ins =
    record {
      answer = told.answer;
      session = told.session;
      fail = told.fail;
      made = told.made;
      finished = told.finished;
    }
left_of kind.Memory told ins = record { answer = ins.memory; session = None; fail = None; made = 0; finished = 0 }
left_of kind.JournalFull told ins = record { answer = ins.full; session = None; fail = None; made = 0; finished = 0 }

abbrev pub end_what : ℕ → EndKind → Left → What
end_what run kind left = End run kind (status_in left.answer) (length_in left.answer) left.made left.finished

-- the run may end so: one run less is unfinished then, and what it leaves may be
pub record CanEnd (past : List Entry) (lane run : ℕ) (kind : EndKind) (left : Left) : Type 0 where
  pub bounded : IfSome left.answer IsBounded
  pub session : IsSessionIn left.session
  pub timely : is_open past run ≡ true
  pub numbered : (0 < run) × (run ≤ drawn past)
  pub fewer : length (unfinished (with_lane lane (end_what run kind left) ∷ past)) + 1 ≡ length (unfinished past)
