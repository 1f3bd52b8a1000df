-- What a run on its way stands for.
use Rattle.std.specs.Prelude.{◌≡◌, List, [], ◌∷◌, ◌++◌, Option, Some, None, IfSome}
use Rattle.vb_value.specs.declared.application.AppReply.{AppReply}
use Rattle.asp_job.specs.Calls.{IsAppCall}
use Rattle.asp_job.specs.Running.{IsBounded, Phase, Going, Wanting, Over, Dead, IsLeft}
use Rattle.asp_job.specs.Told.{Told, Outcome, Wants, Ends}
use Rattle.asp_site.specs.declared.site.Site.{Site}
use Rattle.asp_run.specs.declared.ended.Came.{Came}
use Rattle.asp_run.specs.declared.ended.Came.TheVariants as came
use Rattle.asp_run.specs.declared.run.At.{At}
use Rattle.asp_run.specs.declared.run.At.TheVariants as at
use Rattle.asp_run.specs.declared.run.PlainRun.{PlainRun}
use Rattle.asp_acts.specs.Running.{does}

-- how far a run came
abbrev pub outcome_of : Came → Outcome
outcome_of (came.Wants call) = Wants call
outcome_of (came.Ends finished) = Ends finished

-- what a run comes to may be told: a call that may be made, or a body that may be answered
abbrev pub MayCome : Came → Type 0
MayCome (came.Wants call) = IsAppCall call
MayCome (came.Ends finished) = IfSome finished.answer IsBounded

-- the replies that were kept, and the one that was heard last
abbrev pub with_heard : List AppReply → Option AppReply → List AppReply
with_heard replies None = replies
with_heard replies (Some reply) = replies ++ reply ∷ []

-- what the run was told
abbrev pub told_of : PlainRun → Told
told_of run = record {
  job = run.job;
  session = run.session;
  is_new = run.is_new;
  cookie = run.cookie;
  replies = with_heard run.replies run.heard;
}

-- what it waits for
abbrev pub phase_at : At → Phase
phase_at at.Going = Going
phase_at at.Wanting = Wanting
phase_at (at.Over finished) = Over
phase_at at.Dead = Dead

-- what is known of a run where it is: while it wants a reply it has heard none, and what it has left is its meaning's
abbrev pub IsAt : Site → PlainRun → At → Type 0
IsAt site run at.Wanting = run.heard ≡ None
IsAt site run (at.Over finished) = (does site (told_of run) ≡ Ends finished) × IsLeft run.job.work finished
IsAt site run _ = Unit {0}

-- the run was told this
pub record Stands (site : Site) (run : PlainRun) (told : Told) : Type 0 where
  pub told_is : told ≡ told_of run
  pub at_is : IsAt site run run.at
