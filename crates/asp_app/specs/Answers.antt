-- What a call of the Application object answers. All is our own.
use Rattle.std.specs.Prelude.{ℕ, Bool, true, false, Option, Some, None, Result, Ok, Err}
use Rattle.vb_value.specs.declared.application.AppCall.{AppCall}
use Rattle.vb_value.specs.declared.application.AppCall.TheVariants as call
use Rattle.vb_value.specs.declared.application.AppReply.{AppReply}
use Rattle.asp_job.specs.Application.{AppState, apply, blocker_of}
use Rattle.asp_app.specs.declared.stop.AppStop.{AppStop}
use Rattle.asp_app.specs.declared.stop.AppStop.TheVariants as stop

-- the reply, unless a run keeps the call out
abbrev pub answer_unless : Option ℕ → AppReply → Result AppReply AppStop
answer_unless (Some holder) reply = Err (stop.Blocked holder)
answer_unless None reply = Ok reply

-- what a call of a run answers under the rule
abbrev pub answer_of : Bool → AppState → ℕ → AppCall → Result AppReply AppStop
answer_of strict state run call = answer_unless (blocker_of strict state run call) (apply state run call).1

-- whether a call may run out of memory
abbrev pub takes_memory : AppCall → Bool
takes_memory call.RemoveAll = false
takes_memory call.Count = false
takes_memory call.Lock = false
takes_memory call.Unlock = false
takes_memory _ = true
