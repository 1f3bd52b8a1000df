-- Errors, what Err holds of them, and what On Error makes of them (VBScript 5.6 language reference, "Err Object" and
-- "On Error Statement").
use Rattle.std.specs.Prelude.{ℕ, ◌-◌, nat_lt, ℤ, pos, Bool, if◌then◌else◌, List, [], Some, None, codes}
use Rattle.vb_value.specs.declared.limit.LimitKind.TheVariants.{Ticks, Depth}
use Rattle.vb_value.specs.ErrorText.{error_text_of}
use Rattle.vb_meaning.specs.declared.cause.Cause.{Cause}
use Rattle.vb_meaning.specs.declared.cause.Cause.TheVariants as cause
use Rattle.vb_meaning.specs.declared.cause.Raised.{Raised}
use Rattle.vb_meaning.specs.declared.stop.Stop.{Stop}
use Rattle.vb_meaning.specs.declared.stop.Stop.TheVariants as stop
use Rattle.vb_meaning.specs.World.{World}
use Rattle.vb_meaning.specs.State.{State, Does, with_frame}
use Rattle.vb_meaning.specs.Step.{Step, Returns, Ends, Run}

-- where the language's own errors come from
abbrev pub language_source : List ℕ
language_source = codes "Microsoft VBScript runtime error"

-- an error of the language with its source and its description
abbrev pub language_error : ℤ → Raised
language_error number =
    record { number = number; source = language_source; description = error_text_of number }

-- what an error says
abbrev pub raised_by : Cause → Raised
raised_by (cause.Language number) = language_error number
raised_by (cause.Raised raised) = raised

-- what Err holds where there is no error
abbrev pub no_error : Raised
no_error = record { number = pos 0; source = []; description = [] }

-- Err holds that
abbrev pub with_err : Raised → World → World
with_err raised world = record world { err = raised }

-- Err.Clear
abbrev pub cleared : World → World
cleared world = with_err no_error world

-- an error or a limit that has no line yet arose in this one
abbrev pub stop_in : ℕ → Stop → Stop
stop_in line (stop.Error what None) = stop.Error what (Some line)
stop_in line (stop.Error what (Some at)) = stop.Error what (Some at)
stop_in line (stop.Limit kind None) = stop.Limit kind (Some line)
stop_in line (stop.Limit kind (Some at)) = stop.Limit kind (Some at)
stop_in line stop.Page = stop.Page
stop_in line (stop.Wants call) = stop.Wants call
stop_in line stop.Memory = stop.Memory

-- a step in a line
abbrev pub in_line : {S A : Type 0} → ℕ → Step S A → Step S A
in_line line (Returns value s) = Returns value s
in_line line (Ends why s) = Ends (stop_in line why) s

-- Under On Error Resume Next an error only changes Err, and what `instead` says is given. Else it stays.
abbrev pub resumed : {E A : Type 0} → A → Step (State E) A → Step (State E) A
resumed instead (Returns value s) = Returns value s
resumed instead (Ends (stop.Error what line) s) =
    if s.world.frame.resumes then Returns instead (record s { world = with_err (raised_by what) s.world })
    else Ends (stop.Error what line) s
resumed instead (Ends (stop.Limit kind line) s) = Ends (stop.Limit kind line) s
resumed instead (Ends stop.Page s) = Ends stop.Page s
resumed instead (Ends (stop.Wants call) s) = Ends (stop.Wants call) s
resumed instead (Ends stop.Memory s) = Ends stop.Memory s

-- On Error Resume Next and On Error GoTo 0
abbrev pub on_error : Bool → World → World
on_error resumes world = cleared (with_frame (λ frame. record frame { resumes = resumes }) world)

-- one tick: a statement, a loop's turn or a procedure begins
unfoldable pub tick : {E : Type 0} → Does E (Unit {0})
tick s = if nat_lt 0 s.ticks then Returns tt (record s { ticks = s.ticks - 1 }) else Ends (stop.Limit Ticks None) s

-- why one construct more is too many: Out of stack space, and the limit Depth while a terminator runs
abbrev pub depth_stop : World → Stop
depth_stop world = if world.terminates then stop.Limit Depth None else stop.Error (cause.Language (pos 28)) None

-- one construct too many is begun
abbrev pub too_deep : {A : Type 0} → Run World A
too_deep world = Ends (depth_stop world) world
