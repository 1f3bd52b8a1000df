-- Why calls are refused, where the refusal of an event is theirs.
use Rattle.asp_core.specs.declared.stop.AdmitStop.{AdmitStop}
use Rattle.asp_core.specs.declared.stop.AdmitStop.TheVariants as admit
use Rattle.asp_core.specs.declared.stop.AppStepStop.{AppStepStop}
use Rattle.asp_core.specs.declared.stop.AppStepStop.TheVariants as step
use Rattle.asp_core.specs.declared.stop.BeginStop.{BeginStop}
use Rattle.asp_core.specs.declared.stop.BeginStop.TheVariants as begin
use Rattle.asp_core.specs.declared.stop.EventStop.{EventStop}
use Rattle.asp_core.specs.declared.stop.EventStop.TheVariants as event

abbrev pub admit_stop : EventStop → AdmitStop
admit_stop (event.JournalFull full) = admit.JournalFull full
admit_stop event.Memory = admit.Memory

abbrev pub begin_stop : EventStop → BeginStop
begin_stop (event.JournalFull full) = begin.JournalFull full
begin_stop event.Memory = begin.Memory

abbrev pub app_stop : EventStop → AppStepStop
app_stop (event.JournalFull full) = step.JournalFull full
app_stop event.Memory = step.Memory
