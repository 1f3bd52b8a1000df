-- Stops of calls below as stops in a script; none has a line yet.
use Rattle.std.specs.Prelude.{None}
use Rattle.vb_value.specs.declared.fault.VbFault.{VbFault}
use Rattle.vb_value.specs.declared.fault.VbFault.TheVariants as fault
use Rattle.vb_syntax.specs.declared.act.AskStop.{AskStop}
use Rattle.vb_syntax.specs.declared.act.AskStop.TheVariants as why
use Rattle.vb_heap.specs.declared.fault.HeapStop.{HeapStop}
use Rattle.vb_heap.specs.declared.fault.HeapStop.TheVariants as heap
use Rattle.vb_meaning.specs.declared.cause.Cause.TheVariants.{Language}
use Rattle.vb_meaning.specs.declared.stop.Stop.{Stop}
use Rattle.vb_meaning.specs.declared.stop.Stop.TheVariants as stop

-- why a call that makes a value did not make it
abbrev pub fault_stop : VbFault → Stop
fault_stop (fault.Error number) = stop.Error (Language number) None
fault_stop fault.Memory = stop.Memory

-- why a call on the data of the page gave nothing
abbrev pub heap_stop : HeapStop → Stop
heap_stop (heap.Error number) = stop.Error (Language number) None
heap_stop (heap.Limit kind) = stop.Limit kind None
heap_stop heap.Memory = stop.Memory

-- why an environment gave nothing
abbrev pub ask_stop : AskStop → Stop
ask_stop (why.Error number) = stop.Error (Language number) None
ask_stop why.PageStop = stop.Page
ask_stop (why.Limit kind) = stop.Limit kind None
ask_stop why.Memory = stop.Memory
