-- How faults of values are told by calls on the data of a page.
use Rattle.std.specs.Prelude.{Result, Ok, Err}
use Rattle.vb_value.specs.declared.fault.VbError.{VbError}
use Rattle.vb_value.specs.declared.fault.VbFault.{VbFault}
use Rattle.vb_value.specs.declared.fault.VbFault.TheVariants as fault
use Rattle.vb_heap.specs.declared.fault.HeapStop.{HeapStop}
use Rattle.vb_heap.specs.declared.fault.HeapStop.TheVariants.{Error, Memory}

-- a fault of a call on values, as one on the data of a page
abbrev pub stop_of : VbFault → HeapStop
stop_of (fault.Error number) = Error number
stop_of fault.Memory = Memory

-- an error of the language
abbrev pub refused : VbError → HeapStop
refused error = Error error.number

-- what is made of the value that an answer has; an error stays
abbrev pub and_then : {T U : Type 0} → Result T VbError → (T → Result U HeapStop) → Result U HeapStop
and_then (Ok given) next = next given
and_then (Err error) next = Err (refused error)
