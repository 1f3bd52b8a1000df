-- A sink in memory: the bytes it holds, the room it has left, and which calls fail.
use Rattle.std.specs.Prelude.{ℕ, ◌-◌, Bool, nat_eq, nat_lt, ◌&&◌, ◌||◌}
use Rattle.std.specs.Prelude.{if◌then◌else◌, List, ◌++◌, length, take, Result, Ok, Err}
use Rattle.asp_io.specs.declared.fault.Failed.{Failed}
use Rattle.asp_io.specs.declared.fault_plan.FaultPlan.{FaultPlan}
use Rattle.asp_io.specs.FaultPlan.{after_call, after_fault, fails_next}
use Rattle.asp_io.specs.Faults.{failure}
use Rattle.asp_io.specs.Source.{moved}

-- what a sink in memory is
pub record SinkState : Type 0 where
  pub held : List ℕ
  pub room : ℕ
  pub plan : FaultPlan

-- whether a piece has bytes that find no room
abbrev pub overflows : SinkState → List ℕ → Bool
overflows sink piece = nat_eq sink.room 0 && nat_lt 0 (length piece)

-- what a write answers: a listed call fails, and one that finds no room
abbrev pub write_answer : SinkState → List ℕ → Result ℕ Failed
write_answer sink piece =
    if fails_next sink.plan || overflows sink piece then Err failure else Ok (moved (length piece) sink.room)

-- what a write that answers so leaves
abbrev pub after_write : SinkState → List ℕ → Result ℕ Failed → SinkState
after_write sink piece (Ok count) =
    record { held = sink.held ++ take count piece; room = sink.room - count; plan = after_call sink.plan }
after_write sink piece (Err _) = record sink {
  plan = if fails_next sink.plan then after_call sink.plan else after_fault (after_call sink.plan);
}
