-- When a call to the outside may answer that it failed: only where the count of faults has risen in it.
use Rattle.std.specs.Prelude.{◌≡◌, ℕ, ◌+◌, ◌-◌, ◌^◌, ◌<◌, ◌≤◌, min, Result, Err}
use Rattle.std.specs.declared.io.ErrorKind.{ErrorKind}
use Rattle.std.specs.declared.io.ErrorKind.TheVariants.{OutOfMemory}
use Rattle.asp_io.specs.declared.fault.Failed.{Failed}
use Rattle.asp_io.specs.declared.fault.IoStop.{IoStop}
use Rattle.asp_io.specs.declared.fault.IoStop.TheVariants.{Failed as Fault, Memory}

-- one more than the count, unless it is at its end
abbrev pub counted : ℕ → ℕ
counted count = min (count + 1) (2 ^ 64 - 1)

-- the count has risen, or stands at its end
abbrev pub HasRisen : ℕ → ℕ → Type 0
HasRisen old new = counted old ≤ new

-- The count has not fallen, and the call answers this fault only where it has risen.
pub record HasCause {T E : Type 0} (fault : E) (old new : ℕ) (result : Result T E) : Type 0 where
  pub later : old ≤ new
  pub within : old < 2 ^ 64 → new < 2 ^ 64
  pub failed : result ≡ Err fault → HasRisen old new

-- the one value of its type
abbrev pub failure : Failed
failure = record {}

-- what an error of std is to a call of the outside: out of memory, by its kind, and else a fault
abbrev pub stop_of : ErrorKind → IoStop
stop_of OutOfMemory = Memory
stop_of _ = Fault
