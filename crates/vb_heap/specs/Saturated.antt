-- Places that the code counts, and values that it finds.
use Rattle.std.specs.Prelude.{ℕ, ◌-◌, ◌^◌, min, nat_lt, if◌then◌else◌, Option, Some, None, Result, Ok, Err}
use Rattle.std.specs.Option.{option_map}
use denote.Ref.{Bor}
use Rattle.vb_value.specs.declared.fault.VbError.{VbError}
use Rattle.vb_value.specs.declared.value.Value.{Value}
use Rattle.vb_value.specs.Weight.{weight_of}

-- a place, for which 2^64 - 1 stands where it is greater
abbrev pub saturated : Option ℕ → Option ℕ
saturated place = option_map (λ at. min at (2 ^ 64 - 1)) place

-- a place, if it is one of so many
abbrev pub counted : ℕ → Option ℕ → Option ℕ
counted count (Some at) = if nat_lt at count then Some at else None
counted count None = None

-- an answer with what it refers to
abbrev pub result_now : {T E : Type 0} → Result (Bor T) E → Result T E
result_now (Ok reference) = Ok reference.now
result_now (Err error) = Err error

-- what a value that an answer has weighs; an error stays
abbrev pub weight_told : Result Value VbError → Result ℕ VbError
weight_told (Ok value) = Ok (weight_of value)
weight_told (Err error) = Err error
