-- The limit on texts, which no function's answer passes. It is our own.
use Rattle.std.specs.Prelude.{ℕ, List, length, nat_le, if◌then◌else◌, Result, Ok, Err}
use Rattle.vb_value.specs.declared.fault.VbError.{VbError}
use Rattle.vb_value.specs.declared.value.Value.{Value, Str}
use Rattle.vb_value.specs.Errors.{out_of_string_space}

-- how many characters a text has at most that a function gives
abbrev pub most_characters : ℕ
most_characters = 1048576

-- a text as what a function gives; Out of string space where it is longer
abbrev pub limited : List ℕ → Result Value VbError
limited text = if nat_le (length text) most_characters then Ok (Str text) else Err out_of_string_space
