-- What numbers among the arguments count, and what answers hold.
use Rattle.std.specs.Prelude.{ℕ, ◌-◌, Bool, true, ◌==◌, nat_le, if◌then◌else◌, ℤ, pos, negsuc, length}
use Rattle.std.specs.Prelude.{Result, Ok, Err}
use Rattle.std.specs.List.{list_all}
use Rattle.vb_value.specs.declared.fault.VbError.{VbError}
use Rattle.vb_value.specs.declared.value.Array.{Array}
use Rattle.vb_value.specs.declared.value.Value.{Value, Long, Str, Arr', out-Value}
use Rattle.vb_value.specs.declared.value.Value.TheOpen.{Value-F}
use Rattle.vb_value.specs.Errors.{and_then, invalid_call, out_of_string_space}
use Rattle.vb_value.specs.Numbers.{as_long}
use Rattle.vb_value.specs.TextLimit.{most_characters, limited}

-- a number of characters, which is 0 at least
abbrev pub count_of : ℤ → Result ℕ VbError
count_of (pos n) = Ok n
count_of (negsuc less) = Err invalid_call

-- how many characters stand before a place; places count from 1
abbrev pub before_place : ℤ → Result ℕ VbError
before_place (pos place) = if place == 0 then Err invalid_call else Ok (place - 1)
before_place (negsuc less) = Err invalid_call

-- how many are wanted at most: all of them for -1
abbrev pub most_of : ℕ → ℤ → Result ℕ VbError
most_of all (pos n) = Ok n
most_of all (negsuc less) = if less == 0 then Ok all else Err invalid_call

-- a count or a place as a Long
abbrev pub long : ℕ → Result Value VbError
long n = and_then (as_long (pos n)) (λ z. Ok (Long z))

-- whether an item of an array is no text that is too long
abbrev pub is_short : Value → Bool
is_short (Str text) = nat_le (length text) most_characters
is_short value = true

-- whether no item of an array is a text that is too long, at one level of a value
abbrev pub items_short : Value-F Value Array → Bool
items_short (Value-F.Arr array) = list_all is_short array.items
items_short _ = true

-- a value as an answer: Out of string space where it is a text that is too long, or an array with one among its items
abbrev pub answered : Value → Result Value VbError
answered (Str text) = limited text
answered (Arr' bounds fixed shape items) =
    if items_short (out-Value (Arr' bounds fixed shape items)) then Ok (Arr' bounds fixed shape items)
    else Err out_of_string_space
answered value = Ok value

-- an answer within the limit on texts, the same for every function
abbrev pub bounded : Result Value VbError → Result Value VbError
bounded answer = and_then answer answered
