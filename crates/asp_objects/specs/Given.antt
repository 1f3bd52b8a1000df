-- What a member of a page's objects answers, and how it takes its arguments.
use Rattle.std.specs.Prelude.{ℕ, suc, nat_lt, ℤ, pos, Bool, if◌then◌else◌, List, slice_get}
use Rattle.std.specs.Prelude.{Option, Some, None, Result, Ok, Err}
use Rattle.vb_value.specs.declared.fault.VbError.{VbError}
use Rattle.vb_value.specs.declared.value.Value.{Value, Str, Long}
use Rattle.vb_value.specs.Conversions.{to_str_of, to_long_of, to_bool_of}
use Rattle.vb_value.specs.Errors.{out_of_range, overflow}
use Rattle.vb_syntax.specs.declared.act.AskStop.{AskStop}
use Rattle.vb_syntax.specs.declared.act.AskStop.TheVariants as why
use Rattle.vb_syntax.specs.declared.act.Given.{Given}
use Rattle.vb_syntax.specs.declared.act.Given.TheVariants as given

-- what a member answers that changes nothing: what it gives, or why it gives nothing
abbrev pub Answer : Type 0
Answer = Result Given AskStop

-- an error of the language as an answer
abbrev pub failed : {T : Type 0} → VbError → Result T AskStop
failed error = Err (why.Error error.number)

-- a value, and a number as a Long; Overflow where it is none
abbrev pub value : Value → Answer
value what = Ok (given.Value what)

abbrev pub count : ℕ → Answer
count number = if nat_lt 2147483647 number then failed overflow else value (Long (pos number))

-- the answer of a conversion or a function
abbrev pub raised : {T : Type 0} → Result T VbError → Result T AskStop
raised (Ok value) = Ok value
raised (Err error) = failed error

-- what is made of an answer that is no stop
abbrev pub and_then : {T U : Type 0} → Result T AskStop → (T → Result U AskStop) → Result U AskStop
and_then (Ok value) next = next value
and_then (Err stop) next = Err stop

-- a value as a text, as a Long and as a Boolean
abbrev pub text_in : Value → Result (List ℕ) AskStop
text_in value = raised (to_str_of value)

abbrev pub long_in : Value → Result ℤ AskStop
long_in value = raised (to_long_of value)

abbrev pub truth_in : Value → Result Bool AskStop
truth_in value = raised (to_bool_of value)

-- how many places stand before one that is counted from 1; Subscript out of range below that
abbrev pub before_place : ℤ → Result ℕ AskStop
before_place (pos (suc n)) = Ok n
before_place _ = failed out_of_range

-- a text, which has to be there; else Subscript out of range
abbrev pub there : Option (List ℕ) → Answer
there (Some text) = Ok (given.Value (Str text))
there None = failed out_of_range

-- the text at a place that is counted from 1
abbrev pub item_at : List (List ℕ) → ℤ → Answer
item_at items place = and_then (before_place place) (λ before. there (slice_get items before))
