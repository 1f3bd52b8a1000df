-- Answers for which memory does not run out.
use Rattle.std.proofs.Common.{ℕ, ℤ, pos, negsuc, suc, zero, nat_lt, Bool, true, false}
use Rattle.std.proofs.Common.{if◌then◌else◌, List, Option, Some, None, Result, Ok, Err}
use Rattle.vb_value.specs.declared.fault.VbError.{VbError}
use Rattle.vb_value.specs.declared.value.Value.{Value}
use Rattle.vb_value.specs.Conversions.{to_bool_of, to_long_of, to_str_of}
use Rattle.vb_syntax.specs.declared.act.AskStop.{AskStop}
use Rattle.vb_syntax.specs.declared.act.AskStop.TheVariants as why
use Rattle.asp_objects.specs.Given as answers
use Rattle.asp_objects.specs.Said.{SaidOf, told, using_it}

-- an answer, or a stop for another reason than that memory ran out
abbrev pub Fine : {T : Type 0} → Result T AskStop → Type 0
Fine (Ok value) = Unit {0}
Fine (Err (why.Error number)) = Unit {0}
Fine (Err why.PageStop) = Unit {0}
Fine (Err (why.Limit kind)) = Unit {0}
Fine (Err why.Memory) = ⊥

-- the same of what is said, with what the objects are then
abbrev pub FineSaid : {E : Type 0} → SaidOf E → Type 0
FineSaid (Ok said) = Unit {0}
FineSaid (Err (why.Error number, left)) = Unit {0}
FineSaid (Err (why.PageStop, left)) = Unit {0}
FineSaid (Err (why.Limit kind, left)) = Unit {0}
FineSaid (Err (why.Memory, left)) = ⊥

-- ---- answers

pub raised_fine : {T : Type 0} (found : Result T VbError) → Fine (answers.raised found)
raised_fine (Ok value) = tt
raised_fine (Err error) = tt

pub then_fine : {T U : Type 0} (found : Result T AskStop) (next : T → Result U AskStop) → Fine found
    → ((value : T) → Fine (next value)) → Fine (answers.and_then found next)
then_fine (Ok value) next fine goes = goes value
then_fine (Err (why.Error number)) next fine goes = tt
then_fine (Err why.PageStop) next fine goes = tt
then_fine (Err (why.Limit kind)) next fine goes = tt
then_fine (Err why.Memory) next fine goes = fine

pub either_fine : {T : Type 0} (test : Bool) (first second : Result T AskStop) → Fine first → Fine second
    → Fine (if test then first else second)
either_fine true first second one other = one
either_fine false first second one other = other

pub text_fine : (value : Value) → Fine (answers.text_in value)
text_fine value = raised_fine (to_str_of value)

pub long_fine : (value : Value) → Fine (answers.long_in value)
long_fine value = raised_fine (to_long_of value)

pub truth_fine : (value : Value) → Fine (answers.truth_in value)
truth_fine value = raised_fine (to_bool_of value)

pub before_fine : (place : ℤ) → Fine (answers.before_place place)
before_fine (pos zero) = tt
before_fine (pos (suc n)) = tt
before_fine (negsuc n) = tt

pub there_fine : (text : Option (List ℕ)) → Fine (answers.there text)
there_fine (Some text) = tt
there_fine None = tt

pub item_fine : (items : List (List ℕ)) (place : ℤ) → Fine (answers.item_at items place)
item_fine items place = then_fine (answers.before_place place) _ (before_fine place) (λ before. there_fine _)

pub count_fine : (number : ℕ) → Fine (answers.count number)
count_fine number = either_fine (nat_lt 2147483647 number) _ _ tt tt

-- ---- what is said

pub told_fine : {E : Type 0} (answer : answers.Answer) (objects : E) → Fine answer → FineSaid (told answer objects)
told_fine (Ok what) objects fine = tt
told_fine (Err (why.Error number)) objects fine = tt
told_fine (Err why.PageStop) objects fine = tt
told_fine (Err (why.Limit kind)) objects fine = tt
told_fine (Err why.Memory) objects fine = fine

pub using_fine : {T E : Type 0} (found : Result T AskStop) (next : T → E → SaidOf E) (objects : E) → Fine found
    → ((value : T) → FineSaid (next value objects)) → FineSaid (using_it found next objects)
using_fine (Ok value) next objects fine goes = goes value
using_fine (Err (why.Error number)) next objects fine goes = tt
using_fine (Err why.PageStop) next objects fine goes = tt
using_fine (Err (why.Limit kind)) next objects fine goes = tt
using_fine (Err why.Memory) next objects fine goes = fine
