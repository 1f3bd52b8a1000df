-- What something does: it changes a state, and gives a value or ends.
use Rattle.std.specs.Prelude.{◌≡◌, ◌≢◌, None, Result, Ok, Err}
use Rattle.vb_value.specs.declared.fault.VbError.{VbError}
use Rattle.vb_meaning.specs.declared.cause.Cause.TheVariants.{Language}
use Rattle.vb_meaning.specs.declared.stop.Stop.{Stop}
use Rattle.vb_meaning.specs.declared.stop.Stop.TheVariants as stop

-- a value with the state that is left, or why there is none with the state that is left
pub data Step (S A : Type 0) : Type 0 where
  Returns : A → S → Step S A
  Ends : Stop → S → Step S A

-- the state that a step leaves, whether it gives a value or ends
abbrev pub state_of : {S A : Type 0} → Step S A → S
state_of (Returns value s) = s
state_of (Ends why s) = s

-- something that may be done in a state
abbrev pub Run : Type 0 → Type 0 → Type 0
Run S A = S → Step S A

-- what is done with the value of a step, if it has one
abbrev pub and_then : {S A B : Type 0} → Step S A → (A → Run S B) → Step S B
and_then (Returns value s) next = next value s
and_then (Ends why s) next = Ends why s

-- one after the other, where the second needs the value of the first
infixl 10 ◌>>=◌
abbrev pub ◌>>=◌ : {S A B : Type 0} → Run S A → (A → Run S B) → Run S B
first >>= next = λ s. and_then (first s) next

-- one after the other
infixl 10 ◌>>◌
abbrev pub ◌>>◌ : {S A B : Type 0} → Run S A → Run S B → Run S B
first >> second = first >>= (λ _. second)

-- a value, and no change
abbrev pub pure : {S A : Type 0} → A → Run S A
pure value = Returns value

-- an end, and no change
abbrev pub ends : {S A : Type 0} → Stop → Run S A
ends why = Ends why

-- an error of the language as a stop
abbrev pub error_stop : VbError → Stop
error_stop error = stop.Error (Language error.number) None

-- an error of the language; the statement around gives it its line
abbrev pub fails : {S A : Type 0} → VbError → Run S A
fails error = Ends (error_stop error)

-- an answer with its error as a stop
abbrev pub raising : {A : Type 0} → Result A VbError → Result A Stop
raising (Ok value) = Ok value
raising (Err error) = Err (error_stop error)

-- an answer as a step that changes nothing
abbrev pub came : {S A : Type 0} → Result A Stop → Run S A
came (Ok value) = Returns value
came (Err why) = Ends why

-- what an operator, a conversion or a function answers
abbrev pub given : {S A : Type 0} → Result A VbError → Run S A
given answer = came (raising answer)

-- How a call shows a step: what it answers and the state that it leaves are that step's. Nothing is said of a call
-- that ran out of memory.
abbrev pub Ran : {S A : Type 0} → Step S A → Result A Stop → S → Type 0
Ran step (Ok value) new = step ≡ Returns value new
Ran step (Err why) new = why ≢ stop.Memory → step ≡ Ends why new
