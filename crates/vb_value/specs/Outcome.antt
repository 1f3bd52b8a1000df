-- Words for the result of a call that may run out of memory, and for what it has done. None of them says when it may
-- run out. No other crate has words of its own for this.
use Rattle.std.specs.Prelude.{◌≡◌, ◌≢◌, ℕ, List, ◌++◌, Option, MatchOption, Result, Ok, Err}
use Rattle.vb_value.specs.declared.memory.Memory.{Memory}
use Rattle.vb_value.specs.declared.stop.Stop.{Stop}
use Rattle.vb_value.specs.declared.stop.Stop.TheVariants as stop

-- The call gives this value, unless it runs out of memory.
abbrev pub Gives : {T : Type 0} → Result T Memory → T → Type 0
Gives (Ok given) value = given ≡ value
Gives (Err stop) value = Unit {0}

-- The call answers as its definition does, value and fault alike, unless it answers `memory`.
abbrev pub Answers : {T E : Type 0} → Result T E → E → Result T E → Type 0
Answers (Ok given) memory answer = answer ≡ Ok given
Answers (Err stop) memory answer = stop ≢ memory → answer ≡ Err stop

-- The call makes `changed` of `old`. A refusal, for whatever cause, leaves `old`.
abbrev pub Changes : {T E S : Type 0} → Result T E → S → S → S → Type 0
Changes (Ok given) old new changed = new ≡ changed
Changes (Err stop) old new changed = new ≡ old

-- The call adds these items at the end. If it runs out of memory, it may have added some of them.
abbrev pub Adds : {T A : Type 0} → Result T Memory → List A → List A → List A → Type 0
Adds (Ok done) old new items = new ≡ old ++ items
Adds (Err stop) old new items = Unit {0}

-- The call runs as its definition does: it gives the value and leaves the state, or stops with the failure that
-- `failure` makes of its fault and of the state that it leaves. Where `failure` makes none, as when memory runs out,
-- nothing is said.
abbrev pub Runs : {T E S F : Type 0} → Result T E → (E → S → Option F) → S → Result (T × S) F → Type 0
Runs (Ok given) failure new run = run ≡ Ok (given, new)
Runs (Err fault) failure new run = MatchOption (failure fault new) (Unit {0}) (λ failed. run ≡ Err failed)

-- The answer is no fault, or the fact holds of its kind and of its line.
abbrev pub OnFault : {T K : Type 0} → Result T (Stop K) → (K → ℕ → Type 0) → Type 0
OnFault (Ok given) fact = Unit {0}
OnFault (Err (stop.Fault kind line)) fact = fact kind line
OnFault (Err stop.Memory) fact = Unit {0}

-- The stop becomes another: out of memory stays so, and the kinds of a fault are as the fact says, in one line.
abbrev pub Becomes : {K L : Type 0} → Stop K → (K → L → Type 0) → Stop L → Type 0
Becomes (stop.Fault kind line) fact (stop.Fault new at) = fact kind new × (at ≡ line)
Becomes stop.Memory fact stop.Memory = Unit {0}
Becomes _ fact _ = ⊥
