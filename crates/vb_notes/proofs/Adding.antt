-- Calls that add to a list, one behind the other.
use Rattle.std.proofs.Common.{◌≡◌, List, ◌++◌, Result, Ok, Err, sym, ap, ◌∙◌, append_assoc}
use Rattle.vb_value.specs.declared.memory.Memory.{Memory}
use Rattle.vb_value.specs.Outcome.{Adds}

-- what is added last, behind what was added before
pub adds_more : {T A : Type 0} (result : Result T Memory) (old middle new first more whole : List A)
    → middle ≡ old ++ first → whole ≡ first ++ more → Adds result middle new more → Adds result old new whole
adds_more (Ok done) old middle new first more whole before all added = added ∙ ap (λ l. l ++ more) before
    ∙ append_assoc old first more ∙ ap (λ l. old ++ l) (sym all)
adds_more (Err stop) old middle new first more whole before all added = tt
