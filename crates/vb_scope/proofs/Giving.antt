-- What a call adds, said in another way.
use Rattle.std.proofs.Common.{◌≡◌, ◌∙◌, List, [], ◌∷◌, ◌++◌, Result, Ok, Err, ap}
use Rattle.vb_value.specs.declared.memory.Memory.{Memory}
use Rattle.vb_value.specs.Outcome.{Adds, Changes}

-- a call that adds an item adds the list that is that item
pub adds_one : {T A : Type 0} (result : Result T Memory) (old new : List A) (item : A) (items : List A)
    → Changes result old new (old ++ item ∷ []) → item ∷ [] ≡ items → Adds result old new items
adds_one (Ok done) old new item items changed same = changed ∙ ap (λ l. old ++ l) same
adds_one (Err stop) old new item items changed same = tt
