-- Calls that print, one behind the other.
use Rattle.std.proofs.Common.{◌≡◌, List, [], ◌∷◌, ◌++◌, Result, Ok, Err, refl, sym, ap, ◌∙◌, append_assoc}
use Rattle.vb_value.specs.declared.memory.Memory.{Memory}
use Rattle.vb_syntax.specs.declared.expression.Step.{Step}
use Rattle.vb_syntax.specs.grammar.Rules.{Tokens}
use Rattle.vb_syntax.specs.grammar.SimpleStatements.{is_group, ends_in_group}
use Rattle.vb_value.specs.Outcome.{Adds}

-- what is added last, behind what was added before
pub adds_more : {T : Type 0} (result : Result T Memory) (old middle new first more whole : Tokens)
    → middle ≡ old ++ first → whole ≡ first ++ more → Adds result middle new more → Adds result old new whole
adds_more (Ok done) old middle new first more whole before all added = added ∙ ap (λ l. l ++ more) before
    ∙ append_assoc old first more ∙ ap (λ l. old ++ l) (sym all)
adds_more (Err stop) old middle new first more whole before all added = tt

-- what a path ends in
pub ends_at_last : (front : List Step) (last : Step) → ends_in_group (front ++ last ∷ []) ≡ is_group last
ends_at_last [] last = refl
ends_at_last (x ∷ []) last = refl
ends_at_last (x ∷ y ∷ front) last = ends_at_last (y ∷ front) last
