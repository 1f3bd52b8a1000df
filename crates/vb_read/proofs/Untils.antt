-- Loops that read up to their last turn.
use Rattle.std.proofs.Common.{◌≡◌, List, [], ◌∷◌, ◌++◌, Ok, Err, refl, sym, ap, ◌∙◌, append_assoc}
use Rattle.std.specs.declared.ops.ControlFlow.TheVariants.{Continue}
use Rattle.vb_syntax.specs.grammar.Rules.{Tokens}
use Rattle.vb_read.specs.Reader as reader
use Rattle.vb_read.specs.Reader.{Reader, Outcome, Turn, and_then, then_until}
use Rattle.vb_read.proofs.Until.{OnwardMoves, until_step}

module _ {A B : Type 0} (turn : Reader (Turn A B)) (onward : OnwardMoves turn) where
  module _ {C : Type 0} (f : List A → B → C) (whole : Outcome C) (found : List A) (tokens rest : Tokens) where
    abbrev Left : List A → Tokens → Type 0
    Left done from = whole ≡ and_then (reader.until turn from) (λ more. reader.pure (f (done ++ more.0) more.1))

    -- a turn that goes on
    pub until_more : (new : List A) (x : A) → Left found tokens → turn tokens ≡ Ok (Continue x, rest)
        → new ≡ found ++ x ∷ [] → Left new rest
    until_more new x inv is e = inv
        ∙ ap (λ (o : Outcome (List A × B)). and_then o (λ more. reader.pure (f (found ++ more.0) more.1)))
        (until_step turn onward tokens ∙ ap (λ (o : Outcome (Turn A B)). and_then o (then_until (reader.until turn)))
        is)
        ∙ joined (reader.until turn rest)
      where
        joined : (o : Outcome (List A × B))
            → and_then (and_then o (λ w. reader.pure {A = List A × B} (x ∷ w.0, w.1)))
            (λ more. reader.pure (f (found ++ more.0) more.1))
            ≡ and_then o (λ more. reader.pure (f (new ++ more.0) more.1))
        joined (Ok q) = ap (λ (l : List A). Ok (f l q.0.1, q.1)) (sym (append_assoc found (x ∷ []) q.0.0)
            ∙ ap (λ l. l ++ q.0.0) (sym e))
        joined (Err w) = refl
