-- What is held while something is done, where that ends without a value.
use Rattle.std.proofs.Common.{◌≡◌, sym, subst, refl}
use Rattle.std.specs.Prelude.{Result, Err}
use Rattle.vb_meaning.specs.declared.stop.Stop.{Stop}
use Rattle.vb_meaning.specs.Places.{letting_go}
use Rattle.vb_meaning.specs.State.{State, Does}
use Rattle.vb_meaning.specs.Step.{Ends, Ran}

module _ {E A : Type 0} (run : Does E A) (s new : State E) where
  -- it ends so, whatever is let go of a value
  pub ended_held : (why : Stop) → run s ≡ Ends why new → letting_go run s ≡ Ends why new
  ended_held why e = rw e refl

  -- and so does the call that shows it
  pub ended_ran : (result : Result A Stop) (why : Stop) → result ≡ Err why → Ran (run s) result new
      → Ran (letting_go run s) result new
  ended_ran result why e ran = subst (λ r. Ran (letting_go run s) r new) (sym e)
      (λ apart. ended_held why (subst (λ r. Ran (run s) r new) e ran apart))
