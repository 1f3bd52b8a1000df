use Rattle.std.proofs.Common.{◌≡◌, ℕ, true, false, Option, Some, None, sym, ◌∙◌, refl}
use Rattle.std.specs.Prelude.{Bool, not}
use Rattle.std.specs.Option.{is_some}
use Rattle.http_front.proofs.Utf8.{text_goes_on, fault_goes_on, fault_is_final}
use Rattle.http_front.proofs.open_target.may_become_text.Goals as goal

is_none : (o : Option ℕ) (b : Bool) → is_some o ≡ not b → b ≡ true → o ≡ None
is_none (Some n) true e is = cc
is_none (Some n) false e is = cc
is_none None b e is = refl

is_some_of : (o : Option ℕ) (b : Bool) → is_some o ≡ not b → b ≡ false → (n : ℕ) × (o ≡ Some n)
is_some_of (Some n) b e is = (n, refl)
is_some_of None true e is = absurd cc
is_some_of None false e is = absurd cc

pub returns-in-Ok-clause-open : goal.returns-in-Ok-clause-open
returns-in-Ok-clause-open c is = text_goes_on c.args.text.now c.in-Ok.ensures.cases.1

pub returns-in-Err-clause-open : goal.returns-in-Err-clause-open
returns-in-Err-clause-open c is =
    fault_goes_on c.args.text.now _ c.in-Err.ensures.cases.1
    (sym c.in-Err.ensures.fault ∙ sym c.error_len.ensures ∙ is_none c.error_len.result c.is_none.result c.is_none.ensures is)

pub returns-in-Err-clause-shut : goal.returns-in-Err-clause-shut
returns-in-Err-clause-shut c is =
    let some = is_some_of c.error_len.result c.is_none.result c.is_none.ensures is in
    fault_is_final c.args.text.now _ some.0 c.in-Err.ensures.cases.1
    (sym c.in-Err.ensures.fault ∙ sym c.error_len.ensures ∙ some.1)
