use Rattle.std.proofs.Common.{◌≡◌, Bool, true, false, ◌&&◌, refl, sym, ◌∙◌}
use Rattle.asp_desk.specs.Hands.{rules_at}
use Rattle.asp_serve.proofs.Collecting.{halted_hinders, looks_work}
use Rattle.asp_serve.proofs.working.rest_free.Goals as goal

first_of_two : (a b : Bool) → a && b ≡ true → a ≡ true
first_of_two true b both = refl
first_of_two false b both = absurd cc

pub returns-then-is_over-clause-err : goal.returns-then-is_over-clause-err
returns-then-is_over-clause-err g c = halted_hinders (rules_at g.R.Runner.meaning c.args.host.now)
    c.look-looked.result c.args.hand.now.lane c.look-looked.new.hand.lane c.look-looked.ensures.turn
    (first_of_two _ _ (sym c.is_over.ensures ∙ c.if-is_over.true))

pub returns-clause-ok : goal.returns-clause-ok
returns-clause-ok g c = looks_work (rules_at g.R.Runner.meaning c.args.host.now) c.look-looked.result
    c.args.hand.now.lane c.look-looked.new.hand.lane c.look-looked.ensures.turn
