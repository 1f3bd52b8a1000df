use Rattle.std.proofs.Common.{Ok, Some, ap, sym, subst, unwrap_or, ◌∙◌}
use Rattle.asp_desk.specs.Calls.{Halts, Stops}
use Rattle.asp_desk.specs.Hands.{rules_at}
use Rattle.asp_serve.specs.Visits.{Ends, MayFail}
use Rattle.asp_serve.proofs.Visiting.{early_later, later_turn, unstopped_ends}
use Rattle.asp_serve.proofs.visits.Visits.stop.Goals as goal

pub returns-in-Ok-clause-ends : goal.returns-in-Ok-clause-ends
returns-in-Ok-clause-ends g c =
    let rules = rules_at g.R.Runner.meaning c.args.host.now in
    let a = c.args.hand.now.lane in
    let b = c.stop.new.hand.lane in
    let later = later_turn (Stops rules a.number) a b (Ok c.in-Ok.field-0) c.in-Ok.ensures.turn in
    record {
      later = later;
      cause = early_later (MayFail g.W.Wire.faults) rules a b c.args.early later c.requires.cause;
    }

pub returns-in-Err-clause-ends : goal.returns-in-Err-clause-ends
returns-in-Err-clause-ends g c =
    let rules = rules_at g.R.Runner.meaning c.args.host.now in
    let a = c.args.hand.now.lane in
    let b = c.stop.new.hand.lane in
    let d = c.halt.new.hand.lane in
    let halted = later_turn (Halts b.number) b d tt c.halt.ensures.turn in
    let ends = unstopped_ends (MayFail g.W.Wire.faults) rules (Unit {0}) a b d c.args.early c.in-Err.stop c.in-Err.ensures.turn
    halted c.requires.cause in
    subst (λ made. Ends (MayFail g.W.Wire.faults) rules a (Some made) d)
    (sym (c.unwrap_or.ensures ∙ ap (unwrap_or c.args.early) c.from.ensures)) ends
