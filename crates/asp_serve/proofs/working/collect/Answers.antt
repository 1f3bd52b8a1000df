use Rattle.std.proofs.Common.{sym, ◌∙◌}
use Rattle.asp_desk.specs.Hands.{rules_at}
use Rattle.asp_serve.proofs.Collecting.{collected, free_held, kept_back}
use Rattle.asp_serve.proofs.working.collect.Goals as goal

pub returns-in-Ok-clause-some : goal.returns-in-Ok-clause-some
returns-in-Ok-clause-some g c = (
  c.collect.ensures.run
      ∙ free_held c.args.hand.now.run c.run.result c.run.ensures (sym c.is_some.ensures ∙ c.if-is_some.false),
  collected (rules_at g.R.Runner.meaning c.args.host.now) _ _ _ _ c.in-Ok.ensures.turn,
)

pub returns-in-Err-clause-none : goal.returns-in-Err-clause-none
returns-in-Err-clause-none g c = kept_back (rules_at g.R.Runner.meaning c.args.host.now) _ _ _ _ c.in-Err.ensures.turn
