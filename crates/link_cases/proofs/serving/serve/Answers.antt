use Rattle.std.proofs.Common.{sym, ◌∙◌}
use Rattle.link_cases.proofs.Hands.{free_held}
use Rattle.link_cases.proofs.serving.serve.Goals as goal

pub serve_link-ended-requires-clause-free : goal.serve_link-ended-requires-clause-free
serve_link-ended-requires-clause-free g c =
    free_held c.args.hand.now.run c.run.result c.run.ensures (sym c.is_some.ensures ∙ c.if-is_some.false)
