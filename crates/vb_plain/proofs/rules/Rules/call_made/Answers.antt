use Rattle.std.proofs.Common.{rules, ◌≡◌}
use Rattle.vb_meaning.specs.Calling.{called}
use Rattle.vb_meaning.specs.Meaning.{inside}
use Rattle.vb_meaning.proofs.Letting.{ended_ran}
use Rattle.vb_plain.proofs.rules.Rules.call_made.Goals as goal
use Rattle.vb_objects.specs.Seen.{seen, host}

pub returns-in_err-value : goal.returns-in_err-value
returns-in_err-value g c =
    let E = g.row.I.Denot in
    let m = inside E (host g.I.Intrinsics.asked g.I.Intrinsics.answered) c.args.p.now c.args.self.now.levels in
    let same : c.from_residual.result ≡ c.entered.result = search rules in
    rw same (ended_ran (called E m c.args.owner c.args.procedure.now c.args.arguments)
    (seen c.args.playing.now c.args.env.now) (seen c.entered.new.playing c.entered.new.env) c.entered.result
    c.in_err-value.field-0.0 (search rules) c.entered.ensures)
