use Rattle.std.proofs.Common.{◌∙◌, sym}
use Rattle.asp_session.proofs.Changes.{unchanged, written}
use Rattle.asp_session.specs.Steps.{barred}
use Rattle.asp_session.proofs.keys.bar.Goals as goal

pub returns-in-Some-clause-keys : goal.returns-in-Some-clause-keys
returns-in-Some-clause-keys c =
    (c.get_mut.follows.holds ((barred c.args.last) c.in-Some.state.now)).0
    ∙ written (barred c.args.last) c.args.key c.in-Some.state.now c.args.keys.now.entries c.in-Some.ensures.value

pub returns-in_default-clause-keys : goal.returns-in_default-clause-keys
returns-in_default-clause-keys c =
    (λ i. (c.get_mut.follows.holds-at-none i).entries)
    ∙ sym (unchanged (barred c.args.last) c.args.key c.args.keys.now.entries c.in_default.ensures.value)
