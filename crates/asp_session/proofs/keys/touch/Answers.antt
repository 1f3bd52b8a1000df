use Rattle.std.proofs.Common.{◌∙◌, sym}
use Rattle.asp_session.proofs.Changes.{unchanged, written}
use Rattle.asp_session.specs.Steps.{asked_at}
use Rattle.asp_session.proofs.keys.touch.Goals as goal

pub returns-in-Some-clause-keys : goal.returns-in-Some-clause-keys
returns-in-Some-clause-keys c =
    (c.get_mut.follows.holds ((asked_at c.args.moment) c.in-Some.state.now)).0
    ∙ written (asked_at c.args.moment) c.args.key c.in-Some.state.now c.args.keys.now.entries c.in-Some.ensures.value

pub returns-in_default-clause-keys : goal.returns-in_default-clause-keys
returns-in_default-clause-keys c =
    (λ i. (c.get_mut.follows.holds-at-none i).entries)
    ∙ sym (unchanged (asked_at c.args.moment) c.args.key c.args.keys.now.entries c.in_default.ensures.value)
