use Rattle.std.proofs.Common.{◌∙◌, sym, ap, false, nat_eq}
use Rattle.std.specs.Map.{set_value}
use Rattle.asp_session.proofs.Changes.{unchanged, written}
use Rattle.asp_session.specs.Steps.{finished, left_by}
use Rattle.asp_session.proofs.keys.finish.Goals as goal

pub returns-in-Some-clause-keys : goal.returns-in-Some-clause-keys
returns-in-Some-clause-keys c =
    let session = c.left.ensures ∙ ap (left_by c.args.after) c.take-before.ensures.value in
    (c.get_mut.follows.holds (record c.in-Some.state.now { session = c.left.result; running = false })).0
    ∙ (λ i. set_value (nat_eq c.args.key) c.args.keys.now.entries
    (record c.in-Some.state.now { session = session i; running = false }))
    ∙ written (finished c.args.after) c.args.key c.in-Some.state.now c.args.keys.now.entries c.in-Some.ensures.value

pub returns-in_default-clause-keys : goal.returns-in_default-clause-keys
returns-in_default-clause-keys c =
    (λ i. (c.get_mut.follows.holds-at-none i).entries)
    ∙ sym (unchanged (finished c.args.after) c.args.key c.args.keys.now.entries c.in_default.ensures.value)
