use Rattle.std.proofs.Common.{◌≡◌, ◌∙◌, ◌+◌, ◌++◌, ◌∷◌, [], subst, sym, arith, ap, List}
use Rattle.std.specs.List.{All}
use Rattle.asp_session.specs.Kept.{IsKeyOf, account_in}
use Rattle.asp_session.specs.declared.key.KeyState.{KeyState}
use Rattle.asp_session.specs.Steps.{new_key}
use Rattle.asp_session.proofs.Changes.{more_keys, new_last}
use Rattle.asp_session.proofs.sessions.Sessions.add_key.Goals as goal

pub invariant_of-self : goal.invariant_of-self
invariant_of-self c =
    let last = new_last c.self.inside.made (new_key c.args.moment) c.self.inside.keys.entries c.self.invariant in
    subst (All (IsKeyOf (c.self.inside.made + 1))) (sym (c.in-Ok.ensures.entries ∙ last))
    (more_keys c.self.inside.made (new_key c.args.moment) c.self.inside.keys.entries
    (record { below = omega arith; session = tt }) c.self.invariant)

pub returns-in-Ok-clause-account : goal.returns-in-Ok-clause-account
returns-in-Ok-clause-account c =
    let last = new_last c.self.inside.made (new_key c.args.moment) c.self.inside.keys.entries c.self.invariant in
    rw (sym c.self.view_is)
    (λ i. record (account_in c.self.inside) {
      keys = (c.in-Ok.ensures.entries ∙ last) i;
      made = c.self.inside.made + 1;
    })
