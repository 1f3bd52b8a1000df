use Rattle.std.proofs.Common.{subst, sym}
use Rattle.std.specs.List.{All}
use Rattle.asp_session.specs.Kept.{IsKeyOf}
use Rattle.asp_session.specs.Steps.{begun}
use Rattle.asp_session.proofs.Changes.{changed_keys}
use Rattle.asp_session.proofs.sessions.Sessions.start.Goals as goal

pub invariant_of-self : goal.invariant_of-self
invariant_of-self c =
    subst (All (IsKeyOf c.self.inside.made)) (sym c.begin.ensures.keys)
    (changed_keys c.self.inside.made begun c.args.key c.self.inside.keys.entries
    (λ entry is. record { below = is.below; session = is.session }) c.self.invariant)
