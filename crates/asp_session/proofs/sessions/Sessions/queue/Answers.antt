use Rattle.std.proofs.Common.{subst, sym}
use Rattle.std.specs.List.{All}
use Rattle.asp_session.specs.Kept.{IsKeyOf}
use Rattle.asp_session.specs.Steps.{barred}
use Rattle.asp_session.proofs.Changes.{changed_keys}
use Rattle.asp_session.proofs.sessions.Sessions.queue.Goals as goal

pub invariant_of-self-2 : goal.invariant_of-self-2
invariant_of-self-2 c =
    subst (All (IsKeyOf c.self.inside.made)) (sym c.bar.ensures.keys)
    (changed_keys c.self.inside.made (barred c.args.last) c.args.key c.self.inside.keys.entries
    (λ entry is. record { below = is.below; session = is.session }) c.self.invariant)
