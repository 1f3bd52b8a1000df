use Rattle.std.proofs.Common.{subst, sym}
use Rattle.std.specs.List.{All}
use Rattle.asp_session.specs.Kept.{IsKeyOf}
use Rattle.asp_session.specs.Steps.{changed, finished}
use Rattle.asp_session.proofs.Changes.{changed_keys, finished_may, forgotten_keys}
use Rattle.asp_session.proofs.sessions.Sessions.end.Goals as goal

pub invariant_of-self : goal.invariant_of-self
invariant_of-self c =
    let ended = changed_keys c.self.inside.made (finished c.args.after) c.args.key c.self.inside.keys.entries
    (λ entry is. record {
      below = is.below;
      session = finished_may c.args.after entry.1.session c.requires is.session;
    }) c.self.invariant in
    subst (All (IsKeyOf c.self.inside.made)) (sym c.forget.ensures.keys)
    (forgotten_keys c.self.inside.made c.args.key c.deref.result.now c.finish.new.keys.entries
    (subst (All (IsKeyOf c.self.inside.made)) (sym c.finish.ensures.keys) ended))
