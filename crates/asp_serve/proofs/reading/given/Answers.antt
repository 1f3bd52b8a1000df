use Rattle.std.proofs.Common.{sym, subst}
use Rattle.http_front.specs.Reader.{Wants}
use Rattle.asp_serve.proofs.reading.given.Goals as goal

pub returns-in-Ok-Request-clause-some : goal.returns-in-Ok-Request-clause-some
returns-in-Ok-Request-clause-some c = λ link. rw c.in-Ok-Request.field-0-is at c.in-Ok-Request.ensures.ok

pub returns-in-Ok-Refused-clause-some : goal.returns-in-Ok-Refused-clause-some
returns-in-Ok-Refused-clause-some c = λ link.
    let gives = rw c.in-Ok-Refused.field-0-is at c.in-Ok-Refused.ensures.ok in gives.0

pub returns-in-Ok-More-clause-none : goal.returns-in-Ok-More-clause-none
returns-in-Ok-More-clause-none c =
    let gives = rw c.in-Ok-More.field-0-is at c.in-Ok-More.ensures.ok in
    (gives.1, subst Wants (sym gives.1) gives.0)
