use Rattle.std.proofs.Common.{refl, arith, rules}
use Rattle.asp_serve.proofs.Hearing.{piece_failed, piece_lost, piece_over}
use Rattle.asp_serve.proofs.reading.read_more.Goals as goal

pub returns-in-Ok-eq0-clause-ends : goal.returns-in-Ok-eq0-clause-ends
returns-in-Ok-eq0-clause-ends g c =
    let cause = c.in-Ok-eq0.ensures.cause in
    piece_over _ _ _ _ _ _ c.requires c.in-Ok-eq0.ensures.ok (omega arith) (search rules)
    c.in-Ok-eq0.ensures.same cause.later cause.within

pub returns-in-Err-feed-clause-ends : goal.returns-in-Err-feed-clause-ends
returns-in-Err-feed-clause-ends g c =
    let cause = c.in-Ok.ensures.cause in
    piece_lost _ _ _ _ _ _ _ c.in-Ok.ensures.ok c.in-Ok.ensures.same cause.later cause.within

pub returns-in-Err-clause-ends : goal.returns-in-Err-clause-ends
returns-in-Err-clause-ends g c =
    let cause = c.in-Err.ensures.cause in
    piece_failed _ _ _ _ c.requires c.in-Err.ensures.err c.in-Err.ensures.same cause.later cause.within
    (cause.failed refl)
