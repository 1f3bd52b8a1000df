use Rattle.asp_record.proofs.reading.is_next.Goals as goal

pub returns-in-Request-clause-tells : goal.returns-in-Request-clause-tells
returns-in-Request-clause-tells c = rw c.in-Request.is c.is_next_request.ensures.tells
