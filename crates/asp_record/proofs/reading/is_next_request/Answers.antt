use Rattle.asp_record.proofs.NextItem.{request_told}
use Rattle.asp_record.proofs.reading.is_next_request.Goals as goal

pub returns-clause-tells : goal.returns-clause-tells
returns-clause-tells c =
    let times = c.is_in_time.ensures.0 c.if-not-is_in_time.false in
    request_told c.is_one_request.result c.args.now c.args.client c.args.moment c.args.bytes.now times.0 times.1
    c.ranges.client.fits
    c.if-bytes-gt-MOST_BYTES.false c.is_one_request.ensures.tells
