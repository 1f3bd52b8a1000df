use Rattle.std.proofs.Common.{Err, ap, subst}
use Rattle.httparse.specs.Spans.{RequestExceeds}
use Rattle.http_front.proofs.OpenTargets.{room_suffices}
use Rattle.http_front.proofs.opening.parse_window.Goals as goal

pub returns-in-Err-TooManyHeaders : goal.returns-in-Err-TooManyHeaders
returns-in-Err-TooManyHeaders c more h rest reads =
    let exceeds = c.in-Err-TooManyHeaders.ensures.too_many (ap Err c.in-Err-TooManyHeaders.field-0-is) in
    room_suffices c.args.window.now c.requires.short (subst (λ n. RequestExceeds n c.args.window.now) c.requires.room exceeds)
