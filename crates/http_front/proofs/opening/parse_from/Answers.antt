use Rattle.http_front.proofs.Marks.{marked_some, mark_begins, mark_never}
use Rattle.http_front.proofs.opening.parse_from.Goals as goal

pub returns-in-Open : goal.returns-in-Open
returns-in-Open c =
    let mark = marked_some c.args.window.now c.args.mark c.requires.marked c.if-mark-eq0.false in
    mark_begins c.args.window.now c.args.mark mark c.in-Open.ensures.0 c.in-Open.ensures.1

pub returns-in-Hopeless : goal.returns-in-Hopeless
returns-in-Hopeless c =
    let mark = marked_some c.args.window.now c.args.mark c.requires.marked c.if-mark-eq0.false in
    mark_never c.args.window.now c.args.mark mark c.in-Hopeless.ensures
