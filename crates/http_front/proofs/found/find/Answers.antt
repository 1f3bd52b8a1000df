use Rattle.std.proofs.Common.{sym, ap, subst, arith, length, length-take}
use Rattle.http_front.specs.Front.{BeginsHead}
use Rattle.http_front.specs.Mark.{IsMarked}
use Rattle.http_front.proofs.Finding.{open_front}
use Rattle.http_front.proofs.Marks.{marked_window, marked_bytes}
use Rattle.http_front.proofs.found.find.Goals as goal

pub parse_from-requires-clause-short : goal.parse_from-requires-clause-short
parse_from-requires-clause-short c = omega (arith, ap length c.window-window.ensures, length-take 16384 c.args.bytes.now)

pub parse_from-requires-clause-marked : goal.parse_from-requires-clause-marked
parse_from-requires-clause-marked c =
    subst (λ w. IsMarked w c.args.mark) (sym c.window-window.ensures)
    (marked_window c.args.bytes.now c.args.mark c.requires.marked)

pub mark_of-requires-clause-short : goal.mark_of-requires-clause-short
mark_of-requires-clause-short c = omega (arith, ap length c.window-window.ensures, length-take 16384 c.args.bytes.now)

pub returns-in-Unfinished-2 : goal.returns-in-Unfinished-2
returns-in-Unfinished-2 c =
    let bytes = c.args.bytes.now in
    let begins = subst BeginsHead c.window-window.ensures c.in-Unfinished-2.ensures in
    let gives = open_front bytes begins c.if-bytes-gt-MAX_HEAD.false in (
      gives.0,
      gives.1,
      marked_bytes bytes c.mark_of.result
          (subst (λ w. IsMarked w c.mark_of.result) c.window-window.ensures c.mark_of.ensures),
    )

pub mark_of-requires-clause-marked : goal.mark_of-requires-clause-marked
mark_of-requires-clause-marked c =
    subst (λ w. IsMarked w c.args.mark) (sym c.window-window.ensures)
    (marked_window c.args.bytes.now c.args.mark c.requires.marked)
