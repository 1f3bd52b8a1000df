use Rattle.std.proofs.Common.{inl, refl, sym, subst, arith, ◌+◌}
use Rattle.httparse.specs.Spans.{IsRequestAt}
use Rattle.http_front.proofs.Finding.{gives_refused, gives_request, waits, waits_now}
use Rattle.http_front.proofs.found.answer.Goals as goal

pub returns-in-Refused : goal.returns-in-Refused
returns-in-Refused c =
    let h = c.requires.1.0 in
    let at = subst (λ w. IsRequestAt w c.args.spans.now c.args.head h) (sym c.window.ensures) c.requires.1.1 in
    let judged = rw c.in-Refused.is at c.in_ok-status.ensures in
    gives_refused c.args.bytes.now c.args.spans.now c.args.head h c.requires.0 c.requires.1.1 c.in-Refused.status
    (sym (judged h at))

pub returns-then-end-bytes : goal.returns-then-end-bytes
returns-then-end-bytes c =
    let h = c.requires.1.0 in
    let at = subst (λ w. IsRequestAt w c.args.spans.now c.args.head h) (sym c.window.ensures) c.requires.1.1 in
    let judged = rw c.in-Taken.is at c.in_ok-status.ensures in
    let is = judged h at in
    let wait = waits c.args.bytes.now c.args.spans.now c.args.head h c.requires.0 c.requires.1.1 c.in-Taken.size
    (sym is.0) is.3 in
    (waits_now c.args.bytes.now (c.args.head.len + c.in-Taken.size) wait c.if-end-bytes.true, wait, inl refl)

pub returns-else-end-bytes : goal.returns-else-end-bytes
returns-else-end-bytes c =
    let h = c.requires.1.0 in
    let at = subst (λ w. IsRequestAt w c.args.spans.now c.args.head h) (sym c.window.ensures) c.requires.1.1 in
    let judged = rw c.in-Taken.is at c.in_ok-status.ensures in
    let is = judged h at in (
      h,
      record {
        within = c.requires.0;
        ordered = omega arith;
        fits = c.if-end-bytes.false;
        at = c.requires.1.1;
        path = is.1;
        close = is.2;
        gives = gives_request c.args.bytes.now c.args.spans.now c.args.head h c.requires.0 c.requires.1.1
            c.in-Taken.size (sym is.0) is.3 c.if-end-bytes.false;
      },
    )
