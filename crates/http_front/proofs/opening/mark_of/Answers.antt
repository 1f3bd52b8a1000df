use Rattle.std.proofs.Common.{inr, arith}
use Rattle.http_front.proofs.Marks.{window_mark}
use Rattle.http_front.proofs.opening.mark_of.Goals as goal

pub returns-then-first-feed : goal.returns-then-first-feed
returns-then-first-feed c = inr (
  omega (arith, c.in-Some.ensures.0, c.requires.short),
  window_mark c.args.window.now c.in-Some-first_text.first c.in-Some.feed c.requires.begins c.if-first-feed.true
      c.in-Some.ensures.0 c.in-Some.ensures.1 c.in-Some-first_text.ensures.1,
)
