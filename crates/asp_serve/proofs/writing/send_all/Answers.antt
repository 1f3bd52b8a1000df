use Rattle.std.proofs.Common.{ℕ, arith, length-take, length-drop, ◌∙◌}
use Rattle.asp_io.proofs.Writing.{written_more}
use Rattle.asp_serve.proofs.writing.send_all.Goals as goal

pub loop-taken-preserved : goal.loop-taken-preserved
loop-taken-preserved g c =
    let writes = c.in_ok-taken.ensures.ok in
    let cause = c.in_ok-taken.ensures.cause in (
      omega (arith, writes.within, length-take {A = ℕ}, length-drop {A = ℕ}),
      written_more _ _ _ _ _ _ c.loop-taken.invariant.1 writes,
      omega (arith, cause.later),
      λ below. cause.within (c.loop-taken.invariant.3 below),
      c.in_ok-taken.ensures.same ∙ c.loop-taken.invariant.4,
    )
