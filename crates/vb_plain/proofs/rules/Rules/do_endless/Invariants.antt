use Rattle.std.proofs.Common.{◌≡◌, ◌+◌, true}
use Rattle.vb_syntax.specs.declared.program.statement.Repetition.TheVariants as repetition
use Rattle.vb_meaning.specs.Loops.{do_turns, before_turns, leaves_do}
use Rattle.vb_meaning.specs.Meaning.{inside}
use Rattle.vb_meaning.specs.Step.{pure}
use Rattle.vb_objects.specs.Seen.{seen, host}
use Rattle.vb_plain.proofs.rules.Rules.do_endless.Given as goal

abbrev pub invariant-loop-most : goal.invariant-loop-most
invariant-loop-most g l =
    do_turns (g.row.I.Denot) (inside (g.row.I.Denot) (host g.I.Intrinsics.asked g.I.Intrinsics.answered) l.p l.self.levels)
    (l.fn.playing.ticks + 1) repetition.Endless l.body (seen l.fn.playing l.fn.env)
    ≡ before_turns (g.row.I.Denot) (inside (g.row.I.Denot) (host g.I.Intrinsics.asked g.I.Intrinsics.answered) l.p l.self.levels)
    l.most leaves_do (pure true) l.body (seen l.playing l.env)

abbrev pub decreases-loop-most : goal.decreases-loop-most
decreases-loop-most g l = l.most
