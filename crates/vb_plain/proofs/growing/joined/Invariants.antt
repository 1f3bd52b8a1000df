use Rattle.std.proofs.Common.{◌≡◌, ◌++◌, length}
use Rattle.vb_meaning.specs.Meaning.{inside}
use Rattle.vb_meaning.specs.Expressions.{operations}
use Rattle.vb_objects.specs.Seen.{seen, host}
use Rattle.vb_value.specs.declared.value.Value.{Str}
use Rattle.vb_plain.proofs.growing.joined.Given as goal

abbrev pub invariant-loop-rest : goal.invariant-loop-rest
invariant-loop-rest g l =
    operations (g.row.I.Denot) (inside (g.row.I.Denot) (host g.I.Intrinsics.asked g.I.Intrinsics.answered) l.p
    l.levels) (Str l.held) l.fn.rest (seen l.playing l.env)
    ≡ operations (g.row.I.Denot) (inside (g.row.I.Denot) (host g.I.Intrinsics.asked g.I.Intrinsics.answered) l.p
    l.levels) (Str (l.held ++ l.more)) l.rest (seen l.playing l.env)

abbrev pub decreases-loop-rest : goal.decreases-loop-rest
decreases-loop-rest g l = length l.rest
