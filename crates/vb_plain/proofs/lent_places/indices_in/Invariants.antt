use Rattle.std.proofs.Common.{◌≡◌, [], length}
use Rattle.vb_meaning.specs.Meaning.{inside}
use Rattle.vb_meaning.specs.Reading.{values}
use Rattle.vb_objects.specs.Seen.{seen, host}
use Rattle.vb_plain.proofs.lent_places.indices_in.Given as goal

abbrev pub invariant-loop-indices : goal.invariant-loop-indices
invariant-loop-indices g l =
    values (g.row.I.Denot) (inside (g.row.I.Denot) (host g.I.Intrinsics.asked g.I.Intrinsics.answered) l.p l.levels) []
    l.fn.indices (seen l.fn.playing l.fn.env)
    ≡ values (g.row.I.Denot) (inside (g.row.I.Denot) (host g.I.Intrinsics.asked g.I.Intrinsics.answered) l.p l.levels)
    l.found l.indices (seen l.playing l.env)

abbrev pub decreases-loop-indices : goal.decreases-loop-indices
decreases-loop-indices g l = length l.indices
