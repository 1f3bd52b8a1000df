use Rattle.std.proofs.Common.{◌≡◌, drop}
use Rattle.std.specs.Prelude.{slice_get}
use Rattle.asp_site.specs.Spots.{spots_of}
use Rattle.asp_site.proofs.lines.spot_at.Given as goal

abbrev pub invariant-loop-stretch : goal.invariant-loop-stretch
invariant-loop-stretch l =
    slice_get (spots_of (drop l.stretch-index l.stretches)) l.left ≡ slice_get (spots_of l.stretches) l.fn.place
