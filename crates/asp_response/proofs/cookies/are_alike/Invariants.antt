use Rattle.std.proofs.Common.{◌≡◌, drop}
use Rattle.vb_value.specs.Folding.{same_name}
use Rattle.asp_response.proofs.cookies.are_alike.Given as goal

abbrev pub invariant-loop-i : goal.invariant-loop-i
invariant-loop-i l = same_name (drop l.i l.one) (drop l.i l.other) ≡ same_name l.one l.other
