use Rattle.std.proofs.Common.{◌≡◌, ◌++◌, take}
use Rattle.vb_strings.specs.Joining.{behind}
use Rattle.vb_strings.proofs.joining.together.Given as goal

abbrev pub invariant-loop-other : goal.invariant-loop-other
invariant-loop-other l = l.text ≡ l.first ++ behind l.separator (take l.other-index l.others)
