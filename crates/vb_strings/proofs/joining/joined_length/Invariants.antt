use Rattle.std.proofs.Common.{◌≡◌, ◌-◌, ◌^◌, min, length, take}
use Rattle.vb_strings.specs.Joining.{behind}
use Rattle.vb_strings.proofs.joining.joined_length.Given as goal

abbrev pub invariant-loop-text : goal.invariant-loop-text
invariant-loop-text l = l.length ≡ min (length (behind l.separator (take l.text-index l.texts))) (2 ^ 64 - 1)
