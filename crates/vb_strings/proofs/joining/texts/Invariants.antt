use Rattle.std.proofs.Common.{◌≡◌, drop}
use Rattle.vb_strings.specs.Joining.{texts_of}
use Rattle.vb_strings.proofs.Items.{resumed}
use Rattle.vb_strings.proofs.joining.texts.Given as goal

abbrev pub invariant-loop-value : goal.invariant-loop-value
invariant-loop-value l = texts_of l.values ≡ resumed l.texts (texts_of (drop l.value-index l.values))
