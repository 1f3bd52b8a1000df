use Rattle.std.proofs.Common.{◌≡◌, true, take}
use Rattle.vb_strings.specs.Splitting.{are_short}
use Rattle.vb_strings.proofs.splitting.are_short.Given as goal

abbrev pub invariant-loop-text : goal.invariant-loop-text
invariant-loop-text l = are_short (take l.text-index l.texts) ≡ true
