use Rattle.std.proofs.Common.{◌≡◌, map}
use Rattle.vb_value.specs.declared.value.Value.{Str}
use Rattle.vb_strings.proofs.splitting.values.Given as goal

abbrev pub invariant-loop-text : goal.invariant-loop-text
invariant-loop-text l = l.values ≡ map Str l.yielded
