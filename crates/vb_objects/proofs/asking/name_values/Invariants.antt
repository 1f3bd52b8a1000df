use Rattle.std.proofs.Common.{◌≡◌, map, take}
use Rattle.vb_value.specs.declared.value.Value.{Str}
use Rattle.vb_objects.proofs.asking.name_values.Given as goal

abbrev pub invariant-loop-name : goal.invariant-loop-name
invariant-loop-name l = l.values ≡ map Str (take l.name-index l.names)
