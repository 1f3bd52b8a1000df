use Rattle.std.proofs.Common.{◌≡◌, take}
use Rattle.asp_objects.specs.MapPath as spec
use Rattle.asp_objects.proofs.map_path.escaped.Given as goal

abbrev pub invariant-loop-character : goal.invariant-loop-character
invariant-loop-character l = l.text ≡ spec.escaped (take l.character-index l.path)
