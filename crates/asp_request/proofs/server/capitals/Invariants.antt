use Rattle.std.proofs.Common.{◌≡◌, map, take}
use Rattle.asp_request.specs.Request.{capital}
use Rattle.asp_request.proofs.server.capitals.Given as goal

abbrev pub invariant-loop-character : goal.invariant-loop-character
invariant-loop-character l = l.text ≡ map capital (take l.character-index l.name)
