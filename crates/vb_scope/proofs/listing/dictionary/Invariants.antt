use Rattle.std.proofs.Common.{◌≡◌, map, take}
use Rattle.vb_syntax.specs.scope.Names as names_spec
use Rattle.vb_scope.proofs.listing.dictionary.Given as goal

abbrev pub invariant-loop-name : goal.invariant-loop-name
invariant-loop-name l = l.all ≡ map names_spec.dictionary_member (take l.name-index l.names)
