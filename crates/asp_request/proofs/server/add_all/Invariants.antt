use Rattle.std.proofs.Common.{List, ◌++◌, map, take}
use Rattle.vb_value.specs.Folding.{folded}
use Rattle.asp_request.specs.Collection.{Collects, values_at}
use Rattle.asp_request.specs.Pairs.{Pair, joined}
use Rattle.asp_request.proofs.server.add_all.Given as goal

abbrev pub invariant-loop-name : goal.invariant-loop-name
invariant-loop-name l = (pairs : List Pair) → Collects l.initial.kept pairs
    → Collects l.kept (pairs ++ map (λ name. (name, joined (values_at l.from.groups (folded name)))) (take l.name-index l.names))
