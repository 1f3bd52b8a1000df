use Rattle.std.proofs.Common.{List, ◌++◌, map, subst, ◌∙◌}
use Rattle.asp_request.specs.Collection.{Collects}
use Rattle.asp_request.specs.Pairs.{Pair, joined}
use Rattle.asp_request.proofs.server.add_headers.Goals as goal

pub returns : goal.returns
returns c = λ pairs is.
    let from = c.in_ok-from.ensures in
    let names = c.names.ensures ∙ from.names in
    let Kept : List Pair → Type 0 = λ l. Collects c.add_all.new.kept (pairs ++ l) in
    subst Kept (λ i. map (λ name. (name, joined (from.values name i))) (names i)) (c.in_ok-add_all.ensures pairs is)
