use Rattle.std.proofs.Common.{List, ◌++◌, map}
use Rattle.std.specs.List.{flat_map}
use Rattle.httparse.specs.Grammar.{trim_ows}
use Rattle.asp_request.specs.Cookies.{CollectsCookies}
use Rattle.asp_request.specs.Pairs.{Pair}
use Rattle.asp_request.specs.Request.{piece_pairs}
use Rattle.asp_request.proofs.cookies.Cookies.add_value.Given as goal

abbrev pub invariant-loop-piece : goal.invariant-loop-piece
invariant-loop-piece l = (pairs : List Pair) → CollectsCookies l.initial.self pairs
    → CollectsCookies l.self (pairs ++ flat_map (λ piece. piece_pairs (trim_ows piece)) (map (λ piece. piece.now) l.yielded))
