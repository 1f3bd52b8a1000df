use Rattle.std.proofs.Common.{map, take}
use Rattle.asp_request.specs.Collection.{Collects}
use Rattle.asp_request.specs.Request.{header_pair}
use Rattle.asp_request.proofs.server.collect_headers.Given as goal

abbrev pub invariant-loop-header : goal.invariant-loop-header
invariant-loop-header l = Collects l.kept (map header_pair (take l.header-index l.headers))
