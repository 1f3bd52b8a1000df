use Rattle.std.proofs.Common.{take}
use Rattle.std.specs.List.{flat_map}
use Rattle.asp_request.specs.Cookies.{CollectsCookies}
use Rattle.asp_request.specs.Request.{header_cookies}
use Rattle.asp_request.proofs.cookies.Cookies.of.Given as goal

abbrev pub invariant-loop-header : goal.invariant-loop-header
invariant-loop-header l = CollectsCookies l.kept (flat_map header_cookies (take l.header-index l.headers))
