use Rattle.std.proofs.Common.{◌≡◌, ◌++◌, take}
use Rattle.std.specs.Prelude.{map}
use Rattle.asp_response.specs.Finish.{cookie_header}
use Rattle.asp_response.proofs.headers.push_cookies.Given as goal

abbrev pub invariant-loop-cookie : goal.invariant-loop-cookie
invariant-loop-cookie l = l.headers ≡ l.initial.headers ++ map cookie_header (take l.cookie-index l.cookies)
