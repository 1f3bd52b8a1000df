use Rattle.std.proofs.Common.{◌≡◌, take}
use Rattle.std.specs.List.{flat_map, find}
use Rattle.std.specs.Option.{option_map}
use Rattle.asp_core.specs.Cookie.{is_cookie, cookie_pieces}
use Rattle.asp_core.proofs.cookie.find_cookie.Given as goal

abbrev pub invariant-loop-header : goal.invariant-loop-header
invariant-loop-header l = option_map (λ piece. piece.now) l.found
    ≡ find is_cookie (flat_map cookie_pieces (take l.header-index l.headers))
