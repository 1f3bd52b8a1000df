use Rattle.std.proofs.Common.{◌≡◌, map}
use Rattle.std.specs.List.{find}
use Rattle.std.specs.Option.{option_map}
use Rattle.httparse.specs.Grammar.{trim_ows}
use Rattle.asp_core.specs.Cookie.{is_cookie}
use Rattle.asp_core.proofs.cookie.cookie_in.Given as goal

abbrev pub invariant-loop-piece : goal.invariant-loop-piece
invariant-loop-piece l = option_map (λ piece. piece.now) l.found
    ≡ find is_cookie (map (λ piece. trim_ows piece.now) l.yielded)
