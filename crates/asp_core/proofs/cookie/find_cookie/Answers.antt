use Rattle.std.proofs.Common.{◌∙◌, ℕ, List, Option, ap, sym, take}
use Rattle.std.specs.List.{flat_map, find}
use Rattle.std.specs.Option.{option_or}
use Rattle.asp_job.specs.declared.request.Header.{Header}
use Rattle.asp_core.specs.Cookie.{cookie_pieces, is_cookie}
use Rattle.asp_core.proofs.Finding.{find_more}
use Rattle.asp_core.proofs.cookie.find_cookie.Goals as goal

pub loop-header-preserved : goal.loop-header-preserved
loop-header-preserved c =
    let headers = c.args.headers.now in
    let at = c.loop-header.header-index in
    let header = c.header-item.result in
    c.first_in-found.ensures
    ∙ ap (λ (one : Option (List ℕ)). option_or one (find is_cookie (cookie_pieces header))) c.loop-header.invariant
    ∙ ap (λ (one : Header). option_or (find is_cookie (flat_map cookie_pieces (take at headers)))
    (find is_cookie (cookie_pieces one))) c.header-item.is
    ∙ sym (find_more is_cookie cookie_pieces headers at header c.loop-header-test.true)
