use Rattle.std.proofs.Common.{◌≡◌, sym, ◌∙◌, Some}
use Rattle.std.proofs.lemmas.List.Quantifiers.{position-Some}
use Rattle.asp_response.specs.Cookies.{place_of, with_part}
use Rattle.asp_response.proofs.CookieBytes.{set_found}
use Rattle.asp_response.proofs.cookies.part_change.Goals as goal

pub returns-in-Some : goal.returns-in-Some
returns-in-Some c =
    let placed : place_of c.args.name.now c.args.cookies.now ≡ Some c.in-Some.at =
    sym (rw (c.as_slice.ensures, c.as_slice-2.ensures) at c.place_of.ensures) ∙ c.in-Some.is in
    set_found c.args.cookies.now _ c.in-Some.at _ c.index-as_slice-at.result (with_part c.args.part c.args.text.now) _ placed
    (position-Some _ c.args.cookies.now c.in-Some.at c.index-as_slice-at.result placed).0
    (rw c.as_slice-in-Some.ensures at c.index-as_slice-at.is) c.cookie_part_change.ensures
