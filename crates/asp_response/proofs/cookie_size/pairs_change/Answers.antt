use Rattle.std.proofs.Common.{◌≡◌, refl, sym, ◌∙◌, Some, None}
use Rattle.std.proofs.lemmas.List.Quantifiers.{position-Some}
use Rattle.asp_response.specs.Cookies.{place_of_key}
use Rattle.asp_response.proofs.CookieBytes.{pair_more, pairs_found}
use Rattle.asp_response.proofs.cookie_size.pairs_change.Goals as goal

pub returns-in-Some : goal.returns-in-Some
returns-in-Some c =
    let placed : place_of_key c.args.key.now c.args.pairs.now ≡ Some c.in-Some.at =
    sym (rw c.as_slice.ensures at c.place_of_key.ensures) ∙ c.in-Some.is in
    pairs_found c.args.pairs.now _ c.in-Some.at _ _ c.index-pairs-at.result c.args.text.now _ placed
    (position-Some _ c.args.pairs.now c.in-Some.at c.index-pairs-at.result placed).0 refl c.text_change.ensures.was
    c.text_change.ensures.will

pub returns-in_ok-pair_size-in-None : goal.returns-in_ok-pair_size-in-None
returns-in_ok-pair_size-in-None c =
    let placed : place_of_key c.args.key.now c.args.pairs.now ≡ None =
    sym (rw c.as_slice.ensures at c.place_of_key.ensures) ∙ c.in-None.is in
    rw placed
    (pair_more c.args.pairs.now _ c.is_empty.result _ c.is_empty.ensures c.in_ok-pair_size-in-None.ensures)
