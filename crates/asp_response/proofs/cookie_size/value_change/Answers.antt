use Rattle.std.proofs.Common.{◌≡◌, IsTrue, false}
use Rattle.asp_response.proofs.CookieBytes.{whole_keyed}
use Rattle.asp_response.proofs.cookie_size.value_change.Goals as goal

pub returns-in_ok-pair_size-in-Whole : goal.returns-in_ok-pair_size-in-Whole
returns-in_ok-pair_size-in-Whole c =
    whole_keyed c.args.value.now c.in-Whole.whole c.args.key.now c.args.text.now _ _ c.in-Whole.is
    (λ empty. let met : IsTrue c.is_empty.result = c.is_empty.ensures.1 empty in
    let missed : c.is_empty.result ≡ false = c.if-is_empty.false in cc)
    c.in_ok-url_size-in-Whole.ensures c.in_ok-pair_size-in-Whole.ensures
