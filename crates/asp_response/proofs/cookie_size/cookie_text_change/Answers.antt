use Rattle.asp_response.proofs.CookieBytes.{value_found}
use Rattle.asp_response.proofs.cookie_size.cookie_text_change.Goals as goal

pub returns : goal.returns
returns c = value_found c.args.cookie.now _ _ c.value_change.ensures
