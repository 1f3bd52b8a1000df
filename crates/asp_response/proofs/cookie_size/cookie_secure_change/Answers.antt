use Rattle.asp_response.proofs.CookieBytes.{secure_in}
use Rattle.asp_response.proofs.cookie_size.cookie_secure_change.Goals as goal

pub returns : goal.returns
returns c = rw (c.in_ok-secure_size.ensures, c.in_ok-secure_size-2.ensures) (secure_in c.args.cookie.now c.args.on)
