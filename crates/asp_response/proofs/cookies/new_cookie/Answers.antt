use Rattle.std.proofs.Common.{false}
use Rattle.asp_response.specs.declared.cookie.CookieValue.TheVariants.{Whole}
use Rattle.asp_response.proofs.cookies.new_cookie.Goals as goal

pub returns : goal.returns
returns c = λ i. record {
  name = c.in_ok-copy.ensures i;
  value = Whole (c.new.ensures i);
  path = c.in_ok-ascii.ensures i;
  domain = c.new-2.ensures i;
  secure = false;
}
