use Rattle.asp_response.proofs.CookieBytes.{domain_in, path_in}
use Rattle.asp_response.proofs.cookie_size.cookie_part_change.Goals as goal

pub returns-in_ok-bytes_in-in-Path-2 : goal.returns-in_ok-bytes_in-in-Path-2
returns-in_ok-bytes_in-in-Path-2 c =
    rw (c.in-Path.is, c.in_ok-bytes_in-in-Path.ensures, c.in_ok-bytes_in-in-Path-2.ensures)
    (path_in c.args.cookie.now c.args.text.now)

pub returns-in_ok-domain_size-in-Domain-2 : goal.returns-in_ok-domain_size-in-Domain-2
returns-in_ok-domain_size-in-Domain-2 c =
    rw (c.in-Domain.is, c.in_ok-domain_size-in-Domain.ensures, c.in_ok-domain_size-in-Domain-2.ensures)
    (domain_in c.args.cookie.now c.args.text.now)
