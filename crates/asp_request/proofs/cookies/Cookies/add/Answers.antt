use Rattle.std.proofs.Common.{ap, sym, ◌∙◌, is_some, nat_cmp}
use Rattle.std.specs.BTreeMap.{get}
use Rattle.std.specs.Cmp.Lexicographic.{slice_cmp}
use Rattle.asp_request.proofs.CookieKeeping.{cookies_there}
use Rattle.asp_request.proofs.cookies.Cookies.add.Goals as goal

pub returns-then-has : goal.returns-then-has
returns-then-has c = λ pairs is.
    cookies_there c.args.self.now pairs c.args.name c.args.value.now is
    (ap (λ k. is_some (get (slice_cmp nat_cmp) c.args.self.now.raw k)) (sym c.in_ok-key.ensures)
    ∙ sym c.has.ensures ∙ c.if-has.true)
