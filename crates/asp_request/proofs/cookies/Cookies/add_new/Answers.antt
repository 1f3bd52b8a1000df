use Rattle.std.proofs.Common.{ap, refl, sym, ◌∙◌, is_some, nat_cmp}
use Rattle.std.specs.BTreeMap.{get}
use Rattle.std.specs.Cmp.Lexicographic.{slice_cmp}
use Rattle.asp_request.proofs.CookieKeeping.{cookies_new}
use Rattle.asp_request.proofs.cookies.Cookies.add_new.Goals as goal

pub returns : goal.returns
returns c = λ pairs is.
    cookies_new c.args.self.now c.add.new.self c.put_raw.new.raw pairs c.args.name c.args.value.now c.args.name
    c.in_ok-decoded.field-0 c.in_ok-from_slice.field-0 _ is
    (ap (λ k. is_some (get (slice_cmp nat_cmp) c.args.self.now.raw k)) (sym c.requires.key) ∙ c.requires.absent)
    (c.key.view_is ∙ c.requires.key) refl
    c.in_ok-decoded.ensures c.in_ok-from_slice.ensures c.in_ok-add.ensures c.in_ok-put_raw.ensures
