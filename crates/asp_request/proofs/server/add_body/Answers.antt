use Rattle.std.proofs.Common.{List, [], ◌∷◌, ◌++◌, ap, subst, ◌∙◌}
use Rattle.std.specs.Prelude.{codes, decimal, length}
use Rattle.asp_request.specs.Collection.{Collects}
use Rattle.asp_request.specs.Pairs.{Pair}
use Rattle.asp_request.specs.Request as spec
use Rattle.asp_request.proofs.Chaining.{two}
use Rattle.asp_request.proofs.server.add_body.Goals as goal

pub returns : goal.returns
returns c = λ pairs is.
    let is_media =
    c.value_of_header-media.ensures ∙ ap (spec.value_of_header (codes "Content-Type")) c.as_slice.ensures in
    let p1 : Pair = (codes "CONTENT_LENGTH", decimal (length c.args.request.now.body)) in
    let l1 : List Pair = pairs in
    let k1 = subst (λ v. Collects c.add.new.kept (l1 ++ (codes "CONTENT_LENGTH", v) ∷ []))
    (c.in_ok-decimal_text.ensures ∙ ap decimal c.len.ensures)
    (c.in_ok-add.ensures l1 is) in
    let p2 : Pair =
    (codes "CONTENT_TYPE", spec.text_of (spec.value_of_header (codes "Content-Type") c.args.request.now.headers)) in
    let l2 : List Pair = l1 ++ p1 ∷ [] in
    let k2 = subst (λ v. Collects c.add-2.new.kept (l2 ++ (codes "CONTENT_TYPE", v) ∷ []))
    (c.in_ok-text_of.ensures ∙ ap spec.text_of is_media)
    (c.in_ok-add-2.ensures l2 k1) in
    subst (λ l. Collects c.add-2.new.kept l) (two pairs p1 p2) k2
