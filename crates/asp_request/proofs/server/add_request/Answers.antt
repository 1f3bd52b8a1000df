use Rattle.std.proofs.Common.{List, [], ◌∷◌, ◌++◌, ap, subst, ◌∙◌}
use Rattle.std.specs.Prelude.{codes}
use Rattle.asp_request.specs.Collection.{Collects}
use Rattle.asp_request.specs.Pairs.{Pair}
use Rattle.asp_request.specs.Request as spec
use Rattle.asp_request.proofs.Chaining.{five}
use Rattle.asp_request.proofs.server.add_request.Goals as goal

pub returns : goal.returns
returns c = λ pairs is.
    let p1 : Pair = (codes "REQUEST_METHOD", spec.method_text c.args.request.now.verb) in
    let l1 : List Pair = pairs in
    let k1 = subst (λ v. Collects c.add.new.kept (l1 ++ (codes "REQUEST_METHOD", v) ∷ []))
    (c.in_ok-method_text.ensures)
    (c.in_ok-add.ensures l1 is) in
    let p2 : Pair = (codes "QUERY_STRING", spec.text_of c.args.request.now.query) in
    let l2 : List Pair = l1 ++ p1 ∷ [] in
    let k2 = subst (λ v. Collects c.add-2.new.kept (l2 ++ (codes "QUERY_STRING", v) ∷ []))
    (c.in_ok-text_of.ensures ∙ ap spec.text_of c.as_slice.ensures)
    (c.in_ok-add-2.ensures l2 k1) in
    let p3 : Pair = (codes "SCRIPT_NAME", c.args.request.now.path) in
    let l3 : List Pair = l2 ++ p2 ∷ [] in
    let k3 = subst (λ v. Collects c.add-3.new.kept (l3 ++ (codes "SCRIPT_NAME", v) ∷ []))
    (c.in_ok-copy.ensures)
    (c.in_ok-add-3.ensures l3 k2) in
    let p4 : Pair = (codes "URL", c.args.request.now.path) in
    let l4 : List Pair = l3 ++ p3 ∷ [] in
    let k4 = subst (λ v. Collects c.add-4.new.kept (l4 ++ (codes "URL", v) ∷ []))
    (c.in_ok-copy-2.ensures)
    (c.in_ok-add-4.ensures l4 k3) in
    let p5 : Pair = (codes "PATH_INFO", c.args.request.now.path) in
    let l5 : List Pair = l4 ++ p4 ∷ [] in
    let k5 = subst (λ v. Collects c.add-5.new.kept (l5 ++ (codes "PATH_INFO", v) ∷ []))
    (c.in_ok-copy-3.ensures)
    (c.in_ok-add-5.ensures l5 k4) in
    subst (λ l. Collects c.add-5.new.kept l) (five pairs p1 p2 p3 p4 p5) k5
