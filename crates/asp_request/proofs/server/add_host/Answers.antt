use Rattle.std.proofs.Common.{ℕ, ◌+◌, List, [], ◌∷◌, ◌++◌, take, drop, ap, subst, ◌∙◌}
use Rattle.std.specs.Prelude.{codes}
use Rattle.asp_request.specs.Collection.{Collects}
use Rattle.asp_request.specs.Pairs.{Pair}
use Rattle.asp_request.specs.Request as spec
use Rattle.asp_request.proofs.Chaining.{five}
use Rattle.asp_request.proofs.server.add_host.Goals as goal

pub returns : goal.returns
returns c = λ pairs is.
    let host = spec.value_of_header (codes "Host") c.args.request.now.headers in
    let is_host = c.value_of_header.ensures ∙ ap (spec.value_of_header (codes "Host")) c.as_slice.ensures in
    let name_in : List ℕ → List ℕ = λ h. take (spec.host_end h) h in
    let port_in : List ℕ → List ℕ = λ h. drop (spec.host_end h + 1) h in
    let p1 : Pair = (codes "SERVER_NAME", spec.text_of (name_in host)) in
    let l1 : List Pair = pairs in
    let k1 = subst (λ v. Collects c.add.new.kept (l1 ++ (codes "SERVER_NAME", v) ∷ []))
    (c.in_ok-text_of.ensures ∙ ap spec.text_of (c.split_host.ensures.name ∙ ap name_in is_host))
    (c.in_ok-add.ensures l1 is) in
    let p2 : Pair = (codes "SERVER_PORT", spec.port_text (port_in host)) in
    let l2 : List Pair = l1 ++ p1 ∷ [] in
    let k2 = subst (λ v. Collects c.add-2.new.kept (l2 ++ (codes "SERVER_PORT", v) ∷ []))
    (c.in_ok-port_text.ensures ∙ ap spec.port_text (c.split_host.ensures.port ∙ ap port_in is_host))
    (c.in_ok-add-2.ensures l2 k1) in
    let p3 : Pair = (codes "SERVER_PROTOCOL", spec.protocol c.args.request.now.minor) in
    let l3 : List Pair = l2 ++ p2 ∷ [] in
    let k3 = subst (λ v. Collects c.add-3.new.kept (l3 ++ (codes "SERVER_PROTOCOL", v) ∷ []))
    (c.in_ok-protocol.ensures)
    (c.in_ok-add-3.ensures l3 k2) in
    let p4 : Pair = (codes "SERVER_SOFTWARE", codes "ClassicASP") in
    let l4 : List Pair = l3 ++ p3 ∷ [] in
    let k4 = subst (λ v. Collects c.add-4.new.kept (l4 ++ (codes "SERVER_SOFTWARE", v) ∷ []))
    (c.in_ok-ascii.ensures)
    (c.in_ok-add-4.ensures l4 k3) in
    let p5 : Pair = (codes "HTTPS", codes "off") in
    let l5 : List Pair = l4 ++ p4 ∷ [] in
    let k5 = subst (λ v. Collects c.add-5.new.kept (l5 ++ (codes "HTTPS", v) ∷ []))
    (c.in_ok-ascii-2.ensures)
    (c.in_ok-add-5.ensures l5 k4) in
    subst (λ l. Collects c.add-5.new.kept l) (five pairs p1 p2 p3 p4 p5) k5
