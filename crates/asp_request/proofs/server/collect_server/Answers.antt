use Rattle.std.proofs.Common.{List, [], ◌++◌, ap, subst}
use Rattle.asp_request.specs.Collection.{Collects}
use Rattle.asp_request.specs.Pairs.{Pair}
use Rattle.asp_request.specs.Request.{request_variables, host_variables, body_variables, header_variables}
use Rattle.asp_request.proofs.server.collect_server.Goals as goal

pub returns : goal.returns
returns c =
    let request = c.args.request.now in
    let one : List Pair = request_variables request in
    let two : List Pair = one ++ host_variables request in
    let three : List Pair = two ++ body_variables request in
    let Kept : List Pair → Type 0 = λ l. Collects c.add_headers.new.kept l in
    subst Kept (ap (λ h. three ++ header_variables h) c.as_slice.ensures)
    (c.in_ok-add_headers.ensures three
    (c.in_ok-add_body.ensures two (c.in_ok-add_host.ensures one (c.in_ok-add_request.ensures [] c.new-kept.ensures))))
