use Rattle.std.proofs.Common.{◌≡◌, Some, subst}
use Rattle.std.specs.Map.{lookup}
use Rattle.asp_job.specs.Application.{is_name}
use Rattle.asp_job.specs.Calls.{IsShared}
use Rattle.asp_app.proofs.Sharing.{found_shared, given_such}
use Rattle.asp_app.proofs.entries.Entries.value.Goals as goal

pub returns-in-Some-clause-shared : goal.returns-in-Some-clause-shared
returns-in-Some-clause-shared c =
    let found = subst (λ name. Some c.in-Some.value.now ≡ lookup (is_name name) c.self.inside.map.entries)
    c.in_ok-name.ensures c.in-Some.ensures.value in
    given_such IsShared c.copy.result c.in-Some.value.now c.copy.ensures
    (found_shared c.args.name.now c.self.inside.map.entries c.in-Some.value.now c.self.invariant.shared found)
