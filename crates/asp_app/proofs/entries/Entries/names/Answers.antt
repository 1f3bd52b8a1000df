use Rattle.std.specs.List.{All}
use Rattle.std.specs.Map.{keys_of}
use Rattle.asp_job.specs.Calls.{IsName}
use Rattle.asp_app.proofs.Sharing.{given_such, names_folded}
use Rattle.asp_app.proofs.entries.Entries.names.Goals as goal

pub returns-clause-shared : goal.returns-clause-shared
returns-clause-shared c =
    given_such (All IsName) c.names_of.result (keys_of c.self.inside.map.entries) c.names_of.ensures
    (names_folded c.self.inside.map.entries c.self.invariant.shared)
