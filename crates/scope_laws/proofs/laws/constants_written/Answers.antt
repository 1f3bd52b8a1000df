use Rattle.scope_laws.proofs.Places.{constants_places_lem}
use Rattle.scope_laws.proofs.laws.constants_written.Goals as goal

pub returns : goal.returns
returns c = constants_places_lem
