use Rattle.scope_laws.proofs.Places.{redefined_places_lem}
use Rattle.scope_laws.proofs.laws.redefined_later.Goals as goal

pub returns : goal.returns
returns c = redefined_places_lem
