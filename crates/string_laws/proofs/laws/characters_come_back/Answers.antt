use Rattle.string_laws.proofs.CharacterLaws.{characters_come_back}
use Rattle.string_laws.proofs.laws.characters_come_back.Goals as goal

pub returns : goal.returns
returns c = characters_come_back
