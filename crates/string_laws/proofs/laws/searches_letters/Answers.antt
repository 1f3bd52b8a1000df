use Rattle.string_laws.proofs.SearchLaws.{searches_letters}
use Rattle.string_laws.proofs.laws.searches_letters.Goals as goal

pub returns : goal.returns
returns c = searches_letters
