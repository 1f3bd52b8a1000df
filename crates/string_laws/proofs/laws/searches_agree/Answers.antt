use Rattle.string_laws.proofs.SearchLaws.{searches_agree}
use Rattle.string_laws.proofs.laws.searches_agree.Goals as goal

pub returns : goal.returns
returns c = searches_agree
