use Rattle.word_laws.proofs.Answered.{answered}
use Rattle.word_laws.proofs.laws.some_answer.Goals as goal

pub returns : goal.returns
returns c = answered
