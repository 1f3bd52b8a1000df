use Rattle.word_laws.proofs.Laid.{tokens_laid}
use Rattle.word_laws.proofs.laws.tokens_in_order.Goals as goal

pub returns : goal.returns
returns c = tokens_laid
