use Rattle.word_laws.proofs.LongestPieces.{tokens_longest}
use Rattle.word_laws.proofs.laws.longest_words.Goals as goal

pub returns : goal.returns
returns c = tokens_longest
