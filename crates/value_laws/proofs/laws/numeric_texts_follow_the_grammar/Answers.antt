use Rattle.value_laws.proofs.NumericTexts.{follows_grammar}
use Rattle.value_laws.proofs.laws.numeric_texts_follow_the_grammar.Goals as goal

pub returns : goal.returns
returns c = follows_grammar c.args.text.now
