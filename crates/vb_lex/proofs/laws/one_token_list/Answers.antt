use Rattle.vb_lex.proofs.Unique.{tokens_one}
use Rattle.vb_lex.proofs.laws.one_token_list.Goals as goal

pub returns : goal.returns
returns c = tokens_one
