use Rattle.asp_response.proofs.Heads.{head_is_whole}
use Rattle.asp_response.proofs.laws.heads_are_whole.Goals as goal

pub returns : goal.returns
returns c = head_is_whole
