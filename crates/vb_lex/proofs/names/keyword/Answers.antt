use Rattle.std.proofs.Common.{rules, arith}
use Rattle.std.proofs.lemmas.Grind.{common_steps}
use Rattle.vb_lex.specs.Names.{keyword}
use Rattle.vb_lex.proofs.names.keyword.Goals as goal

pub returns : goal.returns
unfolding keyword
returns c = first_of (search rules, grind (arith, common_steps))
