use Rattle.vb_syntax.specs.grammar.Units.{strict}
use Rattle.vb_parse.proofs.ParseUnit.{unit_unique}
use Rattle.vb_parse.proofs.laws.one_unit.Goals as goal

pub returns : goal.returns
returns c = unit_unique strict 200
