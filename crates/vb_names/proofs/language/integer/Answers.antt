use Rattle.vb_syntax.specs.scope.Names.{integers}
use Rattle.vb_names.specs.Beginnings.{seen}
use Rattle.vb_names.proofs.Beginnings.{found_begun}
use Rattle.vb_names.proofs.language.integer.Goals as goal

pub returns : goal.returns
returns c = found_begun integers (seen c.integers.result.now) c.args.name.now c.first_letter.result
    c.among.result c.first_letter.ensures c.integers.ensures c.among.ensures
