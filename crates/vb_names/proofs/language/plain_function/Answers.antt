use Rattle.vb_syntax.specs.scope.Names.{plain_functions}
use Rattle.vb_names.specs.Beginnings.{seen}
use Rattle.vb_names.proofs.Beginnings.{found_begun}
use Rattle.vb_names.proofs.language.plain_function.Goals as goal

pub returns : goal.returns
returns c = found_begun plain_functions (seen c.plain_functions.result.now) c.args.name.now c.first_letter.result
    c.among.result c.first_letter.ensures c.plain_functions.ensures c.among.ensures
