use Rattle.vb_syntax.specs.scope.Names.{string_functions}
use Rattle.vb_names.specs.Beginnings.{seen}
use Rattle.vb_names.proofs.Beginnings.{found_begun}
use Rattle.vb_names.proofs.language.string_function.Goals as goal

pub returns : goal.returns
returns c = found_begun string_functions (seen c.string_functions.result.now) c.args.name.now c.first_letter.result
    c.among.result c.first_letter.ensures c.string_functions.ensures c.among.ensures
