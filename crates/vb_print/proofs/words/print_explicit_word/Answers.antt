use Rattle.std.proofs.Common.{List, ℕ, [], ◌∷◌, subst}
use Rattle.vb_print.specs.Words.{quoted}
use Rattle.vb_value.specs.Outcome.{Adds}
use Rattle.vb_print.proofs.Literals.{explicit_characters}
use Rattle.vb_print.proofs.words.print_explicit_word.Goals as goal

pub returns : goal.returns
returns c = subst (λ (text : List ℕ). Adds c.print_quoted.result c.args.words.now c.print_quoted.new.words
    (quoted c.args.line text ∷ [])) explicit_characters c.print_quoted.ensures
