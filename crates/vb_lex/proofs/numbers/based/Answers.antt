use Rattle.std.proofs.Common.{sym, ◌∙◌}
use Rattle.std.proofs.lemmas.List.{take_rest}
use Rattle.vb_lex.specs.Characters.{is_in}
use Rattle.vb_lex.proofs.NumberLemmas.{based_is}
use Rattle.vb_lex.proofs.numbers.based.Goals as goal

pub returns-else-is_spoilt : goal.returns-else-is_spoilt
returns-else-is_spoilt c =
    based_is c.args.base (is_in c.args.class) c.args.text.now c.run-count.result c.value.result c.character.result
    c.based_kind.result
    (simp take_rest at c.run-count.ensures.value)
    (simp take_rest at (sym c.if-is_spoilt.false ∙ c.is_spoilt.ensures))
    (simp take_rest at c.value.ensures)
    (simp take_rest at c.character.ensures.value)
    c.based_kind.ensures
