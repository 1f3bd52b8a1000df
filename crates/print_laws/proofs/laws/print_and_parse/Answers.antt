use Rattle.std.proofs.Common.{◌∙◌, sym, subst}
use Rattle.vb_syntax.specs.grammar.Rules.{Tokens}
use Rattle.vb_syntax.specs.grammar.Units.{Derives}
use Rattle.print_laws.proofs.UnitPrinting.{printed_again}
use Rattle.print_laws.proofs.laws.print_and_parse.Goals as goal

pub returns : goal.returns
returns c tokens spelled = c.parse.ensures.only c.args.unit.now
    (subst (λ (words : Tokens). Derives words c.args.unit.now)
    (sym (c.as_slice.ensures ∙ c.in_ok-words.ensures))
    (printed_again tokens c.args.unit.now spelled))
