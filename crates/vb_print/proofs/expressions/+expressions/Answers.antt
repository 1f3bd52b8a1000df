use Rattle.std.proofs.Common.{◌≡◌, ◌++◌, map, refl, ap, ◌∙◌}
use Rattle.std.specs.List.{flat_map}
use Rattle.vb_syntax.specs.grammar.Rules.{Tokens}
use Rattle.vb_print.specs.Expressions as spec
use Rattle.vb_print.proofs.Adding.{adds_more}
use Rattle.vb_print.proofs.ChainWords.{words-chain}
use Rattle.vb_print.proofs.expressions.+expressions.Goals as goal

pub print_expression-returns-in_ok-print_expression-in-Chain :
    goal.print_expression-returns-in_ok-print_expression-in-Chain
print_expression-returns-in_ok-print_expression-in-Chain t c =
    let first = spec.expression_words c.args.line c.get-in-Chain.result.now in
    let rest = flat_map (λ (x : Tokens). x) (map (spec.operation_words c.args.line) c.as_slice.result.now) in
    let whole : spec.expression_words c.args.line c.args.expression.now ≡ first ++ rest =
    ap (spec.expression_words c.args.line) c.in-Chain.is
    ∙ words-chain c.args.line c.in-Chain.first c.in-Chain.rest
    ∙ rw (c.get-in-Chain.ensures, c.as_slice.ensures) refl in
    adds_more _ _ _ _ first rest _ c.in_ok-print_expression-in-Chain.ensures whole c.print_operations.ensures
