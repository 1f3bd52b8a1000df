use Rattle.std.proofs.Common.{◌≡◌, ◌∷◌, ◌++◌, map, take}
use Rattle.std.specs.List.{flat_map}
use Rattle.vb_value.specs.declared.token.Symbol.TheVariants as s
use Rattle.vb_syntax.specs.grammar.Rules.{Tokens}
use Rattle.vb_print.specs.Words.{symbol}
use Rattle.vb_print.specs.Units as spec
use Rattle.vb_print.proofs.declarations.print_parameters.Given as goal

abbrev pub invariant-loop-parameter : goal.invariant-loop-parameter
invariant-loop-parameter l = l.words ≡ l.initial.words ++ flat_map (λ (x : Tokens). symbol l.line s.Comma ∷ x)
    (map (spec.parameter_words l.line) (take l.parameter-index l.more))
