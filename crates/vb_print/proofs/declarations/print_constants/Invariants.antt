use Rattle.std.proofs.Common.{◌≡◌, ◌∷◌, ◌++◌, map, take}
use Rattle.std.specs.List.{flat_map}
use Rattle.vb_value.specs.declared.token.Symbol.TheVariants as s
use Rattle.vb_syntax.specs.grammar.Rules.{Tokens}
use Rattle.vb_print.specs.Words.{symbol}
use Rattle.vb_print.specs.Statements as spec
use Rattle.vb_print.proofs.declarations.print_constants.Given as goal

abbrev pub invariant-loop-constant : goal.invariant-loop-constant
invariant-loop-constant l = l.words ≡ l.initial.words ++ flat_map (λ (x : Tokens). symbol l.line s.Comma ∷ x)
    (map (spec.constant_words l.line) (take l.constant-index l.more))
