use Rattle.std.proofs.Common.{◌≡◌, ◌∷◌, ◌++◌, map, take}
use Rattle.std.specs.List.{flat_map}
use Rattle.vb_value.specs.declared.token.Symbol.TheVariants as s
use Rattle.vb_syntax.specs.grammar.Rules.{Tokens}
use Rattle.vb_print.specs.Words.{symbol}
use Rattle.vb_print.specs.Statements as spec
use Rattle.vb_print.proofs.simple.print_arrays.Given as goal

abbrev pub invariant-loop-array : goal.invariant-loop-array
invariant-loop-array l = l.words ≡ l.initial.words ++ flat_map (λ (x : Tokens). symbol l.line s.Comma ∷ x)
    (map (spec.resized_words l.line) (take l.array-index l.more))
