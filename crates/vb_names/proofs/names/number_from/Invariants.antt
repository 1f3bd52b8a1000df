use Rattle.std.proofs.Common.{◌≡◌, drop}
use Rattle.std.specs.Cmp.Lexicographic.{pointwise}
use Rattle.std.specs.List.{position_from}
use Rattle.std.proofs.Common.{nat_eq}
use Rattle.vb_value.specs.Folding.{folded}
use Rattle.vb_syntax.specs.scope.Names.{Name, number_of_key}
use Rattle.vb_names.proofs.names.number_from.Given as goal

abbrev pub invariant-loop-number : goal.invariant-loop-number
invariant-loop-number l = position_from (λ (name : Name). pointwise nat_eq l.key (folded name)) l.number (drop l.number l.names)
    ≡ number_of_key l.names l.key
