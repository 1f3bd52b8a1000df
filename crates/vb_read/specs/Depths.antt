-- How many more constructs may open at a place, and what is allowed there beyond the grammar.
use Rattle.std.specs.Prelude.{ℕ, zero, suc, Bool, true, false}
use Rattle.vb_syntax.specs.grammar.SimpleStatements.{Looser}
use Rattle.vb_read.specs.declared.looser.Looser.{Looser as Allowed}
use Rattle.vb_read.specs.ReadExpressions.{Inside, closed, expressions}

-- whether one more construct may open
abbrev pub opens : ℕ → Bool
opens zero = false
opens (suc depth) = true

-- the readers of the place inside it
abbrev pub inside : ℕ → Inside
inside zero = closed
inside (suc depth) = expressions depth

-- what is allowed beyond the grammar
abbrev pub rules : Allowed → Looser
rules allowed = record { several = allowed.several; texts = allowed.texts }
