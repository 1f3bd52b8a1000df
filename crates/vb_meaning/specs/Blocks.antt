-- Statements one after the other, and what an Exit leaves.
use Rattle.std.specs.Prelude.{List, [], ◌∷◌}
use Rattle.vb_syntax.specs.declared.program.statement.Statement.{Statement}
use Rattle.vb_meaning.specs.declared.world.Exit.{Exit}
use Rattle.vb_meaning.specs.declared.world.Exit.TheVariants.{Next, Leave}
use Rattle.vb_meaning.specs.Inner.{Inner}
use Rattle.vb_meaning.specs.State.{Does}
use Rattle.vb_meaning.specs.Step.{◌>>=◌, pure}

module _ (E : Type 0) (m : Inner E) where
  -- what follows a statement, unless an Exit leaves the block
  abbrev pub after : Does E Exit → Exit → Does E Exit
  after rest Next = rest
  after rest (Leave kind) = pure (Leave kind)

  -- statements one after the other
  abbrev pub block : List Statement → Does E Exit
  block [] = pure Next
  block (first ∷ others) = m.statement first >>= after (block others)
