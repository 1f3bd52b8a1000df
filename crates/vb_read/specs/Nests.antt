-- A function value that reads the blocks inside a place.
use Rattle.std.specs.Prelude.{◌≡◌, ℕ, suc, List, Result}
use Rattle.std.specs.declared.alloc.Global.{Global}
use denote.Ref.{MutBor}
use Rattle.vb_value.specs.Outcome.{Runs}
use Rattle.vb_syntax.specs.declared.statement.Statement.{Statement}
use Rattle.vb_read.specs.declared.cursor.Cursor.{Cursor}
use Rattle.vb_read.specs.declared.cursor.ReadStop.{ReadStop}
use Rattle.vb_read.specs.declared.looser.Looser.{Looser as Allowed}
use Rattle.vb_read.specs.ReadStatements.{blocks}
use Rattle.vb_read.specs.Reader.{stopped_at}
use Rattle.vb_read.specs.Depths.{rules}

-- It may be called for the place inside a construct that opens here, and reads what a block there is.
pub record Nests (looser : Allowed) (depth : ℕ) (pre : Global → MutBor Cursor → Allowed → ℕ → Type 0)
    (post : Global → MutBor Cursor → Allowed → ℕ → Result (List Statement) ReadStop
    → MutBor Cursor → Type 0) : Type 0 where
  pub callable : (alloc : Global) (old : MutBor Cursor) (within : ℕ) → depth ≡ suc within → pre alloc old looser within
  pub reads : (alloc : Global) (old new : MutBor Cursor) (within : ℕ) (r : Result (List Statement) ReadStop)
      → depth ≡ suc within → post alloc old looser within r new
      → Runs r stopped_at new.now.rest.now ((blocks (rules looser) within).block old.now.rest.now)
