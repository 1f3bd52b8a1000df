-- What a stack ends as, where a `&mut` to its highest frame is returned.
use Rattle.std.specs.Prelude.{◌-◌, List, Option, length, slice_set}
use Rattle.std.specs.Borrow.{LendsIf, Fml, MutBor}
use Rattle.vb_frames.specs.contracts.stack.Placed.{the_row as placed_row}
use Rattle.vb_frames.specs.contracts.stack.Stack.{the_row as stack_row}
use Rattle.vb_frames.specs.declared.stack.Placed.{Placed}

-- once the borrow ends, the highest frame is what was last written through it
abbrev pub LendsTop : MutBor (List Placed) → Option (MutBor Placed) → Fml
LendsTop stack found = LendsIf stack_row placed_row stack found (slice_set stack.now (length stack.now - 1)) stack.now
