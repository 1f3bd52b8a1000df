-- Held values: what an expression yields is held to the end of its statement. Of a held value its references
-- are kept.
use Rattle.std.specs.Prelude.{ℕ, ◌++◌, take, Result}
use Rattle.vb_value.specs.declared.value.Value.{Value}
use Rattle.vb_heap.specs.declared.fault.HeapStop.{HeapStop}
use Rattle.vb_heap.specs.Limits.{if_fits}
use Rattle.vb_heap.specs.References.{references}
use Rattle.vb_heap.specs.Store.{Store}

-- `hold`: a value is held
abbrev pub with_held : Value → Store → Store
with_held value store = record store { held = store.held ++ references value }

-- what it answers
abbrev pub hold_of : Value → Store → Result (Unit {0}) HeapStop
hold_of value store = if_fits (with_held value store) tt

-- `let_go`: what was held after a mark, which is how many references were held, is held no more
abbrev pub let_go_to : ℕ → Store → Store
let_go_to mark store = record store { held = take mark store.held }
