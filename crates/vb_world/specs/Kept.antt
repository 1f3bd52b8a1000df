-- Arrays with the items that were there, as far as they are made.
use Rattle.std.specs.Prelude.{ℕ, ◌+◌, min, false, List, length, ℤ}
use Rattle.vb_value.specs.declared.value.Array.{Array}
use Rattle.vb_value.specs.Sound.{item_count}
use Rattle.vb_meaning.specs.Statements.{items_kept}

-- how many items are made: no more than make it too heavy
abbrev pub most_kept : Array → List ℤ → ℕ
most_kept array bounds = min (item_count bounds) (length array.items + 524288)

-- an array of so many items, of which the first were there
abbrev pub kept : Array → List ℤ → ℕ → Array
kept array bounds count = record { bounds = bounds; fixed = false; items = items_kept array.items count }
