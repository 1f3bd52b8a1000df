-- The limits on the data of a page.
use Rattle.std.specs.Prelude.{ℕ, ◌+◌, nat_le, nat_lt, Bool, ◌&&◌, if◌then◌else◌, length, Result, Ok, Err}
use Rattle.vb_value.specs.declared.limit.LimitKind.TheVariants.{Data, Nest}
use Rattle.vb_value.specs.declared.value.Value.{Value}
use Rattle.vb_value.specs.Plain.{depth_of}
use Rattle.vb_heap.specs.declared.fault.HeapStop.{HeapStop}
use Rattle.vb_heap.specs.declared.fault.HeapStop.TheVariants.{Limit}
use Rattle.vb_heap.specs.Store.{Store}
use Rattle.vb_heap.specs.PageWeight.{weight_of_page}

-- 16 MiB
abbrev pub most_weight : ℕ
most_weight = 16777216

-- how many objects may be made
abbrev pub most_objects : ℕ
most_objects = 4294967295

-- how many cells may be made
abbrev pub most_cells : ℕ
most_cells = 18446744073709551615

-- how many references may be held
abbrev pub most_held : ℕ
most_held = 1048576

-- how deep arrays may nest
abbrev pub most_depth : ℕ
most_depth = 64

-- whether the data keep within the limits that are told as Data
abbrev pub fits : Store → Bool
fits store =
    nat_le (weight_of_page store) most_weight && nat_le store.objects_made most_objects
    && nat_le store.cells_made most_cells && nat_le (length store.held) most_held

-- what a call answers that would leave these data: the limit Data where they do not fit
abbrev pub if_fits : {T : Type 0} → Store → T → Result T HeapStop
if_fits store answer = if fits store then Ok answer else Err (Limit Data)

-- whether a value that lies so many arrays deep makes arrays nest too deep
abbrev pub is_too_deep : ℕ → Value → Bool
is_too_deep depth value = nat_lt most_depth (depth + depth_of value)

-- what a call answers that puts a value so many arrays deep and would leave these data: the limit Nest comes first
abbrev pub if_fits_at : {T : Type 0} → ℕ → Value → Store → T → Result T HeapStop
if_fits_at depth value store answer =
    if is_too_deep depth value then Err (Limit Nest) else if_fits store answer
