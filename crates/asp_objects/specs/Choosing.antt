-- Which entry of Session or Application is meant, and which values they keep.
use Rattle.std.specs.Prelude.{ℕ, nat_le, ℤ, negsuc, int_le, Bool, not, ◌&&◌, ◌==◌, if◌then◌else◌, List, length, Result, Ok, Err}
use Rattle.std.specs.List.{list_all}
use Rattle.vb_value.specs.declared.value.Array.{Array}
use Rattle.vb_value.specs.declared.value.Value.{Value, Int, Long, Cur}
use Rattle.vb_value.specs.Errors.{type_mismatch}
use Rattle.vb_value.specs.Folding.{folded}
use Rattle.vb_value.specs.Plain.{has_reference, depth_of}
use Rattle.vb_value.specs.Sound.{is_sound, item_count}
use Rattle.vb_syntax.specs.declared.act.AskStop.{AskStop}
use Rattle.asp_job.specs.Calls.{IsName}
use Rattle.asp_objects.specs.declared.choosing.Chosen.{Chosen}
use Rattle.asp_objects.specs.declared.choosing.Chosen.TheVariants as which
use Rattle.asp_objects.specs.Given.{failed, and_then, text_in, long_in}

-- the entry of the name that a value is made
abbrev pub named : Value → Result Chosen AskStop
named key = and_then (text_in key) (λ name. Ok (which.Name (folded name)))

-- A number means the entry at that place; another value is made a text, and means the entry of that name, folded.
abbrev pub chosen : Value → Result Chosen AskStop
chosen (Int n) = and_then (long_in (Int n)) (λ place. Ok (which.Place place))
chosen (Long n) = and_then (long_in (Long n)) (λ place. Ok (which.Place place))
chosen (Cur n) = and_then (long_in (Cur n)) (λ place. Ok (which.Place place))
chosen key = named key

-- a name that is meant is folded
abbrev pub IsChosen : Chosen → Type 0
IsChosen (which.Name name) = IsName name
IsChosen (which.Place place) = Unit {0}

-- a bound that a dimension may have: -1 at least
abbrev pub is_bound : ℤ → Bool
is_bound bound = int_le (negsuc 0) bound

-- how many bounds an array may have, and which
abbrev pub are_bounds : List ℤ → Bool
are_bounds bounds = nat_le (length bounds) 60 && list_all is_bound bounds

-- an array has bounds that it may have, and as many items as they say
abbrev pub has_shape : Array → Bool
has_shape array = are_bounds array.bounds && (length array.items == item_count array.bounds)

-- whether runs may share a value: neither an object nor Nothing occurs in it, its arrays nest 64 deep at most, and it is sound
abbrev pub is_shared : Value → Bool
is_shared value = (not (has_reference value) && nat_le (depth_of value) 64) && is_sound value

-- a value that is to be kept; Type mismatch for one that may not be
abbrev pub shared : Value → Result Value AskStop
shared value = if is_shared value then Ok value else failed type_mismatch
