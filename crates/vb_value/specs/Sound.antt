-- Sound values: those that calls are given and give.
use Rattle.std.specs.Prelude.{ℕ, ◌+◌, ◌*◌, ◌^◌, Bool, true, ◌&&◌, ◌==◌, nat_lt, nat_le, ℤ, pos, negsuc, List}
use Rattle.std.specs.Prelude.{[], ◌∷◌, length, IsTrue, int_le}
use Rattle.std.specs.List.{list_all}
use Rattle.vb_value.specs.declared.value.Value.{Value}
use Rattle.vb_value.specs.declared.value.Value.TheOpen.{Value-F, Array-F}
use Rattle.vb_value.specs.declared.value.Value.TheFolds.{fold-Value}

-- how many places a dimension has: one more than its bound
abbrev pub places : ℤ → ℕ
places (pos bound) = bound + 1
places (negsuc less) = 0

-- how many items an array of these bounds has: the product of the places of its dimensions
abbrev pub product : List ℤ → ℕ
product [] = 1
product (bound ∷ bounds) = places bound * product bounds

-- the same, but none without dimensions
abbrev pub item_count : List ℤ → ℕ
item_count [] = 0
item_count (bound ∷ bounds) = product (bound ∷ bounds)

-- one value, with the answer for an array in its place: a text has fewer than 2^31 characters
abbrev pub value_sound : Value-F Bool Bool → Bool
value_sound (Value-F.Str text) = nat_lt (length text) (2 ^ 31)
value_sound (Value-F.Arr sound) = sound
value_sound _ = true

-- one array, with the answer for each item in its place: at most 60 bounds, each -1 at least, and as many
-- items as they say
abbrev pub array_sound : Array-F Bool Bool → Bool
array_sound array = nat_le (length array.bounds) 60
    && list_all (λ bound. int_le (negsuc 0) bound) array.bounds
    && (length array.items == item_count array.bounds)
    && list_all (λ sound. sound) array.items

-- whether a value is sound
abbrev pub is_sound : Value → Bool
is_sound = fold-Value Bool Bool value_sound array_sound

-- a sound value
abbrev pub IsSound : Value → Type 0
IsSound value = IsTrue (is_sound value)
