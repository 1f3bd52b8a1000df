-- Plain values, which a session or the application may keep. They are our own.
use Rattle.std.specs.Prelude.{◌≡◌, ℕ, ◌+◌, ◌≤◌, max, Bool, true, false, List, fold}
use Rattle.std.specs.List.{list_any}
use Rattle.vb_value.specs.declared.value.Value.{Value}
use Rattle.vb_value.specs.declared.value.Value.TheOpen.{Value-F, Array-F}
use Rattle.vb_value.specs.declared.value.Value.TheFolds.{fold-Value}

-- one value, with the answer for an array in its place
abbrev pub value_refers : Value-F Bool Bool → Bool
value_refers (Value-F.Arr refers) = refers
value_refers (Value-F.Obj object) = true
value_refers Value-F.Nothing = true
value_refers _ = false

-- one array, with the answer for each item in its place
abbrev pub array_refers : Array-F Bool Bool → Bool
array_refers array = list_any (λ refers. refers) array.items

-- whether an object or Nothing occurs in a value, at any depth
abbrev pub has_reference : Value → Bool
has_reference = fold-Value Bool Bool value_refers array_refers

-- the greatest of some numbers, 0 where there are none
abbrev pub greatest : List ℕ → ℕ
greatest numbers = fold max 0 numbers

-- one value, with the depth of an array in its place
abbrev pub value_depth : Value-F ℕ ℕ → ℕ
value_depth (Value-F.Arr depth) = depth
value_depth _ = 0

-- one array, with the depth of each item in its place
abbrev pub array_depth : Array-F ℕ ℕ → ℕ
array_depth array = 1 + greatest array.items

-- how deep the arrays of a value nest: 0 for no array, 1 for an array of values that are none
abbrev pub depth_of : Value → ℕ
depth_of = fold-Value ℕ ℕ value_depth array_depth

-- A value is plain where neither an object nor Nothing occurs in it and its arrays nest 64 deep at most.
pub record IsPlain (value : Value) : Type 0 where
  pub free : has_reference value ≡ false
  pub flat : depth_of value ≤ 64
