-- Laws of values and their conversions.
use Rattle.std.specs.Prelude.{ℕ, ◌+◌, ◌*◌, ◌%◌, ◌<◌, ◌≤◌, ◌≡◌, ℤ, Ok, IfOk}
use Rattle.vb_value.specs.declared.value.Value.{Value, Cur, Str}
use Rattle.vb_value.specs.Conversions.{to_str_of}
use Rattle.vb_value.specs.Errors.{and_then}
use Rattle.vb_value.specs.Numbers.{rounded}
use Rattle.vb_value.specs.NumericText.{cur_of_text_of}
use Rattle.vb_value.specs.Sound.{IsSound}

-- ---- rounding

-- n is within half a unit of a count of units, and even where the count lies just between two
pub record IsNearest (unit count n : ℕ) : Type 0 where
  pub low : 2 * count ≤ 2 * (n * unit) + unit
  pub high : 2 * (n * unit) ≤ 2 * count + unit
  pub even_low : 2 * count ≡ 2 * (n * unit) + unit → n % 2 ≡ 0
  pub even_high : 2 * (n * unit) ≡ 2 * count + unit → n % 2 ≡ 0

-- what is rounded lies nearest
abbrev pub RoundsToNearest : Type 0
RoundsToNearest = (unit count : ℕ) → 0 < unit → IsNearest unit count (rounded unit count)

-- ---- texts

-- the text of a Currency reads as that Currency
abbrev pub ReadsBack : ℤ → Type 0
ReadsBack amount = and_then (to_str_of (Cur amount)) cur_of_text_of ≡ Ok amount

-- the text of a sound value is sound
abbrev pub ReadsSoundly : Value → Type 0
ReadsSoundly value = IsSound value → IfOk (to_str_of value) (λ text. IsSound (Str text))
