-- StrComp, and how characters are compared (VBScript 5.6, "StrComp Function"; "Comparison Constants").
use Rattle.std.specs.Prelude.{ℕ, Bool, ◌||◌, ◌==◌, if◌then◌else◌, ℤ, pos, negsuc, List, [], ◌∷◌, map}
use Rattle.std.specs.Prelude.{Result, Ok, Err}
use Rattle.std.specs.declared.cmp.Ordering.{Ordering}
use Rattle.std.specs.declared.cmp.Ordering.TheVariants.{Less, Equal, Greater}
use Rattle.std.specs.Char.{to_ascii_lowercase}
use Rattle.std.specs.Cmp.Lexicographic.{slice_cmp}
use Rattle.std.specs.Ordering.{nat_cmp}
use Rattle.vb_value.specs.declared.fault.VbError.{VbError}
use Rattle.vb_value.specs.declared.value.Value.{Value, Null, Int}
use Rattle.vb_value.specs.Arguments.{is_null}
use Rattle.vb_value.specs.Conversions.{to_long_of, to_str_of}
use Rattle.vb_value.specs.Errors.{wrong_number, and_then, invalid_call}
use Rattle.vb_strings.specs.declared.comparing.Comparison.{Comparison}
use Rattle.vb_strings.specs.declared.comparing.Comparison.TheVariants.{Exact, AnyCase}

-- the comparison that a number names: 0 or 1
abbrev pub named : ℤ → Result Comparison VbError
named (pos n) = if n == 0 then Ok Exact else if n == 1 then Ok AnyCase else Err invalid_call
named (negsuc less) = Err invalid_call

-- the comparison that an argument names
abbrev pub comparison_of : Value → Result Comparison VbError
comparison_of value = and_then (to_long_of value) named

-- what a character counts as: itself, or without case a small letter for A to Z
abbrev pub counted : Comparison → ℕ → ℕ
counted Exact character = character
counted AnyCase character = to_ascii_lowercase character

-- whether two characters are the same
abbrev pub same : Comparison → ℕ → ℕ → Bool
same comparison a b = counted comparison a == counted comparison b

-- -1, 0 or 1
abbrev pub sign_of : Ordering → ℤ
sign_of Less = negsuc 0
sign_of Equal = pos 0
sign_of Greater = pos 1

-- how two texts compare: by the first characters that differ, and else the shorter one is less
abbrev pub order_of : Comparison → List ℕ → List ℕ → Ordering
order_of comparison a b = slice_cmp nat_cmp (map (counted comparison) a) (map (counted comparison) b)

-- two values compared as texts; Null where either is Null
abbrev pub compared : Value → Value → Result Comparison VbError → Result Value VbError
compared a b comparison =
    if is_null a || is_null b then Ok Null
    else and_then (to_str_of a) (λ first. and_then (to_str_of b) (λ second.
    and_then comparison (λ chosen. Ok (Int (sign_of (order_of chosen first second))))))

-- StrComp(a, b [, cmp]), an Integer
abbrev pub str_comp_of : List Value → Result Value VbError
str_comp_of (a ∷ b ∷ []) = compared a b (Ok Exact)
str_comp_of (a ∷ b ∷ comparison ∷ []) = compared a b (comparison_of comparison)
str_comp_of _ = Err wrong_number
