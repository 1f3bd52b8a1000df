-- LCase, UCase and StrReverse (VBScript 5.6, "String Functions"). Letters other than A to Z and a to z stay.
use Rattle.std.specs.Prelude.{ℕ, List, map, reverse, Result}
use Rattle.std.specs.Char.{to_ascii_uppercase}
use Rattle.vb_value.specs.declared.fault.VbError.{VbError}
use Rattle.vb_value.specs.declared.value.Value.{Value}
use Rattle.vb_value.specs.Arguments.{of_one, null_or}
use Rattle.vb_value.specs.Folding.{folded}
use Rattle.vb_strings.specs.Parts.{changed}

-- LCase(s)
abbrev pub lcase_of : List Value → Result Value VbError
lcase_of = of_one (null_or (changed folded))

-- the text with each of its letters a to z made capital
abbrev pub raised : List ℕ → List ℕ
raised = map to_ascii_uppercase

-- UCase(s)
abbrev pub ucase_of : List Value → Result Value VbError
ucase_of = of_one (null_or (changed raised))

-- StrReverse(s)
abbrev pub str_reverse_of : List Value → Result Value VbError
str_reverse_of = of_one (changed reverse)
