-- CBool, CCur, CInt, CLng and CStr (VBScript 5.6, "Conversion Functions").
use Rattle.std.specs.Prelude.{List, Result, Ok}
use Rattle.vb_value.specs.declared.fault.VbError.{VbError}
use Rattle.vb_value.specs.declared.value.Value.{Value, Bool as Boolean, Int, Long, Cur}
use Rattle.vb_value.specs.Conversions.{to_bool_of, to_cur_of, to_int_of, to_long_of, to_str_of}
use Rattle.vb_value.specs.Errors.{and_then}
use Rattle.vb_value.specs.TextLimit.{limited}
use Rattle.vb_value.specs.Arguments.{of_one}

-- CBool(x)
abbrev pub cbool_of : List Value → Result Value VbError
cbool_of = of_one (λ x. and_then (to_bool_of x) (λ truth. Ok (Boolean truth)))

-- CCur(x)
abbrev pub ccur_of : List Value → Result Value VbError
ccur_of = of_one (λ x. and_then (to_cur_of x) (λ n. Ok (Cur n)))

-- CInt(x)
abbrev pub cint_of : List Value → Result Value VbError
cint_of = of_one (λ x. and_then (to_int_of x) (λ n. Ok (Int n)))

-- CLng(x)
abbrev pub clng_of : List Value → Result Value VbError
clng_of = of_one (λ x. and_then (to_long_of x) (λ n. Ok (Long n)))

-- CStr(x)
abbrev pub cstr_of : List Value → Result Value VbError
cstr_of = of_one (λ x. and_then (to_str_of x) limited)
