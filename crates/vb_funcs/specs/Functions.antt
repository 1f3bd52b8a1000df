-- What each function gives of a list of arguments (VBScript 5.6, "Functions").
use Rattle.std.specs.Prelude.{List, Result, Ok}
use Rattle.vb_value.specs.declared.fault.VbError.{VbError}
use Rattle.vb_value.specs.declared.function.PlainFn.{PlainFn}
use Rattle.vb_value.specs.declared.function.PlainFn.TheVariants.{Abs, Int, Fix, Sgn, CBool, CCur, CInt, CLng, CStr}
use Rattle.vb_value.specs.declared.function.PlainFn.TheVariants.{Hex, Oct, IsArray, IsEmpty, IsNull, IsObject}
use Rattle.vb_value.specs.declared.function.PlainFn.TheVariants.{IsNumeric, VarType, Array, UBound, LBound}
use Rattle.vb_value.specs.declared.value.Value.{Value}
use Rattle.vb_value.specs.Arguments.{is_empty, is_null}
use Rattle.vb_funcs.specs.Arithmetic.{abs_of, int_of, fix_of, sgn_of}
use Rattle.vb_funcs.specs.Converting.{cbool_of, ccur_of, cint_of, clng_of, cstr_of}
use Rattle.vb_funcs.specs.Bases.{hex_of, oct_of}
use Rattle.vb_funcs.specs.Testing.{tested, is_array, is_object, is_numeric, var_type_of}
use Rattle.vb_funcs.specs.Arrays.{array_of, ubound_of, lbound_of}

-- what a function gives of its arguments
abbrev pub call_func_of : PlainFn → List Value → Result Value VbError
call_func_of Abs arguments = abs_of arguments
call_func_of Int arguments = int_of arguments
call_func_of Fix arguments = fix_of arguments
call_func_of Sgn arguments = sgn_of arguments
call_func_of CBool arguments = cbool_of arguments
call_func_of CCur arguments = ccur_of arguments
call_func_of CInt arguments = cint_of arguments
call_func_of CLng arguments = clng_of arguments
call_func_of CStr arguments = cstr_of arguments
call_func_of Hex arguments = hex_of arguments
call_func_of Oct arguments = oct_of arguments
call_func_of IsArray arguments = tested is_array arguments
call_func_of IsEmpty arguments = tested is_empty arguments
call_func_of IsNull arguments = tested is_null arguments
call_func_of IsObject arguments = tested is_object arguments
call_func_of IsNumeric arguments = tested is_numeric arguments
call_func_of VarType arguments = var_type_of arguments
call_func_of Array arguments = Ok (array_of arguments)
call_func_of UBound arguments = ubound_of arguments
call_func_of LBound arguments = lbound_of arguments
