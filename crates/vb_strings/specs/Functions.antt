-- What each function gives of a list of arguments (VBScript 5.6, "String Functions").
use Rattle.std.specs.Prelude.{List, Result}
use Rattle.vb_value.specs.declared.fault.VbError.{VbError}
use Rattle.vb_value.specs.declared.function.StrFn.{StrFn}
use Rattle.vb_value.specs.declared.function.StrFn.TheVariants.{Len, Left, Right, Mid, InStr, InStrRev, LCase}
use Rattle.vb_value.specs.declared.function.StrFn.TheVariants.{UCase, Trim, LTrim, RTrim, Replace, Split, Join}
use Rattle.vb_value.specs.declared.function.StrFn.TheVariants.{StrReverse, Space, String, StrComp, Asc, AscW}
use Rattle.vb_value.specs.declared.function.StrFn.TheVariants.{Chr, ChrW}
use Rattle.vb_value.specs.declared.value.Value.{Value}
use Rattle.vb_strings.specs.Results.{bounded}
use Rattle.vb_strings.specs.Parts.{len_of, left_of, right_of, mid_of, trim_of, ltrim_of, rtrim_of}
use Rattle.vb_strings.specs.Searching.{in_str_of, in_str_rev_of}
use Rattle.vb_strings.specs.Letters.{lcase_of, ucase_of, str_reverse_of}
use Rattle.vb_strings.specs.Replacing.{replace_of}
use Rattle.vb_strings.specs.Splitting.{split_of}
use Rattle.vb_strings.specs.Joining.{join_of}
use Rattle.vb_strings.specs.Repeating.{space_of, string_of}
use Rattle.vb_strings.specs.Comparing.{str_comp_of}
use Rattle.vb_strings.specs.Characters.{asc_of, chr_of}

-- what a function gives of its arguments where texts have no limit
abbrev pub unbounded : StrFn → List Value → Result Value VbError
unbounded Len arguments = len_of arguments
unbounded Left arguments = left_of arguments
unbounded Right arguments = right_of arguments
unbounded Mid arguments = mid_of arguments
unbounded InStr arguments = in_str_of arguments
unbounded InStrRev arguments = in_str_rev_of arguments
unbounded LCase arguments = lcase_of arguments
unbounded UCase arguments = ucase_of arguments
unbounded Trim arguments = trim_of arguments
unbounded LTrim arguments = ltrim_of arguments
unbounded RTrim arguments = rtrim_of arguments
unbounded Replace arguments = replace_of arguments
unbounded Split arguments = split_of arguments
unbounded Join arguments = join_of arguments
unbounded StrReverse arguments = str_reverse_of arguments
unbounded Space arguments = space_of arguments
unbounded String arguments = string_of arguments
unbounded StrComp arguments = str_comp_of arguments
unbounded Asc arguments = asc_of arguments
unbounded AscW arguments = asc_of arguments
unbounded Chr arguments = chr_of arguments
unbounded ChrW arguments = chr_of arguments

-- what a function gives of its arguments
abbrev pub call_string_of : StrFn → List Value → Result Value VbError
call_string_of function arguments = bounded (unbounded function arguments)
