-- The members of Err (VBScript 5.6 language reference, "Err Object").
use Rattle.std.specs.Prelude.{ℕ, ℤ, pos, if◌then◌else◌, List, [], ◌∷◌, Option, Some, None, Result, Ok, Err}
use Rattle.std.specs.Ordering.{int_eq}
use Rattle.vb_value.specs.declared.fault.VbError.{VbError}
use Rattle.vb_value.specs.declared.value.Value.{Value, Empty, Long, Str}
use Rattle.vb_value.specs.Conversions.{to_long_of, to_str_of}
use Rattle.vb_value.specs.ErrorText.{error_text_of}
use Rattle.vb_value.specs.Errors.{wrong_number, unsupported, invalid_call, and_then}
use Rattle.vb_syntax.specs.declared.program.name.ErrMember.{ErrMember}
use Rattle.vb_syntax.specs.declared.program.name.ErrMember.TheVariants as err
use Rattle.vb_meaning.specs.declared.cause.Cause.TheVariants.{Raised as ByRaise}
use Rattle.vb_meaning.specs.declared.cause.Raised.{Raised}
use Rattle.vb_meaning.specs.declared.stop.Stop.TheVariants as stop
use Rattle.vb_meaning.specs.World.{World}
use Rattle.vb_meaning.specs.Errors.{cleared, with_err, language_source}
use Rattle.vb_meaning.specs.Step.{Returns, Ends, Run, ◌>>=◌, given, fails}

-- a text, or another one where it is left out
abbrev pub text_or : List ℕ → Option Value → Result (List ℕ) VbError
text_or otherwise (Some value) = to_str_of value
text_or otherwise None = Ok otherwise

-- what Raise raises: number 0 is Invalid procedure call or argument
abbrev pub raised : ℤ → Option Value → Option Value → Result Raised VbError
raised number source description = if int_eq number (pos 0) then Err invalid_call else
    and_then (text_or language_source source) (λ from. and_then (text_or (error_text_of number) description) (λ what.
    Ok (record { number = number; source = from; description = what })))

-- the number, the source and the description among the arguments of Raise
abbrev pub raise_of : List Value → Result Raised VbError
raise_of (number ∷ []) = and_then (to_long_of number) (λ n. raised n None None)
raise_of (number ∷ source ∷ []) = and_then (to_long_of number) (λ n. raised n (Some source) None)
raise_of (number ∷ source ∷ description ∷ []) =
    and_then (to_long_of number) (λ n. raised n (Some source) (Some description))
raise_of _ = Err wrong_number

-- Err.Raise: the error arises
abbrev pub raise : {A : Type 0} → List Value → Run World A
raise arguments = given (raise_of arguments) >>= (λ error world. Ends (stop.Error (ByRaise error) None) world)

-- what Err says where a member of it is read or called; Raise and another name are elsewhere
unfoldable pub err_value : ErrMember → List Value → Run World Value
err_value err.Number [] world = Returns (Long world.err.number) world
err_value err.Description [] world = Returns (Str world.err.description) world
err_value err.Source [] world = Returns (Str world.err.source) world
err_value err.Clear [] world = Returns Empty (cleared world)
err_value err.Raise arguments world = raise arguments world
err_value err.Absent arguments world = fails unsupported world
err_value _ arguments world = fails wrong_number world

-- a member of Err that is assigned to
unfoldable pub set_err : ErrMember → Value → Run World (Unit {0})
set_err err.Number value world = (given (to_long_of value) >>= (λ number w.
    Returns tt (with_err (record w.err { number = number }) w))) world
set_err err.Description value world = (given (to_str_of value) >>= (λ text w.
    Returns tt (with_err (record w.err { description = text }) w))) world
set_err err.Source value world = (given (to_str_of value) >>= (λ text w.
    Returns tt (with_err (record w.err { source = text }) w))) world
set_err _ value world = fails unsupported world
