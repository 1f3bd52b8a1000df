-- Texts that are too long together.
use Rattle.std.proofs.Common.{◌≡◌, ℕ, ◌+◌, ◌<◌, Bool, false, nat_le, List, ◌++◌, length, Ok, Err, if◌then◌else◌, ap, arith}
use Rattle.std.proofs.lemmas.List.{length-append}
use Rattle.std.proofs.lemmas.Bool.Decides.{nat_tests}
use Rattle.vb_value.specs.declared.value.Value.{Str}
use Rattle.vb_value.specs.Errors.{out_of_string_space}
use Rattle.vb_value.specs.TextLimit.{limited}

pub too_long_together : (first second : List ℕ) → 1048576 < length first + length second
    → limited (first ++ second) ≡ Err out_of_string_space
too_long_together first second long =
    let both = length-append first second in
    let beyond : nat_le (length (first ++ second)) 1048576 ≡ false = grind (arith, nat_tests, both) in
    ap (λ (fits : Bool). if fits then Ok (Str (first ++ second)) else Err out_of_string_space) beyond
