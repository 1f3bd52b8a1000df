-- Rounding by quotient and rest.
use Rattle.std.proofs.Common.{◌≡◌, ℕ, ◌+◌, ◌*◌, ◌/◌, ◌%◌, ◌<◌, nat_lt, if◌then◌else◌, refl, sym, ap, ◌∙◌, arith}
use Rattle.std.specs.declared.cmp.Ordering.{Ordering}
use Rattle.std.specs.declared.cmp.Ordering.TheVariants.{Less, Equal, Greater}
use Rattle.std.specs.Ordering.{nat_cmp}
use Rattle.std.proofs.lemmas.Bool.Decides.{nat_tests}
use Rattle.std.proofs.Math.Nat.{mul-add-mod_self_right}
use Rattle.std.proofs.lemmas.Nat.{div-mul-add, mod-mul-add, mod_below, div-add-mod'}
use Rattle.vb_value.specs.Numbers.{rounded}

-- a quotient whose rest is so, against half a unit
abbrev pub rounded_by : Ordering → ℕ → ℕ
rounded_by Less quotient = quotient
rounded_by Equal quotient = quotient + quotient % 2
rounded_by Greater quotient = quotient + 1

abbrev tested : ℕ → ℕ → ℕ → ℕ
tested unit quotient rest =
    if nat_lt (2 * rest) unit then quotient
    else if nat_lt unit (2 * rest) then quotient + 1
    else quotient + quotient % 2

tested_is : (unit quotient rest : ℕ) → tested unit quotient rest ≡ rounded_by (nat_cmp (2 * rest) unit) quotient
tested_is unit quotient rest = grind (arith, nat_tests)

-- a count, by its quotient and its rest
pub rounded_is : (unit quotient rest count : ℕ) → count ≡ quotient * unit + rest → rest < unit
    → rounded unit count ≡ rounded_by (nat_cmp (2 * rest) unit) quotient
unfolding rounded
rounded_is unit quotient rest count is below =
    let whole : count / unit ≡ quotient = rw is (div-mul-add quotient unit rest below) in
    let left : count % unit ≡ rest = rw is (mod-mul-add quotient unit rest below) in
    rw (whole, left) (tested_is unit quotient rest)

coarse : (unit fine rest : ℕ) → unit ≡ fine * 10000 → nat_cmp (2 * (rest * 10000)) unit ≡ nat_cmp (2 * rest) fine
coarse unit fine rest is = grind (arith, nat_tests)

-- the same in a unit of a ten-thousandth
pub rounded_fine : (unit fine quotient rest count : ℕ) → unit ≡ fine * 10000
    → count ≡ quotient * unit + rest * 10000 → rest < fine
    → rounded unit count ≡ rounded_by (nat_cmp (2 * rest) fine) quotient
rounded_fine unit fine quotient rest count is parts below =
    rounded_is unit quotient (rest * 10000) count parts (omega arith)
    ∙ ap (λ order. rounded_by order quotient) (coarse unit fine rest is)

nothing_left : (unit quotient : ℕ) → 0 < unit → rounded_by (nat_cmp (2 * 0) unit) quotient ≡ quotient
nothing_left unit quotient some = grind (arith, nat_tests)

-- a count of whole units
pub rounded_whole : (unit quotient count : ℕ) → count ≡ quotient * unit → 0 < unit → rounded unit count ≡ quotient
rounded_whole unit quotient count is some =
    rounded_is unit quotient 0 count (omega arith) some ∙ nothing_left unit quotient some

even_by : (half quotient : ℕ) (order : Ordering)
    → rounded_by order (half * 2 + quotient) ≡ half * 2 + rounded_by order quotient
even_by half quotient Less = refl
even_by half quotient Equal = omega (arith, mul-add-mod_self_right half 2 quotient)
even_by half quotient Greater = grind arith

-- an even number of whole units beside a count
pub rounded_even : (unit half count : ℕ) → 0 < unit
    → rounded unit (half * 2 * unit + count) ≡ half * 2 + rounded unit count
rounded_even unit half count wide =
    let whole : count ≡ count / unit * unit + count % unit = sym (div-add-mod' count unit) in
    let below : count % unit < unit = mod_below count unit wide in
    let more : half * 2 * unit + count ≡ (half * 2 + count / unit) * unit + count % unit = grind (arith, whole) in
    rounded_is unit (half * 2 + count / unit) (count % unit) _ more below
    ∙ (even_by half (count / unit) (nat_cmp (2 * (count % unit)) unit)
    ∙ ap (λ n. half * 2 + n) (sym (rounded_is unit (count / unit) (count % unit) count whole below)))
