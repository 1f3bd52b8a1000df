-- What is rounded lies nearest.
use Rattle.std.proofs.Common.{◌≡◌, ℕ, ◌+◌, ◌*◌, ◌/◌, ◌%◌, ◌<◌, ◌⊎◌, inl, inr, refl, sym, subst, arith}
use Rattle.std.specs.declared.cmp.Ordering.{Ordering}
use Rattle.std.specs.declared.cmp.Ordering.TheVariants.{Less, Equal, Greater}
use Rattle.std.specs.Ordering.{nat_cmp}
use Rattle.std.proofs.lemmas.Bool.Decides.{nat_tests}
use Rattle.std.proofs.lemmas.Nat.{mod_below, div-add-mod'}
use Rattle.vb_value.proofs.Rounding.{rounded_by, rounded_is}
use Rattle.value_laws.specs.Laws.{IsNearest, RoundsToNearest}

spread_one : (q unit : ℕ) → (q + 1) * unit ≡ q * unit + unit
spread_one q unit = grind arith

less : (unit q rest count : ℕ) → count ≡ q * unit + rest → 2 * rest < unit → IsNearest unit count q
less unit q rest count is below =
    record {
      low = omega arith;
      high = omega arith;
      even_low = λ e. absurd (omega arith);
      even_high = λ e. absurd
          (omega arith);
    }

more : (unit q rest count : ℕ) → count ≡ q * unit + rest → rest < unit → unit < 2 * rest
    → IsNearest unit count (q + 1)
more unit q rest count is small above =
    let spread : (q + 1) * unit ≡ q * unit + unit = spread_one q unit in
    record {
      low = omega arith;
      high = omega arith;
      even_low = λ e. absurd (omega arith);
      even_high = λ e. absurd
          (omega arith);
    }

tie_even : (unit q rest count : ℕ) → count ≡ q * unit + rest → 2 * rest ≡ unit → q % 2 ≡ 0 → IsNearest unit count q
tie_even unit q rest count is half even =
    record { low = omega arith; high = omega arith; even_low = λ _. even; even_high = λ _. even }

tie_odd : (unit q rest count : ℕ) → count ≡ q * unit + rest → 2 * rest ≡ unit → q % 2 ≡ 1
    → IsNearest unit count (q + 1)
tie_odd unit q rest count is half odd =
    let spread : (q + 1) * unit ≡ q * unit + unit = spread_one q unit in
    let even : (q + 1) % 2 ≡ 0 = omega arith in
    record { low = omega arith; high = omega arith; even_low = λ _. even; even_high = λ _. even }

two_rests : (q : ℕ) → (q % 2 ≡ 0) ⊎ (q % 2 ≡ 1)
two_rests q = grind arith

tie : (unit q rest count : ℕ) → count ≡ q * unit + rest → rest < unit → 2 * rest ≡ unit
    → IsNearest unit count (q + q % 2)
tie unit q rest count is small half = elim (two_rests q) [
  | inl even ↦ subst (IsNearest unit count) (omega arith) (tie_even unit q rest count is half even)
  | inr odd ↦ subst (λ n. IsNearest unit count (q + n)) (sym odd) (tie_odd unit q rest count is half odd)
]

by_order : (unit q rest count : ℕ) → count ≡ q * unit + rest → rest < unit → (order : Ordering)
    → nat_cmp (2 * rest) unit ≡ order → IsNearest unit count (rounded_by order q)
by_order unit q rest count is small Less compared = less unit q rest count is (grind (arith, nat_tests))
by_order unit q rest count is small Equal compared = tie unit q rest count is small (grind (arith, nat_tests))
by_order unit q rest count is small Greater compared = more unit q rest count is small (grind (arith, nat_tests))

pub rounds_to_nearest : RoundsToNearest
rounds_to_nearest unit count some =
    let whole : count ≡ count / unit * unit + count % unit = sym (div-add-mod' count unit) in
    let small : count % unit < unit = mod_below count unit some in
    subst (IsNearest unit count) (sym (rounded_is unit (count / unit) (count % unit) count whole small))
    (by_order unit (count / unit) (count % unit) count whole small (nat_cmp (2 * (count % unit)) unit) refl)
