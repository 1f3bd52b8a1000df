-- Int of a Currency is its floor.
use Rattle.std.proofs.Common.{◌≡◌, ℕ, suc, ◌+◌, ◌*◌, ◌/◌, ◌≤◌, Bool, true, false, T, leb, ℤ, pos, negsuc, neg_ℤ}
use Rattle.std.proofs.Common.{◌*ℤ◌, ◌≤ℤ◌, Ok, refl, sym, ap, subst, ◌∙◌, arith}
use Rattle.std.proofs.Math.IntN.{negsuc-*ℤ-pos}
use Rattle.std.proofs.lemmas.Bool.Decides.{nat_tests}
use Rattle.vb_value.specs.declared.value.Value.{Cur}
use Rattle.vb_value.specs.Errors.{and_then}
use Rattle.vb_value.specs.Numbers.{as_currency}
use Rattle.vb_funcs.specs.Arithmetic.{floor_of}
use Rattle.function_laws.specs.Laws.{IsFloor, Lowers}

told : (a b : ℕ) → a ≤ b → T (leb a b)
told a b most = subst T (sym test) tt
  where
    test : leb a b ≡ true
    test = grind (arith, nat_tests)

tells : (a b : ℕ) → T (leb a b) → a ≤ b
tells a b passes = by (leb a b) refl passes
  where
    by : (test : Bool) → leb a b ≡ test → T test → a ≤ b
    by true is passed = grind (arith, nat_tests)
    by false is passed = absurd passed

-- a negative number of whole units
pub below : (k : ℕ) → negsuc k *ℤ pos 10000 ≡ negsuc (k * 10000 + 9999)
below k = negsuc-*ℤ-pos k 10000 ∙ ap (λ n. neg_ℤ (pos n)) times
  where
    times : suc k * 10000 ≡ suc (k * 10000 + 9999)
    times = omega arith

floor_below : (less : ℕ) → floor_of (negsuc less) ≡ negsuc (less / 10000 * 10000 + 9999)
unfolding floor_of
floor_below less = ap (λ n. neg_ℤ (pos n)) times
  where
    times : (less / 10000 + 1) * 10000 ≡ suc (less / 10000 * 10000 + 9999)
    times = omega arith

greatest_above : (n : ℕ) (other : ℤ) → (other *ℤ pos 10000) ≤ℤ pos n
    → (other *ℤ pos 10000) ≤ℤ pos (n / 10000 * 10000)
greatest_above n (pos k) most = record { le = told _ _ (omega (arith, tells _ _ most.le)) }
greatest_above n (negsuc k) most = subst (λ z. z ≤ℤ pos (n / 10000 * 10000)) (sym (below k)) (record { le = tt })

greatest_below : (less : ℕ) (other : ℤ) → (other *ℤ pos 10000) ≤ℤ negsuc less
    → (other *ℤ pos 10000) ≤ℤ negsuc (less / 10000 * 10000 + 9999)
greatest_below less (pos k) most = absurd most.le
greatest_below less (negsuc k) most =
    let at_most : negsuc (k * 10000 + 9999) ≤ℤ negsuc less = subst (λ z. z ≤ℤ negsuc less) (below k) most in
    subst (λ z. z ≤ℤ negsuc (less / 10000 * 10000 + 9999)) (sym (below k))
    (record { le = told _ _ (omega (arith, tells _ _ at_most.le)) })

is_floor : (z : ℤ) → IsFloor z (floor_of z)
unfolding floor_of
is_floor (pos n) = record {
  units = pos (n / 10000);
  whole = refl;
  at_most = record { le = told _ _ (omega arith) };
  greatest = greatest_above n;
}
is_floor (negsuc less) = subst (IsFloor (negsuc less)) (sym (floor_below less)) (record {
  units = negsuc (less / 10000);
  whole = sym (below (less / 10000));
  at_most = record { le = told _ _ (omega arith) };
  greatest = greatest_below less;
})

same_order : (a b : ℤ) → a ≤ℤ b → b ≤ℤ a → a ≡ b
same_order (pos a) (pos b) one two =
    let first = tells _ _ one.le in let second = tells _ _ two.le in ap pos (omega (arith, first, second))
same_order (pos a) (negsuc b) one two = absurd one.le
same_order (negsuc a) (pos b) one two = absurd two.le
same_order (negsuc a) (negsuc b) one two =
    let first = tells _ _ one.le in let second = tells _ _ two.le in ap negsuc (omega (arith, first, second))

at_most_floor : (z one other : ℤ) → IsFloor z one → IsFloor z other → one ≤ℤ other
at_most_floor z one other first second =
    let Below : ℤ → Type 0 = λ n. n ≤ℤ z in
    let Less : ℤ → Type 0 = λ n. n ≤ℤ other in
    subst Less (sym first.whole) (second.greatest first.units (subst Below first.whole first.at_most))

one_floor : (z one other : ℤ) → IsFloor z one → IsFloor z other → one ≡ other
one_floor z one other first second =
    same_order one other (at_most_floor z one other first second) (at_most_floor z other one second first)

pub lowers : (z : ℤ) → Lowers z
lowers z floor is =
    ap (λ (n : ℤ). and_then (as_currency n) (λ n. Ok (Cur n))) (one_floor z (floor_of z) floor (is_floor z) is)
