-- Values that change sides compare as the opposite.
use Rattle.std.proofs.Common.{◌≡◌, ℕ, ℤ, pos, ◌*ℤ◌, Bool, true, false, ◌||◌, if◌then◌else◌, List, []}
use Rattle.std.proofs.Common.{Option, Some, None, Result, Ok, Err, refl, ap, ◌∙◌}
use Rattle.std.specs.Option.{option_map}
use Rattle.std.specs.declared.cmp.Ordering.{Ordering}
use Rattle.std.specs.declared.cmp.Ordering.TheVariants.{Greater}
use Rattle.std.specs.Ordering.{nat_cmp, int_cmp, ordering_reverse}
use Rattle.std.specs.Cmp.Lexicographic.{slice_cmp}
use Rattle.std.proofs.lemmas.Cmp.{int_cmp_total, nat_list_cmp_total}
use Rattle.vb_value.specs.declared.fault.VbError.{VbError}
use Rattle.vb_value.specs.declared.value.Value.{Value, Empty, Null, Bool as Boolean, Int, Long, Cur, Str, Arr'}
use Rattle.vb_value.specs.declared.value.Value.{Obj, Nothing}
use Rattle.vb_value.specs.Arguments.{checked, is_null}
use Rattle.vb_value.specs.Errors.{and_then}
use Rattle.vb_ops.specs.Comparison.{amount_in, amount_order, empty_order, text_order, scalar_order, order_between}
use Rattle.operator_laws.specs.Laws.{ComparesRound}

-- a value that is neither refused nor Null
pub record IsScalar (value : Value) : Type 0 where
  pub fine : checked value ≡ Ok tt
  pub known : is_null value ≡ false

-- a value that compares as its amount
pub record IsAmount (value : Value) : Type 0 where
  pub left : (other : Value) → scalar_order value other ≡ amount_order (amount_in value) other
  pub right : (amount : ℤ) → amount_order amount value ≡ int_cmp amount (amount_in value)
  pub empty : empty_order value ≡ int_cmp (pos 0) (amount_in value)
  pub text : (text : List ℕ) → text_order text value ≡ Greater

amounts_turned : (a b : ℤ) → int_cmp a b ≡ ordering_reverse (int_cmp b a)
amounts_turned a b = int_cmp_total.antisymm a b

texts_turned : (a b : List ℕ) → slice_cmp nat_cmp a b ≡ ordering_reverse (slice_cmp nat_cmp b a)
texts_turned a b = nat_list_cmp_total.antisymm a b

text_turned : (text : List ℕ) (other : Value) → IsScalar other
    → scalar_order other (Str text) ≡ ordering_reverse (text_order text other)
text_turned text Empty scalar = texts_turned [] text
text_turned text Null scalar = absurd (let known = scalar.known in cc)
text_turned text (Boolean truth) scalar = refl
text_turned text (Int n) scalar = refl
text_turned text (Long n) scalar = refl
text_turned text (Cur n) scalar = refl
text_turned text (Str other) scalar = texts_turned other text
text_turned text (Arr' bounds fixed shape items) scalar = absurd (let fine = scalar.fine in cc)
text_turned text (Obj object) scalar = absurd (let fine = scalar.fine in cc)
text_turned text Nothing scalar = absurd (let fine = scalar.fine in cc)

empty_turned : (other : Value) → IsScalar other → scalar_order other Empty ≡ ordering_reverse (empty_order other)
empty_turned Empty scalar = amounts_turned (pos 0) (pos 0)
empty_turned Null scalar = absurd (let known = scalar.known in cc)
empty_turned (Boolean truth) scalar = amounts_turned (amount_in (Boolean truth)) (pos 0)
empty_turned (Int n) scalar = amounts_turned (n *ℤ pos 10000) (pos 0)
empty_turned (Long n) scalar = amounts_turned (n *ℤ pos 10000) (pos 0)
empty_turned (Cur n) scalar = amounts_turned n (pos 0)
empty_turned (Str text) scalar = texts_turned text []
empty_turned (Arr' bounds fixed shape items) scalar = absurd (let fine = scalar.fine in cc)
empty_turned (Obj object) scalar = absurd (let fine = scalar.fine in cc)
empty_turned Nothing scalar = absurd (let fine = scalar.fine in cc)

amount_turned : (a other : Value) → IsAmount a → IsScalar other
    → scalar_order other a ≡ ordering_reverse (amount_order (amount_in a) other)
amount_turned a Empty is scalar = is.empty ∙ amounts_turned (pos 0) (amount_in a)
amount_turned a Null is scalar = absurd (let known = scalar.known in cc)
amount_turned a (Boolean truth) is scalar =
    is.right (amount_in (Boolean truth)) ∙ amounts_turned (amount_in (Boolean truth)) (amount_in a)
amount_turned a (Int n) is scalar = is.right (n *ℤ pos 10000) ∙ amounts_turned (n *ℤ pos 10000) (amount_in a)
amount_turned a (Long n) is scalar = is.right (n *ℤ pos 10000) ∙ amounts_turned (n *ℤ pos 10000) (amount_in a)
amount_turned a (Cur n) is scalar = is.right n ∙ amounts_turned n (amount_in a)
amount_turned a (Str text) is scalar = is.text text
amount_turned a (Arr' bounds fixed shape items) is scalar = absurd (let fine = scalar.fine in cc)
amount_turned a (Obj object) is scalar = absurd (let fine = scalar.fine in cc)
amount_turned a Nothing is scalar = absurd (let fine = scalar.fine in cc)

scalar_turned : (a b : Value) → IsScalar a → IsScalar b → scalar_order b a ≡ ordering_reverse (scalar_order a b)
scalar_turned Empty b one two = empty_turned b two
scalar_turned Null b one two = absurd (let known = one.known in cc)
scalar_turned (Boolean truth) b one two =
    amount_turned (Boolean truth) b (record { left = λ _. refl; right = λ _. refl; empty = refl; text = λ _. refl }) two
scalar_turned (Int n) b one two =
    amount_turned (Int n) b (record { left = λ _. refl; right = λ _. refl; empty = refl; text = λ _. refl }) two
scalar_turned (Long n) b one two =
    amount_turned (Long n) b (record { left = λ _. refl; right = λ _. refl; empty = refl; text = λ _. refl }) two
scalar_turned (Cur n) b one two =
    amount_turned (Cur n) b (record { left = λ _. refl; right = λ _. refl; empty = refl; text = λ _. refl }) two
scalar_turned (Str text) b one two = text_turned text b two
scalar_turned (Arr' bounds fixed shape items) b one two = absurd (let fine = one.fine in cc)
scalar_turned (Obj object) b one two = absurd (let fine = one.fine in cc)
scalar_turned Nothing b one two = absurd (let fine = one.fine in cc)

beside_null : (no_a no_b : Bool) (one two : Ordering) → (no_a ≡ false → no_b ≡ false → two ≡ ordering_reverse one)
    → (if no_b || no_a then None else Some two) ≡ option_map ordering_reverse (if no_a || no_b then None else Some one)
beside_null true true one two turned = refl
beside_null true false one two turned = refl
beside_null false true one two turned = refl
beside_null false false one two turned = ap Some (turned refl refl)

both_fine : (first second : Result (Unit {0}) VbError) (between order : Option Ordering)
    → and_then first (λ _. and_then second (λ _. Ok between)) ≡ Ok order
    → (first ≡ Ok tt) × (second ≡ Ok tt) × (order ≡ between)
both_fine (Ok one) (Ok two) between order is = (refl, refl, cc)
both_fine (Ok one) (Err e) between order is = absurd (cc)
both_fine (Err e) second between order is = absurd (cc)

pub compares_round : ComparesRound
compares_round a b order is =
    let fine = both_fine (checked a) (checked b) (order_between a b) order is in
    let turned : order_between b a ≡ option_map ordering_reverse (order_between a b) =
    beside_null (is_null a) (is_null b) (scalar_order a b) (scalar_order b a) (λ known_a known_b.
    scalar_turned a b (record { fine = fine.0; known = known_a }) (record { fine = fine.1; known = known_b })) in
    rw (fine.0, fine.1, fine.2) (ap Ok turned)
