-- The value of digits, up to a number past every value.
use Rattle.std.proofs.Common.{◌≡◌, ℕ, ◌+◌, ◌*◌, ◌<◌, ◌≤◌, Bool, true, false, ltb, eqb, List, drop, length, sym, ◌∙◌}
use Rattle.std.proofs.Common.{get_or, take, min, inl, inr, refl, arith}
use Rattle.std.specs.Char.{digit_value}
use Rattle.std.specs.Str.Parse.{digits_value}
use Rattle.std.proofs.Math.Nat.{mul-le-mul_left, mul-le-mul_right}
use Rattle.std.proofs.lemmas.Bool.{cases_lt}
use Rattle.std.proofs.lemmas.Bool.Decides.{nat_tests}
use Rattle.std.proofs.lemmas.Int.Digits.{digits_value_more}
use Rattle.std.specs.List.{prefix_len}
use Rattle.vb_lex.specs.declared.piece.Piece.{Piece}
use Rattle.vb_lex.specs.Numbers.{based, based_kind, is_spoilt}

-- a value at most `most`, times a base
pub product_le : (value base most : ℕ) → value ≤ most → base ≤ 16 → value * base ≤ most * 16
product_le value base most small low = grind arith

-- one digit more, where the value so far is cut at `most`
saturated : (value base digit most : ℕ) → 1 ≤ base
    → min (min value most * base + digit) most ≡ min (value * base + digit) most
saturated value base digit most low =
    elim (cases_lt most value) [
      | inl above ↦
          let cut : min value most ≡ most = omega arith in
          let once : most * 1 ≤ most * base = mul-le-mul_left most low in
          let below : most ≤ value = omega arith in
          let more : most * base ≤ value * base = mul-le-mul_right base below in
          rw cut (omega (arith, once, more))
      | inr below ↦ let cut : min value most ≡ value = omega arith in rw cut refl
    ]

-- the value up to one digit more
pub value_more : (base : ℕ) (digits : List ℕ) (i : ℕ) → i < length digits → 1 ≤ base
    → min (digits_value base (take (i + 1) digits)) 4294967296
    ≡ min (min (digits_value base (take i digits)) 4294967296 * base + digit_value (get_or digits i 0)) 4294967296
value_more base digits i within low =
    let more = digits_value_more base digits i within in
    let cut = saturated (digits_value base (take i digits)) base (digit_value (get_or digits i 0)) 4294967296 low in
    cc

-- a value that is cut past every value is refused as the value is
pub based_kind_cut : (value : ℕ) (is_long : Bool) (length : ℕ)
    → based_kind (min value 4294967296) is_long length ≡ based_kind value is_long length
based_kind_cut value is_long length =
    elim (cases_lt value 4294967296) [
      | inl below ↦ let cut : min value 4294967296 ≡ value = omega arith in rw cut refl
      | inr above ↦
          let cut : min value 4294967296 ≡ 4294967296 = omega arith in
          let great : ltb 4294967295 value ≡ true = grind (arith, nat_tests) in
          rw (cut, great) refl
    ]

-- a number of a base, by the steps of its reader
pub based_is : (base : ℕ) (test : ℕ → Bool) (text : List ℕ) (count value first : ℕ) (result : Piece)
    → count ≡ prefix_len test (drop 2 text)
    → false ≡ is_spoilt (drop (2 + count) text)
    → value ≡ min (digits_value base (take count (drop 2 text))) 4294967296
    → first ≡ get_or (drop (2 + count) text) 0 0
    → result ≡ based_kind value (eqb first 38) (2 + count)
    → result ≡ based base test text
based_is base test text count value first result counted plain valued read done =
    let count_at : ℕ = prefix_len test (drop 2 text) in
    let spoilt : is_spoilt (drop (2 + count_at) text) ≡ false = rw (← counted) (sym plain) in
    let cut = based_kind_cut (digits_value base (take count_at (drop 2 text))) (eqb (get_or (drop
    (2 + count_at) text) 0 0) 38) (2 + count_at) in
    let same : based_kind value (eqb first 38) (2 + count) ≡ based_kind (digits_value base (take count_at
    (drop 2 text))) (eqb (get_or (drop (2 + count_at) text) 0 0) 38) (2 + count_at) =
    rw (valued, read, counted) cut in
    rw spoilt (done ∙ same)
