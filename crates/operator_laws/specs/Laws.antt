-- Laws of the operators, for readers to hold the definitions against.
use Rattle.std.specs.Prelude.{◌≡◌, ◌≢◌, ◌⊎◌, ◌<◌, ◌^◌, ℕ, Bool, true, false, ℤ, pos, negsuc, ◌+ℤ◌, ◌*ℤ◌, unsigned_abs}
use Rattle.std.specs.Prelude.{List, [], ◌∷◌, Option, Some, option_map, Ok, IsTrue, IfOk}
use Rattle.std.specs.declared.cmp.Ordering.{Ordering}
use Rattle.std.specs.Ordering.{nat_cmp, int_cmp, ordering_reverse}
use Rattle.std.specs.Cmp.Lexicographic.{slice_cmp}
use Rattle.vb_value.specs.declared.number.Number.{Number}
use Rattle.vb_value.specs.declared.operator.Op1.{Op1}
use Rattle.vb_value.specs.declared.operator.Op2.{Op2}
use Rattle.vb_value.specs.declared.operator.Op2.TheVariants as operator
use Rattle.vb_value.specs.declared.value.Value.{Value, Null, Bool as Boolean, Str, Arr'}
use Rattle.vb_value.specs.declared.value.Value.{Obj, Nothing}
use Rattle.vb_value.specs.Conversions.{number_value, to_long_of}
use Rattle.vb_value.specs.Numbers.{whole_of}
use Rattle.vb_value.specs.Sound.{IsSound}
use Rattle.vb_ops.specs.Comparison.{compare_of, amount_in}
use Rattle.vb_ops.specs.Operators.{apply1_of, apply2_of}

-- whether a value is Null, Empty, a Boolean or a number
abbrev pub is_simple : Value → Bool
is_simple (Str text) = false
is_simple (Arr' bounds fixed shape items) = false
is_simple (Obj object) = false
is_simple Nothing = false
is_simple _ = true

-- the order of an operator's operands does not matter where neither is a text or refused
abbrev pub Commutes : Op2 → Type 0
Commutes op = (a b : Value) → IsTrue (is_simple a) → IsTrue (is_simple b) → apply2_of op a b ≡ apply2_of op b a

-- whether a value is Empty, a Boolean or a number
abbrev pub is_amount : Value → Bool
is_amount Null = false
is_amount value = is_simple value

-- numbers compare by value
abbrev pub ComparesAmounts : Type 0
ComparesAmounts = (a b : Value) → IsTrue (is_amount a) → IsTrue (is_amount b)
    → compare_of a b ≡ Ok (Some (int_cmp (amount_in a) (amount_in b)))

-- texts compare by the numbers of their characters
abbrev pub ComparesTexts : Type 0
ComparesTexts = (a b : List ℕ) → compare_of (Str a) (Str b) ≡ Ok (Some (slice_cmp nat_cmp a b))

-- two values that are not refused compare as the opposite of how they compare the other way round
abbrev pub ComparesRound : Type 0
ComparesRound = (a b : Value) (order : Option Ordering) → compare_of a b ≡ Ok order
    → compare_of b a ≡ Ok (option_map ordering_reverse order)

-- whether a number is below 0
abbrev pub is_negative : ℤ → Bool
is_negative (pos n) = false
is_negative (negsuc less) = true

-- x divided by y has a quotient and a rest: the rest is smaller than y, and is 0 or has the sign of x
pub record IsDivision (x y quotient rest : ℤ) : Type 0 where
  pub whole : (quotient *ℤ y) +ℤ rest ≡ x
  pub smaller : unsigned_abs rest < unsigned_abs y
  pub sign : (rest ≡ pos 0) ⊎ (is_negative rest ≡ is_negative x)

-- `Mod` has an answer, and so has `\` but for the least Long; together they are quotient and rest of x and y.
pub record Divides (a b : Value) (x y : ℤ) : Type 0 where
  pub rest : Number
  pub rest_is : apply2_of operator.Modulo a b ≡ Ok (number_value rest)
  pub answers : unsigned_abs x < 2 ^ 31
      → (quotient : Number) × (apply2_of operator.Divide a b ≡ Ok (number_value quotient))
  pub division : (quotient : Number) → apply2_of operator.Divide a b ≡ Ok (number_value quotient)
      → IsDivision x y (whole_of quotient) (whole_of rest)

-- two values divide as the Longs that they are, of which the second is not 0
abbrev pub DividesAsLongs : Type 0
DividesAsLongs = (a b : Value) (x y : ℤ) → to_long_of a ≡ Ok x → to_long_of b ≡ Ok y → y ≢ pos 0 → Divides a b x y

-- the table of `Imp`: two operands, and what it gives of them
abbrev pub implications : List (Value × Value × Value)
implications =
    (Boolean true, Boolean true, Boolean true)
    ∷ (Boolean true, Boolean false, Boolean false)
    ∷ (Boolean true, Null, Null)
    ∷ (Boolean false, Boolean true, Boolean true)
    ∷ (Boolean false, Boolean false, Boolean true)
    ∷ (Boolean false, Null, Boolean true)
    ∷ (Null, Boolean true, Boolean true)
    ∷ (Null, Boolean false, Null)
    ∷ (Null, Null, Null)
    ∷ []

-- an operator gives what the rows of a table say
abbrev pub FollowsTable : Op2 → List (Value × Value × Value) → Type 0
FollowsTable op [] = Unit {0}
FollowsTable op (row ∷ rows) = (apply2_of op row.0 row.1 ≡ Ok row.2) × FollowsTable op rows

-- what operators give of sound values is sound
abbrev pub GivesSoundOfOne : Type 0
GivesSoundOfOne = (op : Op1) (a : Value) → IsSound a → IfOk (apply1_of op a) IsSound

abbrev pub GivesSoundOfTwo : Type 0
GivesSoundOfTwo = (op : Op2) (a b : Value) → IsSound a → IsSound b → IfOk (apply2_of op a b) IsSound
