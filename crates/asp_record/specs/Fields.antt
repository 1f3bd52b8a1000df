-- What the fields of a line are read as, from the front of bytes.
use Rattle.std.specs.Prelude.{◌≡◌, ℕ, Bool, true, false, not, ◌&&◌, List, [], ◌∷◌, length, take, drop, Option, Some}
use Rattle.std.specs.Prelude.{None, Result, Ok, Err, if◌then◌else◌}
use Rattle.std.specs.Prelude.{nat_lt, ◌==◌, bytes_eq}
use Rattle.std.specs.List.{prefix_len}
use Rattle.std.specs.Char.{digit_value}
use Rattle.std.specs.Str.Parse.{digits_value}
use Rattle.hex.specs.Hex.{decode_sized, encode_lower}
use Rattle.hex.specs.declared.error.FromHexError.{FromHexError}

-- a step, and another where the first gives a value
infixl 10 ◌>>=◌
abbrev pub ◌>>=◌ : {A B : Type 0} → Option A → (A → Option B) → Option B
(Some x) >>= f = f x
None >>= f = None

-- The call gives what is read, as it is seen.
abbrev pub Reads : {X Y : Type 0} → (X → Y) → Option X → Option Y → Type 0
Reads seen (Some x) read = read ≡ Some (seen x)
Reads seen None read = read ≡ None

-- what stands behind a word at the front
abbrev pub behind : List ℕ → List ℕ → Option (List ℕ)
behind word bytes = if bytes_eq (take (length word) bytes) word then Some (drop (length word) bytes) else None

abbrev pub is_digit : ℕ → Bool
is_digit c = nat_lt (digit_value c) 10

-- one digit or more, without a zero before others
abbrev pub is_plain : List ℕ → Bool
is_plain [] = false
is_plain (first ∷ []) = true
is_plain (first ∷ second ∷ more) = not (first == 48)

-- a number of 64 bits
unfoldable pub number_at : List ℕ → Option (ℕ × List ℕ)
number_at bytes =
    let count = prefix_len is_digit bytes in
    let value = digits_value 10 (take count bytes) in
    if is_plain (take count bytes) && nat_lt value 18446744073709551616 then Some (value, drop count bytes) else None

-- a number, and a word behind it
unfoldable pub marked_at : List ℕ → List ℕ → Option (ℕ × List ℕ)
marked_at word bytes = do
  n ← number_at bytes
  rest ← behind word n.1
  Some (n.0, rest)

-- so many bytes, and a line feed behind them
unfoldable pub counted_at : ℕ → List ℕ → Option (List ℕ × List ℕ)
counted_at count bytes =
    if nat_lt count (length bytes) then (do
      rest ← behind (10 ∷ []) (drop count bytes)
      Some (take count bytes, rest))
    else None

-- the bytes of hexadecimal digits, where they are written in lower case
abbrev pub in_lower_case : List ℕ → Result (List ℕ) FromHexError → Option (List ℕ)
in_lower_case text (Ok seed) = if bytes_eq (encode_lower seed) text then Some seed else None
in_lower_case text (Err stop) = None

-- 32 bytes
unfoldable pub seed_at : List ℕ → Option (List ℕ × List ℕ)
seed_at bytes =
    if nat_lt (length bytes) 64 then None else (do
      seed ← in_lower_case (take 64 bytes) (decode_sized (take 64 bytes) 32)
      Some (seed, drop 64 bytes))
