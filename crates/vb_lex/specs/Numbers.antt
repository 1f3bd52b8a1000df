-- Numbers: decimal digits, or `&H` and `&O` with digits of base 16 and 8.
use Rattle.std.specs.Prelude.{ℕ, ◌+◌, Bool, ◌&&◌, ◌||◌, List, drop, take, pos, if◌then◌else◌, ◌==◌, nat_lt, nat_le}
use Rattle.std.specs.Prelude.{slice_index}
use Rattle.std.specs.Int.{w16, w32, cast_signed}
use Rattle.std.specs.List.{prefix_len}
use Rattle.std.specs.Char.{is_ascii_alphabetic}
use Rattle.std.specs.Str.Parse.{digits_value}
use Rattle.vb_value.specs.declared.token.Symbol.TheVariants.{Ampersand}
use Rattle.vb_value.specs.declared.token.TokenKind.TheVariants.{Integer, Long, Symbol}
use Rattle.vb_lex.specs.declared.fault.LexFault.TheVariants.{BadNumber}
use Rattle.vb_lex.specs.declared.piece.Piece.{Piece}
use Rattle.vb_lex.specs.declared.piece.Piece.TheVariants.{Word, Fault}
use Rattle.vb_lex.specs.Characters.{ampersand, capital_h, capital_o, is_decimal, is_hexadecimal, is_octal}
use Rattle.vb_lex.specs.Characters.{open_bracket, point, small_h, small_o}

-- A point or a name may not stand directly behind digits.
abbrev pub is_spoilt : List ℕ → Bool
is_spoilt text =
    slice_index text 0 == point || slice_index text 0 == open_bracket
    || is_ascii_alphabetic (slice_index text 0)

-- A decimal number up to 32767 is an Integer, and up to 2147483647 a Long.
abbrev pub decimal_kind : ℕ → ℕ → Piece
decimal_kind value length =
    if nat_le value 32767 then Word (Integer (pos value)) length
    else (if nat_le value 2147483647 then Word (Long (pos value)) length else Fault BadNumber)

-- the number at the front of a text that begins with a digit
abbrev pub decimal : List ℕ → Piece
decimal text =
    let length = prefix_len is_decimal text in
    if is_spoilt (drop length text) then Fault BadNumber
    else decimal_kind (digits_value 10 (take length text)) length

-- A number of another base up to FFFF is an Integer of these 16 bits, and up to FFFFFFFF a Long of these
-- 32 bits. A `&` directly behind it makes it a Long.
abbrev pub based_kind : ℕ → Bool → ℕ → Piece
based_kind value is_long length =
    if nat_lt 4294967295 value then Fault BadNumber
    else (if is_long then Word (Long (cast_signed w32 value)) (length + 1)
    else (if nat_le value 65535 then Word (Integer (cast_signed w16 value)) length
    else Word (Long (cast_signed w32 value)) length))

-- the number at the front of a text whose digits stand behind two characters
abbrev pub based : ℕ → (ℕ → Bool) → List ℕ → Piece
based base is_base_digit text =
    let count = prefix_len is_base_digit (drop 2 text) in
    let rest = drop (2 + count) text in
    if is_spoilt rest then Fault BadNumber
    else based_kind (digits_value base (take count (drop 2 text))) (slice_index rest 0 == ampersand) (2 + count)

-- `&` before `H` or `O` and a digit of that base begins a number, and any other `&` is an operator.
abbrev pub ampersand_word : List ℕ → Piece
ampersand_word text =
    let letter = slice_index text 1 in
    let digit = slice_index text 2 in
    if (letter == capital_h || letter == small_h) && is_hexadecimal digit then based 16 is_hexadecimal text
    else (if (letter == capital_o || letter == small_o) && is_octal digit then based 8 is_octal text
    else Word (Symbol Ampersand) 1)
