-- The characters of a script, by their numbers, and the classes of them that words are made of.
use Rattle.std.specs.Prelude.{ℕ, Bool, not, ◌&&◌, ◌||◌, ◌==◌}
use Rattle.std.specs.Char.{is_ascii_alphanumeric, is_digit}
use Rattle.vb_value.specs.Characters.{carriage_return, is_blank, line_feed}
use Rattle.vb_lex.specs.declared.characters.Class.{Class}
use Rattle.vb_lex.specs.declared.characters.Class.TheVariants as class

-- `"`
abbrev pub quote : ℕ
quote = 34

-- `#`
abbrev pub number_sign : ℕ
number_sign = 35

-- `&`
abbrev pub ampersand : ℕ
ampersand = 38

-- `'`
abbrev pub apostrophe : ℕ
apostrophe = 39

-- `(`
abbrev pub open_parenthesis : ℕ
open_parenthesis = 40

-- `)`
abbrev pub close_parenthesis : ℕ
close_parenthesis = 41

-- `*`
abbrev pub star : ℕ
star = 42

-- `+`
abbrev pub plus : ℕ
plus = 43

-- `,`
abbrev pub comma : ℕ
comma = 44

-- `-`
abbrev pub minus : ℕ
minus = 45

-- `.`
abbrev pub point : ℕ
point = 46

-- `/`
abbrev pub slash : ℕ
slash = 47

-- `:`
abbrev pub colon : ℕ
colon = 58

-- `<`
abbrev pub less : ℕ
less = 60

-- `=`
abbrev pub equal : ℕ
equal = 61

-- `>`
abbrev pub greater : ℕ
greater = 62

-- `H`
abbrev pub capital_h : ℕ
capital_h = 72

-- `O`
abbrev pub capital_o : ℕ
capital_o = 79

-- `[`
abbrev pub open_bracket : ℕ
open_bracket = 91

-- `\`
abbrev pub backslash : ℕ
backslash = 92

-- `]`
abbrev pub close_bracket : ℕ
close_bracket = 93

-- `^`
abbrev pub circumflex : ℕ
circumflex = 94

-- `_`
abbrev pub underscore : ℕ
underscore = 95

-- `h`
abbrev pub small_h : ℕ
small_h = 104

-- `o`
abbrev pub small_o : ℕ
small_o = 111

-- a character of a line end
abbrev pub is_line_end : ℕ → Bool
is_line_end c = c == line_feed || c == carriage_return

-- any other character
abbrev pub is_on_line : ℕ → Bool
is_on_line c = not (is_line_end c)

-- a character of a name: an ASCII letter, a digit or `_`
abbrev pub is_name_part : ℕ → Bool
is_name_part c = is_ascii_alphanumeric c || c == underscore

-- a character of a name in brackets
abbrev pub is_bracketed : ℕ → Bool
is_bracketed c = not (c == close_bracket) && is_on_line c

-- a digit of base 8
abbrev pub is_octal : ℕ → Bool
is_octal c = is_digit c 8

-- a digit of base 10
abbrev pub is_decimal : ℕ → Bool
is_decimal c = is_digit c 10

-- a digit of base 16
abbrev pub is_hexadecimal : ℕ → Bool
is_hexadecimal c = is_digit c 16

-- the characters of a class
abbrev pub is_in : Class → ℕ → Bool
is_in class.Blank c = is_blank c
is_in class.OnLine c = is_on_line c
is_in class.NamePart c = is_name_part c
is_in class.Bracketed c = is_bracketed c
is_in class.Octal c = is_octal c
is_in class.Decimal c = is_decimal c
is_in class.Hexadecimal c = is_hexadecimal c
