-- A piece takes at least one character of its text, and no more than there are.
use Rattle.std.proofs.Common.{◌≡◌, ◌≢◌, ℕ, ◌+◌, ◌<◌, ◌≤◌, Bool, true, false, List, [], ◌∷◌, Option, Some, None}
use Rattle.std.proofs.Common.{length, get_or, drop, refl, arith, rules, zero, suc, if◌then◌else◌}
use Rattle.std.specs.Char.{is_ascii_alphabetic}
use Rattle.std.specs.List.{prefix_len}
use Rattle.std.proofs.lemmas.Bool.Decides.{nat_tests}
use Rattle.std.proofs.lemmas.List.{length-drop}
use Rattle.std.proofs.lemmas.List.Sums.{prefix_len-le-length}
use Rattle.vb_value.specs.declared.token.TokenKind.TheVariants.{LineEnd}
use Rattle.vb_lex.specs.declared.place.Behind.{Behind}
use Rattle.vb_lex.specs.declared.piece.Piece.{Piece}
use Rattle.vb_lex.specs.declared.piece.Piece.TheVariants.{Gap, Word, Fault}
use Rattle.vb_value.specs.Characters.{is_blank}
use Rattle.vb_lex.specs.Characters.{is_bracketed, is_decimal, is_hexadecimal, is_line_end, is_name_part}
use Rattle.vb_lex.specs.Characters.{is_octal, is_on_line, quote}
use Rattle.vb_lex.specs.Gaps.{blank_length, line_end_length, line_length, underscore_length}
use Rattle.vb_lex.specs.Names.{bracketed, named}
use Rattle.vb_lex.specs.Numbers.{ampersand_word, based, decimal, decimal_kind}
use Rattle.vb_lex.specs.Strings.{behind_front, quoted, string, string_word}
use Rattle.vb_lex.specs.Symbols.{beside, greater_word, less_word, one_character, point_word, symbol}
use Rattle.vb_lex.specs.Pieces.{marked, piece}

-- A piece takes at least one character of the text and no more than there are.
abbrev pub IsWithin : List ℕ → Piece → Type 0
IsWithin text (Gap taken) = (0 < taken) × (taken ≤ length text)
IsWithin text (Word kind taken) = (0 < taken) × (taken ≤ length text)
IsWithin text (Fault fault) = Unit {0}

-- a line end
line_end_within : (text : List ℕ) → line_end_length text ≤ length text
line_end_within [] = grind arith
line_end_within (c ∷ []) = grind (arith, nat_tests)
line_end_within (c ∷ d ∷ text) = grind (arith, nat_tests)

pub line_end_moves : (c : ℕ) (text : List ℕ) → is_line_end c ≡ true → 0 < line_end_length (c ∷ text)
line_end_moves c text ends = grind (arith, nat_tests)

-- a run of a class
run_moves : (test : ℕ → Bool) (c : ℕ) (text : List ℕ) → test c ≡ true → 0 < prefix_len test (c ∷ text)
run_moves test c text passes = rw passes (omega arith)

-- a blank
underscore_within : (text : List ℕ) → underscore_length text ≤ length text
underscore_within [] = grind (arith, nat_tests)
underscore_within (c ∷ text) = grind (arith, nat_tests, prefix_len-le-length is_blank text)

blank_within : (c : ℕ) (text : List ℕ) → IsWithin (c ∷ text) (Gap (blank_length (c ∷ text)))
blank_within c text =
    let used = underscore_within text in
    let ending = line_end_within (drop (1 + underscore_length text) (c ∷ text)) in
    let rest = length-drop (1 + underscore_length text) (c ∷ text) in
    (grind (arith, nat_tests), grind (arith, nat_tests))

-- a comment
line_within : (c : ℕ) (text : List ℕ) → is_on_line c ≡ true → IsWithin (c ∷ text) (Gap (line_length (c ∷ text)))
line_within c text on = (run_moves is_on_line c text on, prefix_len-le-length is_on_line (c ∷ text))

-- a name
part : (c : ℕ) → is_ascii_alphabetic c ≡ true → is_name_part c ≡ true
part c is = grind (arith, nat_tests)

letter_on_line : (c : ℕ) → is_ascii_alphabetic c ≡ true → is_on_line c ≡ true
letter_on_line c is = grind (arith, nat_tests)

-- a choice of pieces
chosen : (text : List ℕ) (b : Bool) (one : Piece) (other : Piece) → IsWithin text one → IsWithin text other
    → IsWithin text (if b then one else other)
chosen text true one other first second = first
chosen text false one other first second = second

on_line : (c : ℕ) → is_line_end c ≡ false → is_on_line c ≡ true
on_line c plain = rw plain refl

named_within : (before : Behind) (c : ℕ) (text : List ℕ) → is_ascii_alphabetic c ≡ true
    → IsWithin (c ∷ text) (named before (c ∷ text))
named_within before c text is =
    let moves = run_moves is_name_part c text (part c is) in
    let most = prefix_len-le-length is_name_part (c ∷ text) in
    let line = line_within c text (letter_on_line c is) in
    grind (arith, chosen)

-- what stands at a place with a character other than NUL
pub within_at : (text : List ℕ) (at : ℕ) → get_or text at 0 ≢ 0 → at < length text
within_at [] zero read = absurd (read refl)
within_at [] (suc at) read = absurd (read refl)
within_at (c ∷ text) zero read = omega arith
within_at (c ∷ text) (suc at) read = let rest = within_at text at read in omega arith

bracketed_within : (c : ℕ) (text : List ℕ) → IsWithin (c ∷ text) (bracketed (c ∷ text))
bracketed_within c text =
    let there = within_at (c ∷ text) (1 + prefix_len is_bracketed text) in
    grind (arith, nat_tests)

-- numbers
decimal_within : (c : ℕ) (text : List ℕ) → is_decimal c ≡ true → IsWithin (c ∷ text) (decimal (c ∷ text))
decimal_within c text is =
    let moves = run_moves is_decimal c text is in
    let most = prefix_len-le-length is_decimal (c ∷ text) in
    grind arith

-- a number of a base, where a `&` may stand behind the digits
based_within : (base : ℕ) (test : ℕ → Bool) (text : List ℕ) → 2 ≤ length text → IsWithin text (based base test text)
based_within base test text long =
    let most = prefix_len-le-length test (drop 2 text) in
    let rest = length-drop 2 text in
    let behind = within_at (drop (2 + prefix_len test (drop 2 text)) text) 0 in
    let left = length-drop (2 + prefix_len test (drop 2 text)) text in
    grind (arith, nat_tests)

ampersand_within : (c : ℕ) (text : List ℕ) → IsWithin (c ∷ text) (ampersand_word (c ∷ text))
ampersand_within c [] = grind (arith, nat_tests)
ampersand_within c (d ∷ text) =
    let sixteen = based_within 16 is_hexadecimal (c ∷ d ∷ text) (omega arith) in
    let eight = based_within 8 is_octal (c ∷ d ∷ text) (omega arith) in
    search (rules, chosen)

-- a string, with its closing quote
abbrev IsClosed : ℕ → Option (List ℕ × ℕ) → Type 0
IsClosed most None = Unit {0}
IsClosed most (Some found) = found.1 ≤ most

closed_behind : (front : List ℕ) (count most : ℕ) (found : Option (List ℕ × ℕ)) → IsClosed most found
    → IsClosed (most + count) (behind_front front count found)
closed_behind front count most None closed = tt
closed_behind front count most (Some found) closed = omega arith

closed_within : (text : List ℕ) → IsClosed (length text) (quoted text)
closed_within [] = tt
closed_within (c ∷ []) = grind (arith, nat_tests)
closed_within (c ∷ d ∷ text) =
    let doubled = closed_behind (quote ∷ []) 2 (length text) (quoted text) (closed_within text) in
    let plain = closed_behind (c ∷ []) 1 (length (d ∷ text)) (quoted (d ∷ text)) (closed_within (d ∷ text)) in
    grind (arith, nat_tests)

string_word_within : (c : ℕ) (text : List ℕ) (found : Option (List ℕ × ℕ)) → IsClosed (length text) found
    → IsWithin (c ∷ text) (string_word found)
string_word_within c text None closed = tt
string_word_within c text (Some found) closed = (omega arith, omega arith)

string_within : (c : ℕ) (text : List ℕ) → IsWithin (c ∷ text) (string (c ∷ text))
string_within c text = string_word_within c text (quoted text) (closed_within text)

-- marks
point_within : (before : Behind) (c : ℕ) (text : List ℕ) → IsWithin (c ∷ text) (point_word before (c ∷ text))
point_within before c text = grind arith

less_within : (c : ℕ) (text : List ℕ) → IsWithin (c ∷ text) (less_word (get_or text 0 0))
less_within c text = let second = within_at text 0 in grind (arith, nat_tests)

greater_within : (c : ℕ) (text : List ℕ) → IsWithin (c ∷ text) (greater_word (get_or text 0 0))
greater_within c text = let second = within_at text 0 in grind (arith, nat_tests)

beside_within : (c : ℕ) (text : List ℕ) (character : ℕ) → IsWithin (c ∷ text) (beside one_character character)
beside_within c text character = grind arith

symbol_within : (first c : ℕ) (text : List ℕ) → IsWithin (c ∷ text) (symbol first (get_or text 0 0))
unfolding symbol
symbol_within first c text =
    let less = less_within c text in
    let greater = greater_within c text in
    let single = beside_within c text first in
    search (rules, chosen)

marked_within : (before : Behind) (c : ℕ) (text : List ℕ) → is_on_line c ≡ true
    → IsWithin (c ∷ text) (marked before (c ∷ text))
unfolding marked
marked_within before c text on =
    let line = line_within c text on in
    let strings = string_within c text in
    let brackets = bracketed_within c text in
    let points = point_within before c text in
    let ampersands = ampersand_within c text in
    let symbols = symbol_within c c text in
    search (rules, chosen)

-- one of five pieces, by tests
picked : (text : List ℕ) (b c d e : Bool) (p q r s t : Piece) → (b ≡ true → IsWithin text p)
    → (c ≡ true → IsWithin text q) → (d ≡ true → IsWithin text r) → (e ≡ true → IsWithin text s)
    → (c ≡ false → IsWithin text t)
    → IsWithin text (if b then p else (if c then q else (if d then r else (if e then s else t))))
picked text true c d e p q r s t first second third fourth last = first refl
picked text false true d e p q r s t first second third fourth last = second refl
picked text false false true e p q r s t first second third fourth last = third refl
picked text false false false true p q r s t first second third fourth last = fourth refl
picked text false false false false p q r s t first second third fourth last = last refl

-- each piece
pub piece_within : (before : Behind) (text : List ℕ) → 0 < length text → IsWithin text (piece before text)
unfolding piece
piece_within before [] long = absurd (omega arith)
piece_within before (c ∷ text) long =
    picked (c ∷ text) (is_blank c) (is_line_end c) (is_ascii_alphabetic c) (is_decimal c)
    (Gap (blank_length (c ∷ text))) (Word LineEnd (line_end_length (c ∷ text))) (named before (c ∷ text))
    (decimal (c ∷ text)) (marked before (c ∷ text))
    (λ _. blank_within c text)
    (λ ends. (line_end_moves c text ends, line_end_within (c ∷ text)))
    (named_within before c text)
    (decimal_within c text)
    (λ plain. marked_within before c text (on_line c plain))
