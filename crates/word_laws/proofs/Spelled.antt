-- Each word that stands in a text is written as it is to be.
use Rattle.std.proofs.Common.{◌≡◌, ◌≢◌, ℕ, ◌+◌, ◌<◌, ◌⊎◌, Bool, true, false, cond, eqb, ltb, leb, ◌||◌, ◌&&◌, ◌==◌}
use Rattle.std.proofs.Common.{codes, List, [], ◌∷◌, ◌++◌, Option, Some, None, pos, length, get_or, drop, take, refl}
use Rattle.std.proofs.Common.{sym, ap, ◌∙◌, subst, inl, inr, arith, suc, if◌then◌else◌}
use Rattle.std.proofs.lemmas.Bool.{eqb-true, false≢true}
use Rattle.std.proofs.lemmas.Bool.Decides.{nat_tests}
use Rattle.std.proofs.lemmas.List.{take_more, append_assoc, get_or-drop}
use Rattle.std.proofs.lemmas.Grind.{flat_map-append}
use Rattle.std.specs.List.{list_all, prefix_len}
use Rattle.std.specs.Char.{is_ascii_alphabetic}
use Rattle.std.specs.Int.{w16, w32, cast_signed}
use Rattle.vb_value.specs.Folding.{same_name}
use Rattle.std.specs.Str.Parse.{digits_value}
use Rattle.std.proofs.Math.Seq.{take-append-add}
use Rattle.vb_value.specs.declared.token.Keyword.{Keyword}
use Rattle.vb_value.specs.declared.token.Symbol.TheVariants as s
use Rattle.vb_value.specs.declared.token.TokenKind.TheVariants as kind
use Rattle.vb_lex.specs.declared.fault.LexFault.TheVariants.{BadNumber, LongName, OpenBracket}
use Rattle.vb_lex.specs.declared.piece.Piece.{Piece}
use Rattle.vb_lex.specs.declared.piece.Piece.TheVariants.{Gap, Word, Fault}
use Rattle.vb_lex.specs.declared.place.Behind.{Behind}
use Rattle.vb_lex.specs.declared.place.Behind.TheVariants as behind
use Rattle.vb_lex.specs.Characters.{ampersand, apostrophe, capital_h, capital_o, close_bracket, equal, greater}
use Rattle.vb_value.specs.Characters.{is_blank}
use Rattle.vb_lex.specs.Characters.{is_bracketed, is_decimal, is_hexadecimal, is_line_end, is_name_part}
use Rattle.vb_lex.specs.Characters.{is_octal, less, open_bracket, point, quote, small_h, small_o}
use Rattle.vb_lex.specs.Gaps.{blank_length, line_end_length, line_length}
use Rattle.vb_lex.specs.Names.{bracketed, is_behind_point, keyword, kind_of_name, named}
use Rattle.vb_lex.specs.Numbers.{ampersand_word, based, based_kind, decimal, decimal_kind, is_spoilt}
use Rattle.vb_lex.specs.Strings.{behind_front, quoted, string, string_word}
use Rattle.word_laws.specs.Spelling.{HasValue, IsDecimal, IsLineEnd, IsSpelled, doubled, symbol_text}
use Rattle.vb_lex.specs.Symbols.{beside, greater_word, less_word, one_character, point_kind, point_word, symbol}
use Rattle.vb_lex.specs.Pieces.{marked, piece}
use Rattle.vb_lex.proofs.Within.{within_at}

-- the word of a piece has its text at the front of what is left
abbrev pub IsRight : List ℕ → Piece → Type 0
IsRight text (Word word taken) = IsSpelled word (take taken text)
IsRight text _ = Unit {0}

-- a choice of pieces
chosen : (P : Piece → Type 0) (b : Bool) (one other : Piece) → (b ≡ true → P one) → (b ≡ false → P other)
    → P (if b then one else other)
chosen P true one other first second = first refl
chosen P false one other first second = second refl

one_of_four : (P : Piece → Type 0) (a b c : Bool) (p q r s : Piece) → P p → P q → P r → P s
    → P (if a then p else (if b then q else (if c then r else s)))
one_of_four P true b c p q r s first second third fourth = first
one_of_four P false true c p q r s first second third fourth = second
one_of_four P false false true p q r s first second third fourth = third
one_of_four P false false false p q r s first second third fourth = fourth

-- the characters of a run pass the test
run_passes : (test : ℕ → Bool) (text : List ℕ) → list_all test (take (prefix_len test text) text) ≡ true
run_passes test [] = refl
run_passes test (c ∷ text) =
    let go : (b : Bool) → test c ≡ b → list_all test (take (cond b (1 + prefix_len test text) 0) (c ∷ text)) ≡ true =
    elim [
      | true ↦ λ is.
          let one : 1 + prefix_len test text ≡ suc (prefix_len test text) = omega arith in
          rw (one, is) (run_passes test text)
      | false ↦ λ _. refl
    ] in
    go (test c) refl

-- a line end
line_end_right : (c : ℕ) (text : List ℕ) → is_line_end c ≡ true
    → IsLineEnd (take (line_end_length (c ∷ text)) (c ∷ text))
line_end_right c [] ends = grind (arith, nat_tests)
line_end_right c (d ∷ text) ends = grind (arith, nat_tests)

-- names
plain_name : (name : List ℕ) → is_ascii_alphabetic (get_or name 0 0) ≡ true → list_all is_name_part name ≡ true
    → IsSpelled (kind.Name name false) name
plain_name name first passes = (refl, first, passes)

name_or_keyword : (name : List ℕ) (found : Option Keyword) → is_ascii_alphabetic (get_or name 0 0) ≡ true
    → list_all is_name_part name ≡ true → keyword name ≡ found → IsSpelled (kind_of_name found name) name
name_or_keyword name None first passes is = plain_name name first passes
name_or_keyword name (Some word) first passes is = is

-- a run that begins with a character of its class
run_first : (test : ℕ → Bool) (c : ℕ) (text : List ℕ) → test c ≡ true
    → take (prefix_len test (c ∷ text)) (c ∷ text) ≡ c ∷ take (prefix_len test text) text
run_first test c text is =
    let one : 1 + prefix_len test text ≡ suc (prefix_len test text) = omega arith in
    rw (is, one) refl

letter_part : (c : ℕ) → is_ascii_alphabetic c ≡ true → is_name_part c ≡ true
letter_part c is = grind (arith, nat_tests)

named_right : (before : Behind) (c : ℕ) (rest : List ℕ) → is_ascii_alphabetic c ≡ true
    → IsRight (c ∷ rest) (named before (c ∷ rest))
named_right before c rest is =
    let text : List ℕ = c ∷ rest in
    let size : ℕ = prefix_len is_name_part text in
    let name : List ℕ = take size text in
    let passes = run_passes is_name_part text in
    let first : is_ascii_alphabetic (get_or name 0 0) ≡ true =
    ap (λ t. is_ascii_alphabetic (get_or t 0 0)) (run_first is_name_part c rest (letter_part c is)) ∙ is in
    one_of_four (IsRight (c ∷ rest)) (ltb 255 size) (is_behind_point before) (same_name
    (codes "rem") name)
    (Fault LongName) (Word (kind.Name name false) size) (Gap (line_length text))
    (Word (kind_of_name (keyword name) name) size)
    tt (plain_name name first passes) tt (name_or_keyword name (keyword name) first passes refl)

-- one character more
taken_more : (text : List ℕ) (n : ℕ) → n < length text → take (n + 1) text ≡ take n text ++ get_or text n 0 ∷ []
taken_more text n within = take_more text n 0 within

bracketed_right : (c : ℕ) (text : List ℕ) → eqb c open_bracket ≡ true → IsRight (c ∷ text) (bracketed (c ∷ text))
bracketed_right c text is =
    chosen (IsRight (c ∷ text)) (eqb (get_or (c ∷ text) (1 + prefix_len is_bracketed text) 0) close_bracket)
    (Word (kind.Name (take (prefix_len is_bracketed text) text) true) (prefix_len is_bracketed text + 2))
    (Fault OpenBracket)
    (λ closes.
    let last = eqb-true (get_or (c ∷ text) (1 + prefix_len is_bracketed text) 0) close_bracket closes in
    let place : 1 + prefix_len is_bracketed text ≡ suc (prefix_len is_bracketed text) = omega arith in
    let end : get_or text (prefix_len is_bracketed text) 0 ≡ close_bracket =
    sym (ap (λ n. get_or (c ∷ text) n 0) place) ∙ last in
    let differs : get_or text (prefix_len is_bracketed text) 0 ≢ 0 = λ none.
    (let no : close_bracket ≡ 0 = sym end ∙ none in omega arith) in
    let within = within_at text (prefix_len is_bracketed text) differs in
    let count : prefix_len is_bracketed text + 2 ≡ suc (prefix_len is_bracketed text + 1) = omega arith in
    let more = taken_more text (prefix_len is_bracketed text) within in (
      ap (λ n. take n (c ∷ text)) count
          ∙ ap (λ t. c ∷ t) (more ∙ ap (λ d. take (prefix_len is_bracketed text) text ++ d ∷ []) end)
          ∙ ap (λ d. d ∷ take (prefix_len is_bracketed text) text ++ close_bracket ∷ []) (eqb-true c open_bracket is),
      run_passes is_bracketed text,
    ))
    (λ _. tt)

-- strings
abbrev twice : ℕ → List ℕ
twice c = if c == quote then quote ∷ quote ∷ [] else c ∷ []

abbrev IsQuoted : List ℕ → Option (List ℕ × ℕ) → Type 0
IsQuoted text None = Unit {0}
IsQuoted text (Some found) = take found.1 text ≡ doubled found.0 ++ quote ∷ []

quoted_behind : (front source text : List ℕ) (count : ℕ) (found : Option (List ℕ × ℕ)) → length source ≡ count
    → source ≡ doubled front → IsQuoted text found → IsQuoted (source ++ text) (behind_front front count found)
quoted_behind front source text count None long same is = tt
quoted_behind front source text count (Some found) long same is =
    ap (λ n. take (n + found.1) (source ++ text)) (sym long)
    ∙ take-append-add source text found.1
    ∙ ap (λ t. source ++ t) is
    ∙ sym (append_assoc source (doubled found.0) (quote ∷ []))
    ∙ ap (λ t. t ++ doubled found.0 ++ quote ∷ []) same
    ∙ ap (λ t. t ++ quote ∷ []) (sym (flat_map-append twice front found.0))

quoted_right : (text : List ℕ) → IsQuoted text (quoted text)
quoted_right [] = tt
quoted_right (c ∷ []) =
    let go : (b : Bool) → eqb c quote ≡ b → IsQuoted (c ∷ []) (if b then Some ([], 1) else None) =
    elim [ true ↦ λ is. ap (λ d. d ∷ []) (eqb-true c quote is) | false ↦ λ _. tt ] in
    go (eqb c quote) refl
quoted_right (c ∷ d ∷ text) =
    let plain : eqb c quote ≡ false → IsQuoted (c ∷ d ∷ text) (behind_front (c ∷ []) 1 (quoted (d ∷ text))) =
    λ differs. quoted_behind (c ∷ []) (c ∷ []) (d ∷ text) 1 (quoted (d ∷ text)) refl (rw differs refl)
    (quoted_right (d ∷ text)) in
    let pair : eqb c quote ≡ true → eqb d quote ≡ true
    → IsQuoted (c ∷ d ∷ text) (behind_front (quote ∷ []) 2 (quoted text)) =
    λ first second. quoted_behind (quote ∷ []) (c ∷ d ∷ []) text 2 (quoted text) refl
    (ap (λ e. e ∷ d ∷ []) (eqb-true c quote first) ∙ ap (λ e. quote ∷ e ∷ []) (eqb-true d quote second))
    (quoted_right text) in
    let inner : (b : Bool) → eqb c quote ≡ true → eqb d quote ≡ b
    → IsQuoted (c ∷ d ∷ text) (if b then behind_front (quote ∷ []) 2 (quoted text) else Some ([], 1)) =
    elim [
      | true ↦ λ first second. pair first second
      | false ↦ λ first _. ap (λ e. e ∷ [])
          (eqb-true c quote first)
    ] in
    let outer : (b : Bool) → eqb c quote ≡ false
    → IsQuoted (c ∷ d ∷ text) (if b then None else behind_front (c ∷ []) 1 (quoted (d ∷ text))) =
    elim [ true ↦ λ _. tt | false ↦ λ differs. plain differs ] in
    let go : (b : Bool) → eqb c quote ≡ b
    → IsQuoted (c ∷ d ∷ text) (if b
    then (if eqb d quote then behind_front (quote ∷ []) 2 (quoted text) else Some ([], 1))
    else (if is_line_end c then None else behind_front (c ∷ []) 1 (quoted (d ∷ text)))) =
    elim [ true ↦ λ is. inner (eqb d quote) is refl | false ↦ λ is. outer (is_line_end c) is ] in
    go (eqb c quote) refl

string_word_right : (c : ℕ) (text : List ℕ) (found : Option (List ℕ × ℕ)) → eqb c quote ≡ true → IsQuoted text found
    → IsRight (c ∷ text) (string_word found)
string_word_right c text None is right = tt
string_word_right c text (Some found) is right =
    let count : 1 + found.1 ≡ suc found.1 = omega arith in
    ap (λ n. take n (c ∷ text)) count ∙ ap (λ t. c ∷ t) right
    ∙ ap (λ d. d ∷ doubled found.0 ++ quote ∷ []) (eqb-true c quote is)

string_right : (c : ℕ) (text : List ℕ) → eqb c quote ≡ true → IsRight (c ∷ text) (string (c ∷ text))
string_right c text is = string_word_right c text (quoted text) is (quoted_right text)

-- numbers
decimal_kind_right : (text : List ℕ) (value taken : ℕ) → IsDecimal (take taken text) value
    → IsRight text (decimal_kind value taken)
decimal_kind_right text value taken is =
    chosen (IsRight text) (leb value 32767) (Word (kind.Integer (pos value)) taken)
    (if leb value 2147483647 then Word (kind.Long (pos value)) taken else Fault BadNumber)
    (λ _. inl (value, is, refl))
    (λ _. chosen (IsRight text) (leb value 2147483647) (Word (kind.Long (pos value)) taken) (Fault BadNumber)
    (λ _. inl (value, is, refl)) (λ _. tt))

decimal_right : (c : ℕ) (rest : List ℕ) → is_decimal c ≡ true → IsRight (c ∷ rest) (decimal (c ∷ rest))
decimal_right c rest is =
    let text : List ℕ = c ∷ rest in
    let some : 0 < length (take (prefix_len is_decimal text) text) =
    let longer = ap length (run_first is_decimal c rest is) in omega (arith, longer) in
    let size : ℕ = prefix_len is_decimal text in
    chosen (IsRight (c ∷ rest)) (is_spoilt (drop size text)) (Fault BadNumber)
    (decimal_kind (digits_value 10 (take size text)) size)
    (λ _. tt)
    (λ _. decimal_kind_right text (digits_value 10 (take size text)) size (some, run_passes is_decimal text, refl))

based_kind_right : (text front : List ℕ) (value : ℕ) (is_long : Bool) (taken : ℕ) → HasValue front value
    → take taken text ≡ front → (is_long ≡ true → take (taken + 1) text ≡ front ++ ampersand ∷ [])
    → IsRight text (based_kind value is_long taken)
based_kind_right text front value is_long taken has same more =
    let Front : List ℕ → Type 0 = λ t. HasValue t value in
    let whole : HasValue (take taken text) value = subst Front (sym same) has in
    chosen (IsRight text) (ltb 4294967295 value) (Fault BadNumber)
    (if is_long then Word (kind.Long (cast_signed w32 value)) (taken + 1)
    else (if leb value 65535 then Word (kind.Integer (cast_signed w16 value)) taken
    else Word (kind.Long (cast_signed w32 value)) taken))
    (λ _. tt)
    (λ _. chosen (IsRight text) is_long (Word (kind.Long (cast_signed w32 value)) (taken + 1))
    (if leb value 65535 then Word (kind.Integer (cast_signed w16 value)) taken
    else Word (kind.Long (cast_signed w32 value)) taken)
    (λ long. inr (inr (front, value, more long, has, refl)))
    (λ _. chosen (IsRight text) (leb value 65535) (Word (kind.Integer (cast_signed w16 value)) taken)
    (Word (kind.Long (cast_signed w32 value)) taken)
    (λ _. inr (value, whole, refl))
    (λ _. inr (inl (value, whole, refl)))))

-- digits behind two characters, and a `&` behind them
front_taken : (c d count : ℕ) (text : List ℕ) → take (2 + count) (c ∷ d ∷ text) ≡ c ∷ d ∷ take count text
front_taken c d count text =
    let places : 2 + count ≡ suc (suc count) = omega arith in
    ap (λ n. take n (c ∷ d ∷ text)) places

rest_dropped : (c d count : ℕ) (text : List ℕ) → drop (2 + count) (c ∷ d ∷ text) ≡ drop count text
rest_dropped c d count text =
    let places : 2 + count ≡ suc (suc count) = omega arith in
    ap (λ n. drop n (c ∷ d ∷ text)) places

long_taken : (c d count : ℕ) (text : List ℕ)
    → eqb (get_or (drop (2 + count) (c ∷ d ∷ text)) 0 0) ampersand ≡ true
    → take (2 + count + 1) (c ∷ d ∷ text) ≡ (c ∷ d ∷ take count text) ++ ampersand ∷ []
long_taken c d count text is =
    let places : 2 + count + 1 ≡ suc (suc (count + 1)) = omega arith in
    let here : get_or (drop (2 + count) (c ∷ d ∷ text)) 0 0 ≡ get_or text count 0 =
    ap (λ t. get_or t 0 0) (rest_dropped c d count text) ∙ get_or-drop count text 0 0
    ∙ ap (λ n. get_or text n 0) (omega arith) in
    let last : get_or text count 0 ≡ ampersand = sym here ∙ eqb-true (get_or (drop (2 + count)
    (c ∷ d ∷ text)) 0 0) ampersand is in
    let differs : get_or text count 0 ≢ 0 = λ none. (let no : ampersand ≡ 0 = sym last ∙ none in omega arith) in
    let more = taken_more text count (within_at text count differs) in
    ap (λ n. take n (c ∷ d ∷ text)) places
    ∙ ap (λ t. c ∷ d ∷ t) (more ∙ ap (λ e. take count text ++ e ∷ []) last)

based_right : (base : ℕ) (test : ℕ → Bool) (c d : ℕ) (text : List ℕ)
    → test 0 ≡ false → test (get_or text 0 0) ≡ true
    → ((digits : List ℕ) → 0 < length digits → list_all test digits ≡ true → HasValue (c ∷ d ∷ digits)
    (digits_value base digits))
    → IsRight (c ∷ d ∷ text) (based base test (c ∷ d ∷ text))
based_right base test c d [] no_nul begins has = absurd (false≢true (sym no_nul ∙ begins))
based_right base test c d (e ∷ rest) no_nul begins has =
    let text : List ℕ = e ∷ rest in
    let count : ℕ = prefix_len test text in
    let digits : List ℕ = take count text in
    let some : 0 < length digits = let longer = ap length (run_first test e rest begins) in omega (arith, longer) in
    chosen (IsRight (c ∷ d ∷ text)) (is_spoilt (drop (2 + count) (c ∷ d ∷ text))) (Fault BadNumber)
    (based_kind (digits_value base digits) (eqb (get_or (drop (2 + count) (c ∷ d ∷ text)) 0 0) ampersand) (2 + count))
    (λ _. tt)
    (λ _. based_kind_right (c ∷ d ∷ text) (c ∷ d ∷ digits) (digits_value base digits)
    (eqb (get_or (drop (2 + count) (c ∷ d ∷ text)) 0 0) ampersand) (2 + count)
    (has digits some (run_passes test text)) (front_taken c d count text) (long_taken c d count text))

second_true : (b other : Bool) → (b && other) ≡ true → other ≡ true
second_true true other is = is
second_true false other is = absurd (false≢true is)

either : (d capital small : ℕ) (other : Bool) → ((eqb d capital || eqb d small) && other) ≡ true
    → (d ≡ capital) ⊎ (d ≡ small)
either d capital small other is = grind (arith, nat_tests)

ampersand_right : (c : ℕ) (text : List ℕ) → eqb c ampersand ≡ true → IsRight (c ∷ text) (ampersand_word (c ∷ text))
ampersand_right c [] is = ap (λ d. d ∷ []) (eqb-true c ampersand is)
ampersand_right c (d ∷ text) is =
    let mark : c ≡ ampersand = eqb-true c ampersand is in
    let written : (digits : List ℕ) → c ∷ d ∷ digits ≡ ampersand ∷ d ∷ digits =
    λ digits. ap (λ e. e ∷ d ∷ digits) mark in
    let letter : ℕ = d in
    let digit : ℕ = get_or text 0 0 in
    chosen (IsRight (c ∷ d ∷ text)) ((eqb letter capital_h || eqb letter small_h) && is_hexadecimal digit)
    (based 16 is_hexadecimal (c ∷ d ∷ text))
    (if (eqb letter capital_o || eqb letter small_o) && is_octal digit then based 8 is_octal (c ∷ d ∷ text)
    else Word (kind.Symbol s.Ampersand) 1)
    (λ h. based_right 16 is_hexadecimal c d text refl
    (second_true (eqb letter capital_h || eqb letter small_h) (is_hexadecimal digit) h) (λ digits some all.
    inl (
      digits,
      record {
        letter = d;
        written = written digits;
        either = either d capital_h small_h
            (is_hexadecimal digit) h;
        some = some;
        all = all;
      },
      refl,
    )))
    (λ _. chosen (IsRight (c ∷ d ∷ text)) ((eqb letter capital_o || eqb letter small_o) && is_octal digit)
    (based 8 is_octal (c ∷ d ∷ text)) (Word (kind.Symbol s.Ampersand) 1)
    (λ o. based_right 8 is_octal c d text refl
    (second_true (eqb letter capital_o || eqb letter small_o) (is_octal digit) o) (λ digits some all.
    inr (
      digits,
      record {
        letter = d;
        written = written digits;
        either = either d capital_o small_o
            (is_octal digit) o;
        some = some;
        all = all;
      },
      refl,
    )))
    (λ _. ap (λ e. e ∷ []) mark))

-- marks
point_right : (before : Behind) (c : ℕ) (text : List ℕ) → eqb c point ≡ true
    → IsRight (c ∷ text) (point_word before (c ∷ text))
point_right before c text is =
    chosen (IsRight (c ∷ text)) (is_decimal (get_or text 0 0)) (Fault BadNumber)
    (Word (kind.Symbol (point_kind before)) 1) (λ _. tt) (λ _. pointed before)
  where
    pointed : (before : Behind) → c ∷ [] ≡ symbol_text (point_kind before)
    pointed behind.Path = ap (λ d. d ∷ []) (eqb-true c point is)
    pointed behind.Point = ap (λ d. d ∷ []) (eqb-true c point is)
    pointed behind.Other = ap (λ d. d ∷ []) (eqb-true c point is)

-- two characters
two_taken : (c d first : ℕ) (text : List ℕ) → eqb c first ≡ true → eqb (get_or text 0 0) d ≡ true → d ≢ 0
    → take 2 (c ∷ text) ≡ first ∷ d ∷ []
two_taken c d first [] one two no_nul = absurd (no_nul (sym (eqb-true 0 d two)))
two_taken c d first (e ∷ text) one two no_nul =
    ap (λ x. x ∷ e ∷ []) (eqb-true c first one) ∙ ap (λ x. first ∷ x ∷ []) (eqb-true e d two)

less_right : (c : ℕ) (text : List ℕ) → eqb c less ≡ true → IsRight (c ∷ text) (less_word (get_or text 0 0))
less_right c text is =
    chosen (IsRight (c ∷ text)) (eqb (get_or text 0 0) greater) (Word (kind.Symbol s.NotEqual) 2)
    (if eqb (get_or text 0 0) equal then Word (kind.Symbol s.AtMost) 2 else Word (kind.Symbol s.Less) 1)
    (λ more. two_taken c greater less text is more (λ e. omega (arith, e)))
    (λ _. chosen (IsRight (c ∷ text)) (eqb (get_or text 0 0) equal) (Word (kind.Symbol s.AtMost) 2)
    (Word (kind.Symbol s.Less) 1)
    (λ more. two_taken c equal less text is more (λ e. omega (arith, e)))
    (λ _. ap (λ d. d ∷ []) (eqb-true c less is)))

greater_right : (c : ℕ) (text : List ℕ) → eqb c greater ≡ true → IsRight (c ∷ text) (greater_word (get_or text 0 0))
greater_right c text is =
    chosen (IsRight (c ∷ text)) (eqb (get_or text 0 0) equal) (Word (kind.Symbol s.AtLeast) 2)
    (Word (kind.Symbol s.Greater) 1)
    (λ more. two_taken c equal greater text is more (λ e. omega (arith, e)))
    (λ _. ap (λ d. d ∷ []) (eqb-true c greater is))

-- the entries of a table, each right at its own character
abbrev AreRight : List (ℕ × Piece) → Type 0
AreRight [] = Unit {0}
AreRight (entry ∷ entries) = ((text : List ℕ) → IsRight (entry.0 ∷ text) entry.1) × AreRight entries

beside_right : (entries : List (ℕ × Piece)) (c : ℕ) (text : List ℕ) → AreRight entries
    → IsRight (c ∷ text) (beside entries c)
beside_right [] c text right = tt
beside_right (entry ∷ entries) c text right =
    let P : ℕ → Type 0 = λ d. IsRight (d ∷ text) entry.1 in
    chosen (IsRight (c ∷ text)) (eqb c entry.0) entry.1 (beside entries c)
    (λ is. subst P (sym (eqb-true c entry.0 is)) (right.0 text))
    (λ _. beside_right entries c text right.1)

one_character_right : AreRight one_character
one_character_right = (
  λ _. refl,
  (
    λ _. refl,
    (
      λ _. refl,
      (
        λ _. refl,
        (
          λ _. refl,
          (
            λ _. refl,
            (
              λ _. refl,
              (
                λ _. refl,
                (λ _. refl, (λ _. tt, (λ _. tt, (λ _. tt, tt)))),
              ),
            ),
          ),
        ),
      ),
    ),
  ),
)

symbol_right : (c : ℕ) (text : List ℕ) → IsRight (c ∷ text) (symbol c (get_or text 0 0))
unfolding symbol
symbol_right c text =
    chosen (IsRight (c ∷ text)) (eqb c less) (less_word (get_or text 0 0))
    (if eqb c greater then greater_word (get_or text 0 0) else beside one_character c)
    (less_right c text)
    (λ _. chosen (IsRight (c ∷ text)) (eqb c greater) (greater_word (get_or text 0 0)) (beside one_character c)
    (greater_right c text) (λ _. beside_right one_character c text one_character_right))

-- each piece
marked_right : (before : Behind) (c : ℕ) (text : List ℕ) → IsRight (c ∷ text) (marked before (c ∷ text))
unfolding marked
marked_right before c text =
    let P : Piece → Type 0 = IsRight (c ∷ text) in
    let last : Piece = symbol c (get_or text 0 0) in
    let fourth : Piece = if eqb c ampersand then ampersand_word (c ∷ text) else last in
    let third : Piece = if eqb c point then point_word before (c ∷ text) else fourth in
    let second : Piece = if eqb c open_bracket then bracketed (c ∷ text) else third in
    let first : Piece = if eqb c quote then string (c ∷ text) else second in
    chosen P (eqb c apostrophe) (Gap (line_length (c ∷ text))) first (λ _. tt) (λ _.
    chosen P (eqb c quote) (string (c ∷ text)) second (string_right c text) (λ _.
    chosen P (eqb c open_bracket) (bracketed (c ∷ text)) third (bracketed_right c text) (λ _.
    chosen P (eqb c point) (point_word before (c ∷ text)) fourth (point_right before c text) (λ _.
    chosen P (eqb c ampersand) (ampersand_word (c ∷ text)) last (ampersand_right c text) (λ _.
    symbol_right c text)))))

pub piece_right : (before : Behind) (text : List ℕ) → 0 < length text → IsRight text (piece before text)
unfolding piece
piece_right before [] long = absurd (omega arith)
piece_right before (c ∷ text) long =
    let P : Piece → Type 0 = IsRight (c ∷ text) in
    let last : Piece = marked before (c ∷ text) in
    let third : Piece = if is_decimal c then decimal (c ∷ text) else last in
    let second : Piece = if is_ascii_alphabetic c then named before (c ∷ text) else third in
    let first : Piece = if is_line_end c then Word kind.LineEnd (line_end_length (c ∷ text)) else second in
    chosen P (is_blank c) (Gap (blank_length (c ∷ text))) first (λ _. tt) (λ _.
    chosen P (is_line_end c) (Word kind.LineEnd (line_end_length (c ∷ text))) second (line_end_right c text) (λ _.
    chosen P (is_ascii_alphabetic c) (named before (c ∷ text)) third (named_right before c text) (λ _.
    chosen P (is_decimal c) (decimal (c ∷ text)) last (decimal_right c text) (λ _.
    marked_right before c text))))
