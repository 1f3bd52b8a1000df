-- Texts of printable characters.
use Rattle.std.proofs.Common.{◌≡◌, ℕ, suc, zero, ◌<◌, ◌/◌, ◌%◌, Bool, true, false, List, [], ◌∷◌, ◌++◌}
use Rattle.std.proofs.Common.{refl, sym, ap, ◌∙◌, subst, arith}
use Rattle.std.specs.Prelude.{◌==◌, ◌&&◌, cond, encode_utf8_all}
use Rattle.std.specs.Char.{is_ascii_alphanumeric}
use Rattle.std.specs.Fmt.{decimal, digit_glyph, digits_onto}
use Rattle.std.specs.Fmt.{digits}
use Rattle.std.specs.List.{All}
use Rattle.std.proofs.lemmas.Bool.{cond_both}
use Rattle.std.proofs.lemmas.Bool.Decides.{nat_tests}
use Rattle.std.proofs.lemmas.List.Elements.{All-nil, All-cons, All-append, All-weaker, All-head, All-tail}
use Rattle.std.proofs.lemmas.Str.{encode_ascii}
use Rattle.percent_encoding.specs.Percent.{percent_encode_byte}
use Rattle.percent_encoding.proofs.PercentLemmas.{IsEscapeByte, All-percent_encode_byte}
use Rattle.asp_text.specs.Url.{url_byte, url_bytes, url_encoded}
use Rattle.asp_response.specs.Head.{is_printable, is_value}
use Rattle.asp_response.specs.Sound.{IsGraphic, IsPrintable}

-- both sides of a test that is met
pub left_true : (a b : Bool) → (a && b) ≡ true → a ≡ true
left_true true b met = refl
left_true false b met = met

pub right_true : (a b : Bool) → (a && b) ≡ true → b ≡ true
right_true true b met = met
right_true false b met = cc

pub character_graphic : (c : ℕ) → is_printable c ≡ true → IsGraphic c
character_graphic c met = record { least = grind (arith, nat_tests); most = grind (arith, nat_tests) }

pub nothing_printable : IsPrintable []
nothing_printable = record { each = All-nil IsGraphic }

pub one_more : {c : ℕ} {text : List ℕ} → IsGraphic c → IsPrintable text → IsPrintable (c ∷ text)
one_more {c} {text} first rest = record { each = All-cons IsGraphic c text first rest.each }

pub both_printable : {first second : List ℕ} → IsPrintable first → IsPrintable second → IsPrintable (first ++ second)
both_printable {first} {second} one other = record { each = All-append IsGraphic first second one.each other.each }

-- a text that may be a value is printable
pub printable_of : (text : List ℕ) → is_value text ≡ true → IsPrintable text
printable_of [] met = nothing_printable
printable_of (c ∷ text) met =
    one_more (character_graphic c (left_true (is_printable c) (is_value text) met))
    (printable_of text (right_true (is_printable c) (is_value text) met))

-- a printable text is its own UTF-8
pub utf8_stays : (text : List ℕ) → All IsGraphic text → encode_utf8_all text ≡ text
utf8_stays [] graphic = refl
utf8_stays (c ∷ text) graphic =
    let first = All-head IsGraphic c text graphic in
    let small : c < 128 = omega (arith, first.most) in
    ap (λ l. l ++ encode_utf8_all text) (encode_ascii c small)
    ∙ ap (λ l. c ∷ l) (utf8_stays text (All-tail IsGraphic c text graphic))

pub utf8_printable : {text : List ℕ} → IsPrintable text → IsPrintable (encode_utf8_all text)
utf8_printable {text} printable = subst IsPrintable (sym (utf8_stays text printable.each)) printable

-- ---- texts in a URL

escape_graphic : (c : ℕ) → IsEscapeByte c → IsGraphic c
escape_graphic c is = record { least = grind (arith, nat_tests); most = grind (arith, nat_tests) }

letter_graphic : (b : ℕ) → is_ascii_alphanumeric b ≡ true → IsGraphic b
letter_graphic b letter = record { least = grind (arith, nat_tests); most = grind (arith, nat_tests) }

url_byte_printable : (b : ℕ) → IsPrintable (url_byte b)
url_byte_printable b =
    cond_both (is_ascii_alphanumeric b) (b ∷ []) (cond (b == 32) (43 ∷ []) (percent_encode_byte b)) IsPrintable
    (λ letter. one_more (letter_graphic b letter) nothing_printable)
    (λ other. cond_both (b == 32) (43 ∷ []) (percent_encode_byte b) IsPrintable
    (λ space. printable_of (43 ∷ []) refl)
    (λ byte. record {
      each = All-weaker IsEscapeByte IsGraphic escape_graphic (percent_encode_byte b) (All-percent_encode_byte b);
    }))

url_bytes_printable : (bytes : List ℕ) → IsPrintable (url_bytes bytes)
unfolding url_bytes
url_bytes_printable [] = nothing_printable
url_bytes_printable (b ∷ bytes) = both_printable (url_byte_printable b) (url_bytes_printable bytes)

pub url_printable : (text : List ℕ) → IsPrintable (url_encoded text)
url_printable text = url_bytes_printable (encode_utf8_all text)

-- ---- numbers

digit_graphic : (d : ℕ) → d < 10 → IsGraphic (digit_glyph false d)
digit_graphic d small = record { least = grind (arith, nat_tests); most = grind (arith, nat_tests) }

digits_printable : (count n : ℕ) (more : List ℕ) → IsPrintable more → IsPrintable (digits_onto count 10 false n more)
digits_printable zero n more printable = printable
digits_printable (suc count) n more printable =
    let digit = digit_glyph false (n % 10) in
    let here : IsPrintable (digit ∷ more) = one_more (digit_graphic (n % 10) (omega arith)) printable in
    cond_both (n / 10 == 0) (digit ∷ more) (digits_onto count 10 false (n / 10) (digit ∷ more)) IsPrintable
    (λ last. here) (λ others. digits_printable count (n / 10) (digit ∷ more) here)

pub decimal_printable : (n : ℕ) → IsPrintable (decimal n)
unfolding digits
decimal_printable n = digits_printable 64 n [] nothing_printable
