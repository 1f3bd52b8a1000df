-- Texts that are encoded a character or a byte at a time.
use Rattle.std.proofs.Common.{◌≡◌, ℕ, ◌+◌, ◌<◌, ◌^◌, ◌/◌, ◌%◌, List, [], ◌∷◌, ◌++◌, length, take, get_or, refl, sym}
use Rattle.std.proofs.Common.{ap, ◌∙◌, append-nil, arith, IsAscii, All, map, ◌≢◌, ltb}
use Rattle.std.specs.Prelude.{◌==◌, cond}
use Rattle.std.specs.List.{flat_map}
use Rattle.std.specs.Fmt.{decimal}
use Rattle.std.proofs.Math.Utf8.{encode}
use Rattle.std.specs.Str.{chars, encode_utf8_all}
use Rattle.std.specs.Char.{is_ascii_alphanumeric}
use Rattle.std.proofs.lemmas.Bool.{cond_both}
use Rattle.std.proofs.lemmas.Bool.Decides.{nat_tests}
use Rattle.std.proofs.lemmas.List.{take_more, map-append}
use Rattle.std.proofs.lemmas.List.Elements.{All-nil, All-cons, All-append, All-weaker, All-head, All-tail}
use Rattle.std.proofs.lemmas.Grind.{flat_map-append}
use Rattle.std.proofs.lemmas.Fmt.{IsAscii-decimal}
use Rattle.std.proofs.lemmas.Str.{chars-IsAscii}
use Rattle.std.proofs.lemmas.Str.Ascii.{IsAscii-from_all}
use Rattle.percent_encoding.specs.Percent.{percent_encode_byte, percent_decode}
use Rattle.percent_encoding.proofs.PercentLemmas.{IsEscapeByte, All-percent_encode_byte, percent_decode-nil}
use Rattle.percent_encoding.proofs.PercentLemmas.{percent_decode_not_percent, percent_decode-percent_encode_byte}
use Rattle.asp_text.specs.Html.{html_character, html_encoded}
use Rattle.asp_text.specs.Laws.{IsText, IsUrlCharacter, plus_to_space, IsUrlOf}
use Rattle.asp_text.specs.Url.{url_byte, url_bytes, url_encoded}

-- one item more, encoded
more : (f : ℕ → List ℕ) (xs : List ℕ) (i : ℕ) → i < length xs
    → flat_map f (take (i + 1) xs) ≡ flat_map f (take i xs) ++ f (get_or xs i 0)
more f xs i inside =
    ap (flat_map f) (take_more xs i 0 inside) ∙ flat_map-append f (take i xs) (get_or xs i 0 ∷ [])
    ∙ ap (λ l. flat_map f (take i xs) ++ l) (append-nil (f (get_or xs i 0)))

pub html_more : (xs : List ℕ) (i : ℕ) → i < length xs
    → html_encoded (take (i + 1) xs) ≡ html_encoded (take i xs) ++ html_character (get_or xs i 0)
unfolding html_encoded
html_more xs i inside = more html_character xs i inside

-- the characters of a number's digits
pub digit_characters : (n : ℕ) (text : List ℕ) → n < 2 ^ 64 → text ≡ decimal n → chars text ≡ decimal n
digit_characters n text small is = ap chars is ∙ chars-IsAscii (decimal n) (IsAscii-decimal n small)

pub url_more : (xs : List ℕ) (i : ℕ) → i < length xs
    → url_bytes (take (i + 1) xs) ≡ url_bytes (take i xs) ++ url_byte (get_or xs i 0)
unfolding url_bytes
url_more xs i inside = more url_byte xs i inside

-- what an escape is made of
escape_character : (c : ℕ) → IsEscapeByte c → IsUrlCharacter c
escape_character c is = (grind arith, grind (arith, nat_tests))

url_character : (b : ℕ) → All IsUrlCharacter (url_byte b)
url_character b =
    cond_both (is_ascii_alphanumeric b) (b ∷ []) (cond (b == 32) (43 ∷ []) (percent_encode_byte b)) (All IsUrlCharacter)
    (λ letter. All-cons IsUrlCharacter b [] (grind (arith, nat_tests), grind (arith, nat_tests))
    (All-nil IsUrlCharacter))
    (λ other. cond_both (b == 32) (43 ∷ []) (percent_encode_byte b) (All IsUrlCharacter)
    (λ space. All-cons IsUrlCharacter 43 [] (omega arith, refl) (All-nil IsUrlCharacter))
    (λ byte. All-weaker IsEscapeByte IsUrlCharacter escape_character (percent_encode_byte b)
    (All-percent_encode_byte b)))

pub url_clean : (bytes : List ℕ) → All IsUrlCharacter (url_bytes bytes)
unfolding url_bytes
url_clean [] = All-nil IsUrlCharacter
url_clean (b ∷ bytes) = All-append IsUrlCharacter (url_byte b) (url_bytes bytes) (url_character b) (url_clean bytes)

url_ascii : (bytes : List ℕ) → IsAscii (url_bytes bytes)
url_ascii bytes =
    IsAscii-from_all (url_bytes bytes)
    (All-weaker IsUrlCharacter (λ c. c < 128) (λ c is. is.0) (url_bytes bytes) (url_clean bytes))

-- the characters of what was encoded
pub url_characters : (bytes text encoded : List ℕ) → bytes ≡ encode_utf8_all text → encoded ≡ url_bytes bytes
    → chars encoded ≡ url_encoded text
url_characters bytes text encoded is same =
    ap chars same ∙ chars-IsAscii (url_bytes bytes) (url_ascii bytes) ∙ ap url_bytes is

no_plus : (cs : List ℕ) → All (λ c. c ≢ 43) cs → map plus_to_space cs ≡ cs
no_plus [] none = refl
no_plus (c ∷ cs) none =
    let other = All-head (λ x. x ≢ 43) c cs none in
    let kept : plus_to_space c ≡ c = grind (arith, nat_tests) in
    cc (kept, no_plus cs (All-tail (λ x. x ≢ 43) c cs none))

-- what one byte is read as
read_byte : (b : ℕ) (rest : List ℕ) → b < 256
    → percent_decode (map plus_to_space (url_byte b ++ rest)) ≡ b ∷ percent_decode (map plus_to_space rest)
read_byte b rest small =
    let Reads : List ℕ → Type 0 = λ cs. percent_decode (map plus_to_space (cs ++ rest))
    ≡ b ∷ percent_decode (map plus_to_space rest) in
    cond_both (is_ascii_alphanumeric b) (b ∷ []) (cond (b == 32) (43 ∷ []) (percent_encode_byte b)) Reads
    (λ letter.
    let kept : plus_to_space b ≡ b = grind (arith, nat_tests) in
    ap (λ c. percent_decode (c ∷ map plus_to_space rest)) kept
    ∙ percent_decode_not_percent b (map plus_to_space rest) (λ percent. grind (arith, nat_tests)))
    (λ other. cond_both (b == 32) (43 ∷ []) (percent_encode_byte b) Reads
    (λ space.
    let is : b ≡ 32 = grind (arith, nat_tests) in
    percent_decode_not_percent 32 (map plus_to_space rest) (λ percent. omega arith)
    ∙ ap (λ c. c ∷ percent_decode (map plus_to_space rest)) (sym is))
    (λ byte.
    let none = All-weaker IsEscapeByte (λ c. c ≢ 43) (λ c is plus. grind arith) (percent_encode_byte b)
    (All-percent_encode_byte b) in
    ap percent_decode (map-append plus_to_space (percent_encode_byte b) rest
    ∙ ap (λ l. l ++ map plus_to_space rest) (no_plus (percent_encode_byte b) none))
    ∙ percent_decode-percent_encode_byte b (map plus_to_space rest) small))

read_bytes : (bytes : List ℕ) → All (λ b. b < 256) bytes → percent_decode (map plus_to_space (url_bytes bytes)) ≡ bytes
unfolding url_bytes
read_bytes [] small = percent_decode-nil
read_bytes (b ∷ bytes) small =
    read_byte b (url_bytes bytes) (All-head (λ x. x < 256) b bytes small)
    ∙ ap (λ l. b ∷ l) (read_bytes bytes (All-tail (λ x. x < 256) b bytes small))

-- UTF-8 is bytes
small_two : (a b : ℕ) → a < 256 → b < 256 → All (λ x. x < 256) (a ∷ b ∷ [])
small_two a b x y = All-cons (λ n. n < 256) a (b ∷ []) x (All-cons (λ n. n < 256) b [] y (All-nil (λ n. n < 256)))

small_code : (c : ℕ) → c < 1114112 → All (λ b. b < 256) (encode c)
unfolding encode
small_code c small =
    let P : ℕ → Type 0 = λ b. b < 256 in
    let last = 128 + c % 64 in
    let before = 128 + c / 64 % 64 in
    cond_both (ltb c 128) (c ∷ []) _ (All P)
    (λ one. All-cons P c [] (grind (arith, nat_tests)) (All-nil P))
    (λ _. cond_both (ltb c 2048) ((192 + c / 64) ∷ last ∷ []) _ (All P)
    (λ two. let low : c < 2048 = grind (arith, nat_tests) in small_two (192 + c / 64) last (omega arith) (omega arith))
    (λ _. cond_both (ltb c 65536) ((224 + c / 4096) ∷ before ∷ last ∷ []) _ (All P)
    (λ three. let low : c < 65536 = grind (arith, nat_tests) in
    All-cons P (224 + c / 4096) (before ∷ last ∷ []) (omega arith)
    (small_two before last (omega arith) (omega arith)))
    (λ _. All-cons P (240 + c / 262144) ((128 + c / 4096 % 64) ∷ before ∷ last ∷ []) (omega arith)
    (All-cons P (128 + c / 4096 % 64) (before ∷ last ∷ []) (omega arith)
    (small_two before last (omega arith) (omega arith))))))

small_codes : (text : List ℕ) → IsText text → All (λ b. b < 256) (encode_utf8_all text)
small_codes [] is = All-nil (λ b. b < 256)
small_codes (c ∷ text) is =
    All-append (λ b. b < 256) (encode c) (encode_utf8_all text) (small_code c (All-head (λ x. x < 1114112) c text is))
    (small_codes text (All-tail (λ x. x < 1114112) c text is))

pub url_of : (text : List ℕ) → IsText text → IsUrlOf text (url_encoded text)
url_of text is = record {
  clean = url_clean (encode_utf8_all text);
  reads = read_bytes (encode_utf8_all text) (small_codes text is);
}
