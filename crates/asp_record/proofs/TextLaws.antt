-- A text that is read is the text that was written, and what was written is read again.
use Rattle.std.proofs.Common.{◌≡◌, ℕ, zero, suc, ◌+◌, ◌/◌, ◌%◌, ◌<◌, Bool, true, false, cond, ltb, not, ◌&&◌}
use Rattle.std.proofs.Common.{List, [], ◌∷◌, ◌++◌}
use Rattle.std.proofs.Common.{length, take, drop, Some, None, Result, Ok, Err, refl, sym, ap, ◌∙◌}
use Rattle.std.proofs.Common.{arith, inl, inr}
use Rattle.std.specs.Prelude.{encode_utf8_all}
use Rattle.std.specs.List.{prefix_len}
use Rattle.std.specs.Fmt.{digit_glyph}
use Rattle.std.specs.Str.{bytes_eq, chars, is_utf8}
use Rattle.std.proofs.Math.Utf8.{encode, encodes, scalar, scalar_cases, scalars}
use Rattle.std.proofs.lemmas.Bool.{cases_lt, le-ltb, lt-ltb}
use Rattle.std.proofs.lemmas.Bool.Decides.{Decides-below_and}
use Rattle.std.proofs.lemmas.List.{take_at, drop_at, take-append-drop}
use Rattle.std.proofs.lemmas.Option.{cond_some, some_pair_parts}
use Rattle.std.proofs.lemmas.Slice.Eq.{bytes_eq-Decides}
use Rattle.std.proofs.lemmas.Str.{chars-encodes, encodes-chars, scalars-chars, is_utf8-from_IsUtf8, IsUtf8-from_is_utf8}
use Rattle.hex.specs.Hex.{IsBytes, decode_of}
use Rattle.hex.specs.declared.error.FromHexError.{FromHexError}
use Rattle.hex.proofs.HexLemmas.{decode_of-encode_lower}
use Rattle.vb_value.specs.declared.text.Utf8Stop.TheVariants.{NotUtf8}
use Rattle.vb_value.specs.Decoding.{decoded}
use Rattle.asp_record.specs.Lines.{hex}
use Rattle.asp_record.specs.Fields.{◌>>=◌}
use Rattle.asp_record.specs.ReadingValues.{ends_item, lower_bytes, text_at, text_of}
use Rattle.asp_record.proofs.FieldLaws.{step_is}
use Rattle.asp_record.proofs.SeedLaws.{hex_is}
use Rattle.asp_record.proofs.SignedLaws.{IsCut}

-- the digits of numbers below this end no item
abbrev none_ends : ℕ → Bool
none_ends zero = true
none_ends (suc n) = not (ends_item (digit_glyph false n)) && none_ends n

glyph_stays : (n : ℕ) → n < 16 → not (ends_item (digit_glyph false n)) ≡ true
glyph_stays =
    (Decides-below_and (λ n. not (ends_item (digit_glyph false n)))
    (λ n. not (ends_item (digit_glyph false n)) ≡ true) none_ends
    (λ n. (λ e. e, λ e. e)) refl (λ _. refl) 16).0 refl

-- the digits of bytes end where an item does
hex_run : (bytes rest : List ℕ) → IsBytes bytes → IsCut rest
    → prefix_len (λ c. not (ends_item c)) (hex bytes ++ rest) ≡ length (hex bytes)
unfolding hex
hex_run [] [] fits cut = absurd cut
hex_run [] (c ∷ rest) fits cut = let ends : not (ends_item c) ≡ false = ap not cut in rw ends refl
hex_run (b ∷ bytes) rest fits cut =
    let high = glyph_stays (b / 16) (omega (arith, fits 0)) in
    let low = glyph_stays (b % 16) (omega arith) in
    let more = hex_run bytes rest (λ i. fits (suc i)) cut in
    rw (high, low) (omega (arith, more))

no_bytes : IsBytes []
no_bytes i = omega arith

byte_then : (b : ℕ) (rest : List ℕ) → b < 256 → IsBytes rest → IsBytes (b ∷ rest)
byte_then b rest small fits zero = small
byte_then b rest small fits (suc i) = fits i

top : (c : ℕ) → scalar c ≡ true → c < 1114112
top c is = elim (scalar_cases c is) [ inl low ↦ omega arith | inr high ↦ omega arith ]

encode_bytes : (c : ℕ) → scalar c ≡ true → IsBytes (encode c)
unfolding encode
encode_bytes c is =
    let most = top c is in
    let next = λ (bits : ℕ) (rest : List ℕ) (fits : IsBytes rest). byte_then (128 + bits % 64) rest
    (omega arith) fits in
    elim (cases_lt c 128) [
      | inl one ↦ let t : ltb c 128 ≡ true = lt-ltb c 128 one in rw t (byte_then c [] (omega arith) no_bytes)
      | inr above ↦
          let f : ltb c 128 ≡ false = le-ltb c 128 above in
          elim (cases_lt c 2048) [
            | inl two ↦
                let t : ltb c 2048 ≡ true = lt-ltb c 2048 two in
                rw (f, t) (byte_then (192 + c / 64) ((128 + c % 64) ∷ []) (omega arith) (next c [] no_bytes))
            | inr higher ↦
                let g : ltb c 2048 ≡ false = le-ltb c 2048 higher in
                elim (cases_lt c 65536) [
                  | inl three ↦
                      let t : ltb c 65536 ≡ true = lt-ltb c 65536 three in
                      rw (f, g, t) (byte_then (224 + c / 4096) ((128 + c / 64 % 64) ∷ (128 + c % 64) ∷ []) (omega arith)
                      (next (c / 64) ((128 + c % 64) ∷ []) (next c [] no_bytes)))
                  | inr highest ↦
                      let h : ltb c 65536 ≡ false = le-ltb c 65536 highest in
                      rw (f, g, h) (byte_then (240 + c / 262144)
                      ((128 + c / 4096 % 64) ∷ (128 + c / 64 % 64) ∷ (128 + c % 64) ∷ []) (omega arith)
                      (next (c / 4096) ((128 + c / 64 % 64) ∷ (128 + c % 64) ∷ [])
                      (next (c / 64) ((128 + c % 64) ∷ []) (next c [] no_bytes))))
                ]
          ]
    ]

IsBytes-append : (one other : List ℕ) → IsBytes one → IsBytes other → IsBytes (one ++ other)
IsBytes-append [] other first second i = second i
IsBytes-append (b ∷ one) other first second zero = first zero
IsBytes-append (b ∷ one) other first second (suc i) = IsBytes-append one other (λ j. first (suc j)) second i

both : (b c : Bool) → b && c ≡ true → (b ≡ true) × (c ≡ true)
both true c e = (refl, e)
both false c e = absurd cc

encodes_bytes : (text : List ℕ) → scalars text ≡ true → IsBytes (encodes text)
encodes_bytes [] is = no_bytes
encodes_bytes (c ∷ text) is =
    let parts = both (scalar c) (scalars text) is in
    IsBytes-append (encode c) (encodes text) (encode_bytes c parts.0) (encodes_bytes text parts.1)

decoded_again : (text : List ℕ) → scalars text ≡ true → decoded (encodes text) ≡ Ok text
decoded_again text is =
    let utf8 : is_utf8 (encodes text) ≡ true = is_utf8-from_IsUtf8 (encodes text) (text, (is, refl)) in
    rw (utf8, chars-encodes text is) refl

pub text_again : (text rest : List ℕ) → scalars text ≡ true → IsCut rest
    → text_at (hex (encode_utf8_all text) ++ rest) ≡ Some (text, rest)
unfolding text_at
text_again text rest is cut =
    let bytes = encodes text in
    let fits = encodes_bytes text is in
    let digits = hex bytes in
    let count = hex_run bytes rest fits cut in
    let front = take_at digits rest (length digits) refl in
    let back = drop_at digits rest (length digits) refl in
    let read : decode_of digits ≡ Ok bytes = ap decode_of (sym (hex_is bytes fits))
    ∙ decode_of-encode_lower bytes fits in
    let same : bytes_eq digits digits ≡ true = (bytes_eq-Decides digits digits).1 refl in
    rw (count, front, back, read, same, decoded_again text is) refl

lower_is : (digits bytes : List ℕ) (read : Result (List ℕ) FromHexError) → lower_bytes digits read ≡ Some bytes →
    hex bytes ≡ digits
lower_is digits bytes (Ok found) e =
    let g = cond_some (bytes_eq (hex found) digits) found bytes e in
    ap hex (sym g.1) ∙ (bytes_eq-Decides (hex found) digits).0 g.0
lower_is digits bytes (Err stop) e = absurd cc

decoded_is : (bytes text : List ℕ) (b : Bool) → is_utf8 bytes ≡ b →
    text_of (cond b (Ok (chars bytes)) (Err NotUtf8)) ≡ Some text
    → (encodes text ≡ bytes) × (scalars text ≡ true)
decoded_is bytes text true is e =
    let utf8 = IsUtf8-from_is_utf8 bytes is in
    let same : chars bytes ≡ text = ap (λ o. elim o as (λ _. List ℕ) [ Some t ↦ t | None ↦ [] ]) e in
    (ap encodes (sym same) ∙ encodes-chars bytes utf8, ap scalars (sym same) ∙ scalars-chars bytes utf8)
decoded_is bytes text false is e = absurd cc

pub text_is : (bytes text rest : List ℕ) → text_at bytes ≡ Some (text, rest)
    → (bytes ≡ hex (encode_utf8_all text) ++ rest) × (scalars text ≡ true)
unfolding text_at
text_is bytes text rest e =
    let count = prefix_len (λ c. not (ends_item c)) bytes in
    let digits = take count bytes in
    let a = step_is (lower_bytes digits (decode_of digits)) (λ utf8. text_of (decoded utf8) >>= λ t. Some
    (t, drop count bytes)) (text, rest) e in
    let utf8 = a.0 in
    let b = step_is (text_of (decoded utf8)) (λ t. Some (t, drop count bytes)) (text, rest) a.2 in
    let parts = some_pair_parts b.0 text (drop count bytes) rest b.2 in
    let found = decoded_is utf8 b.0 (is_utf8 utf8) refl b.1 in
    let lower = lower_is digits utf8 (decode_of digits) a.1 in (
      sym (take-append-drop count bytes) ∙ ap (λ l. l ++ drop count bytes) (sym lower ∙ ap hex (sym found.0))
          ∙ ap (λ t. hex (encodes t) ++ drop count bytes) parts.0 ∙ ap (λ l. hex (encodes text) ++ l) parts.1,
      ap scalars (sym parts.0) ∙ found.1,
    )
