-- The characters of a text, and the bytes that encode them.
use Rattle.std.proofs.Common.{◌≡◌, ℕ, ◌+◌, ◌<◌, List, ◌++◌, Bool, true, false, Ok, Err, length, get_or, take}
use Rattle.std.proofs.Common.{refl, ◌∙◌, ap, append-nil, if◌then◌else◌}
use Rattle.std.specs.Str.{chars, is_utf8, IsUtf8, encode_utf8_all}
use Rattle.std.specs.Char.{encode_utf8}
use Rattle.std.proofs.lemmas.List.{take_more}
use Rattle.std.proofs.lemmas.Str.{chars_from_encodes, encodes-append, is_utf8-from_IsUtf8, IsUtf8-from_is_utf8}
use Rattle.vb_value.specs.declared.text.Utf8Stop.TheVariants.{NotUtf8}
use Rattle.vb_value.specs.Decoding.{decoded}

-- what `chars` and `collect` give of a text
pub collected : (characters bytes : List ℕ) → IsUtf8 bytes → encode_utf8_all characters ≡ bytes
    → characters ≡ chars bytes
collected characters bytes = chars_from_encodes characters bytes

-- one character more, and its bytes
pub encoded_more : (text : List ℕ) (at : ℕ) → at < length text
    → encode_utf8_all (take (at + 1) text) ≡ encode_utf8_all (take at text) ++ encode_utf8 (get_or text at 0)
encoded_more text at within =
    ap encode_utf8_all (take_more text at 0 within) ∙ rw encodes-append (simp append-nil)

-- bytes that are UTF-8
pub decoded_text : (bytes : List ℕ) → IsUtf8 bytes → decoded bytes ≡ Ok (chars bytes)
decoded_text bytes is = rw (is_utf8-from_IsUtf8 bytes is) refl

-- bytes that are not
pub decoded_other : (bytes : List ℕ) → ¬ (IsUtf8 bytes) → decoded bytes ≡ Err NotUtf8
decoded_other bytes not =
    let test : (b : Bool) → is_utf8 bytes ≡ b → (if b then Ok (chars bytes) else Err NotUtf8) ≡ Err NotUtf8 =
    elim [ true ↦ λ is. absurd (not (IsUtf8-from_is_utf8 bytes is)) | false ↦ λ _. refl ] in
    test (is_utf8 bytes) refl
