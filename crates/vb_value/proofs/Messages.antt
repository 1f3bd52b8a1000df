-- The texts of errors are ASCII.
use Rattle.std.proofs.Common.{◌≡◌, ℕ, nat_lt, Bool, true, false, ◌&&◌, ℤ, pos, negsuc, List, [], ◌∷◌, codes}
use Rattle.std.proofs.Common.{if◌then◌else◌, ◌==◌, refl, arith}
use Rattle.std.specs.List.{list_all}
use Rattle.std.specs.Str.{IsAscii, chars}
use Rattle.std.proofs.lemmas.Str.{chars-IsAscii}
use Rattle.std.proofs.lemmas.Str.Ascii.{IsAscii-nil, IsAscii-cons}
use Rattle.vb_value.specs.ErrorText.{error_texts, text_beside, error_text_of}

abbrev is_ascii : List ℕ → Bool
is_ascii text = list_all (λ c. nat_lt c 128) text

ascii_text : (text : List ℕ) → is_ascii text ≡ true → IsAscii text
ascii_text [] all = IsAscii-nil
ascii_text (c ∷ text) all = grind (IsAscii-cons, ascii_text text, arith)

chosen : (b : Bool) (a c : List ℕ) → IsAscii a → IsAscii c → IsAscii (if b then a else c)
chosen true a c first second = first
chosen false a c first second = second

both : (a b : Bool) → a && b ≡ true → (a ≡ true) × (b ≡ true)
both true b all = (refl, all)
both false b all = absurd (cc)

ascii_beside : (number : ℕ) (entries : List (ℕ × List ℕ)) → list_all (λ entry. is_ascii entry.1) entries ≡ true
    → IsAscii (text_beside number entries)
ascii_beside number [] all = ascii_text (codes "Unknown runtime error") refl
ascii_beside number (entry ∷ entries) all =
    chosen (number == entry.0) entry.1 (text_beside number entries)
    (ascii_text entry.1 (both _ _ all).0) (ascii_beside number entries (both _ _ all).1)

-- the text of an error has as many characters as bytes
pub one_byte_each : (number : ℤ) → chars (error_text_of number) ≡ error_text_of number
unfolding error_text_of
one_byte_each (pos number) = chars-IsAscii _ (ascii_beside number error_texts refl)
one_byte_each (negsuc less) = chars-IsAscii _ (ascii_beside 0 [] refl)
