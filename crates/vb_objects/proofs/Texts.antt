-- Texts that are written in the program are ASCII.
use Rattle.std.proofs.Common.{◌≡◌, ℕ, nat_lt, Bool, true, List, [], ◌∷◌, refl, arith}
use Rattle.std.specs.List.{list_all}
use Rattle.std.specs.Str.{IsAscii, chars}
use Rattle.std.proofs.lemmas.Str.{chars-IsAscii}
use Rattle.std.proofs.lemmas.Str.Ascii.{IsAscii-nil, IsAscii-cons}
use Rattle.vb_meaning.specs.Errors.{language_source}

abbrev is_ascii : List ℕ → Bool
is_ascii text = list_all (λ c. nat_lt c 128) text

ascii_text : (text : List ℕ) → is_ascii text ≡ true → IsAscii text
ascii_text [] all = IsAscii-nil
ascii_text (c ∷ text) all = grind (IsAscii-cons, ascii_text text, arith)

-- each byte of the source of the language's errors is a character
pub source_characters : chars language_source ≡ language_source
source_characters = chars-IsAscii _ (ascii_text language_source refl)
