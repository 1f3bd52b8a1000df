-- The character of a character's number.
use Rattle.std.proofs.Common.{◌≡◌, ℕ, suc, ◌-◌, ◌<◌, ◌^◌, true, ℤ, pos, negsuc, [], ◌∷◌}
use Rattle.std.proofs.Common.{Ok, refl, ap, ◌∙◌, arith, inl, inr}
use lib.Utf8.{scalar, scalar_cases}
use Rattle.std.proofs.lemmas.Bool.{cases_lt, lt-ltb, le-ltb}
use Rattle.vb_value.specs.declared.function.StrFn.TheVariants.{Asc, Chr}
use Rattle.vb_value.specs.declared.value.Value.{Value, Int, Long, Str}
use Rattle.vb_value.specs.Conversions.{to_long_of}
use Rattle.vb_value.specs.Errors.{and_then}
use Rattle.vb_strings.specs.Characters.{number_of, code_of}
use Rattle.vb_strings.specs.Functions.{call_string_of}
use Rattle.string_laws.specs.Laws.{CharactersComeBack}
use Rattle.vb_strings.proofs.Bounds.{asc_same}
use Rattle.string_laws.proofs.TextLaws.{long_itself}

-- a character's number is one, and small
module _ (character : ℕ) (is : scalar character ≡ true) where
  small : character < 2 ^ 31
  small = elim (scalar_cases character is) [ inl low ↦ omega arith | inr high ↦ omega (arith, high.1) ]

  -- Chr of a number whose code is the character
  chr_is : (number : Value) (n : ℤ) → to_long_of number ≡ Ok n → code_of n ≡ Ok character
      → call_string_of Chr (number ∷ []) ≡ Ok (Str (character ∷ []))
  chr_is number n long code =
      rw long (rw code (rw is refl))

  pub come_back : call_string_of Chr (number_of character ∷ []) ≡ Ok (Str (character ∷ []))
  come_back =
      elim (cases_lt character 32768) [
        | inl low ↦
            rw (lt-ltb character 32768 low)
            (chr_is (Int (pos character)) (pos character) (rw (lt-ltb character (2 ^ 31) small) refl) refl)
        | inr high ↦
            elim (cases_lt character 65536) [
              | inl middle ↦
                  let below : 65536 - suc character ≡ 65535 - character = omega arith in
                  let back : 65535 - (65535 - character) ≡ character = omega arith in
                  let number : number_of character ≡ Int (negsuc (65535 - character)) =
                  rw (le-ltb character 32768 high) (rw (lt-ltb character 65536 middle) (ap (λ less. Int (negsuc less)) below)) in
                  ap (λ value. call_string_of Chr (value ∷ [])) number
                  ∙ chr_is (Int (negsuc (65535 - character))) (negsuc (65535 - character))
                  (rw (lt-ltb (65535 - character) (2 ^ 31) (omega arith)) refl)
                  (rw (lt-ltb (65535 - character) 32768 (omega arith)) (ap Ok back))
              | inr large ↦
                  rw (le-ltb character 32768 high) (rw (le-ltb character 65536 large)
                  (chr_is (Long (pos character)) (pos character) (long_itself character small) refl))
            ]
      ]

asc_is : (character : ℕ) → call_string_of Asc (Str (character ∷ []) ∷ []) ≡ Ok (number_of character)
asc_is character = asc_same (Str (character ∷ []) ∷ [])

pub characters_come_back : CharactersComeBack
characters_come_back character is =
    ap (λ answer. and_then answer (λ number. call_string_of Chr (number ∷ []))) (asc_is character)
    ∙ come_back character is
