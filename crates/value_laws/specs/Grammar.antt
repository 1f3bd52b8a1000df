-- The grammar of texts that are numbers.
use Rattle.std.specs.Prelude.{◌≡◌, ◌⊎◌, ℕ, Bool, true, false, List, [], ◌++◌, Err, codes}
use Rattle.std.specs.List.{list_all}
use Rattle.vb_value.specs.Characters.{is_blank}
use Rattle.vb_value.specs.Errors.{type_mismatch}
use Rattle.vb_value.specs.Numbers.{as_currency}
use Rattle.vb_value.specs.NumericText.{is_numeral, numeral_size, signed, cur_of_text_of}

-- a sign or none, and whether it is `-`
abbrev pub IsSign : List ℕ → Bool → Type 0
IsSign sign minus = ((sign ≡ []) × (minus ≡ false)) ⊎ ((sign ≡ codes "+") × (minus ≡ false))
    ⊎ ((sign ≡ codes "-") × (minus ≡ true))

-- a point, or none where there are no decimals
abbrev pub IsPoint : List ℕ → List ℕ → Type 0
IsPoint point decimals = (point ≡ codes ".") ⊎ ((point ≡ []) × (decimals ≡ []))

-- The whole text is blanks, a sign or none, digits with a point or none, and blanks. One digit is there at least.
pub record IsNumericText (text : List ℕ) (minus : Bool) (whole decimals : List ℕ) : Type 0 where
  pub before : List ℕ
  pub sign : List ℕ
  pub point : List ℕ
  pub behind : List ℕ
  pub spelled : text ≡ before ++ (sign ++ (whole ++ (point ++ (decimals ++ behind))))
  pub blank_before : list_all is_blank before ≡ true
  pub is_sign : IsSign sign minus
  pub digits : is_numeral whole decimals ≡ true
  pub is_point : IsPoint point decimals
  pub blank_behind : list_all is_blank behind ≡ true

-- A text that the grammar spells is the Currency that its sign and its digits say. Any other is refused.
pub record FollowsGrammar (text : List ℕ) : Type 0 where
  pub number : (minus : Bool) (whole decimals : List ℕ) → IsNumericText text minus whole decimals
      → cur_of_text_of text ≡ as_currency (signed minus (numeral_size whole decimals))
  pub other : ((minus : Bool) (whole decimals : List ℕ) → ¬ (IsNumericText text minus whole decimals))
      → cur_of_text_of text ≡ Err type_mismatch
