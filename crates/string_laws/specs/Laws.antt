-- Laws of the functions, for readers to hold the definitions against.
use Rattle.std.specs.Prelude.{◌≡◌, ◌<◌, ◌≤◌, ℕ, ◌+◌, ◌-◌, ◌^◌, min, true, false, ℤ, pos, negsuc, neg_ℤ, List, [], ◌∷◌}
use Rattle.std.specs.Prelude.{◌++◌, length, map, get_or, replicate, Some, None, Result, Ok, Err, IfOk}
use lib.Utf8.{scalar}
use Rattle.vb_value.specs.declared.fault.VbError.{VbError}
use Rattle.vb_value.specs.declared.function.StrFn.{StrFn}
use Rattle.vb_value.specs.declared.function.StrFn.TheVariants.{Len, Left, Right, Mid, InStr, InStrRev, LCase, Trim}
use Rattle.vb_value.specs.declared.function.StrFn.TheVariants.{LTrim, RTrim, Replace, Split, Join, StrReverse, StrComp}
use Rattle.vb_value.specs.declared.function.StrFn.TheVariants.{Asc, Chr}
use Rattle.vb_value.specs.declared.value.Array.{Array}
use Rattle.vb_value.specs.declared.value.Value.{Value, Int, Long, Str, out-Value}
use Rattle.vb_value.specs.declared.value.Value.TheOpen.{Value-F}
use Rattle.vb_value.specs.declared.value.Value.TheViews.{Arr}
use Rattle.vb_value.specs.Characters.{space}
use Rattle.vb_value.specs.Errors.{and_then}
use Rattle.vb_value.specs.Sound.{IsSound}
use Rattle.vb_value.specs.TextLimit.{most_characters}
use Rattle.vb_strings.specs.declared.comparing.Comparison.TheVariants.{Exact}
use Rattle.vb_strings.specs.Functions.{call_string_of}
use Rattle.vb_strings.specs.Searching.{stands, first_in}

-- the text that a function gives; none where it gives no text
abbrev pub text_in : Result Value VbError → List ℕ
text_in (Ok (Str text)) = text
text_in _ = []

-- ---- lengths and parts

-- of a text that is not too long, so many characters from the front, so many behind them, and the rest from the end
-- are the text
abbrev pub PartsTogether : Type 0
PartsTogether = (text : List ℕ) (count more : ℕ) → count + more ≤ length text → length text ≤ most_characters
    → text_in (call_string_of Left (Str text ∷ Long (pos count) ∷ []))
    ++ text_in (call_string_of Mid (Str text ∷ Long (pos (count + 1)) ∷ Long (pos more) ∷ []))
    ++ text_in (call_string_of Right (Str text ∷ Long (pos (length text - (count + more))) ∷ [])) ≡ text

-- what Left and Right give of such a text has so many characters, or as many as the text where that has fewer
abbrev pub EndsMeasured : Type 0
EndsMeasured = (text : List ℕ) (count : ℕ) → count < 2 ^ 31 → length text ≤ most_characters
    → (and_then (call_string_of Left (Str text ∷ Long (pos count) ∷ []))
    (λ part. call_string_of Len (part ∷ [])) ≡ Ok (Long (pos (min count (length text)))))
    × (and_then (call_string_of Right (Str text ∷ Long (pos count) ∷ []))
    (λ part. call_string_of Len (part ∷ [])) ≡ Ok (Long (pos (min count (length text)))))

-- a text begins with a space
abbrev pub BeginsWithSpace : List ℕ → Type 0
BeginsWithSpace text = (rest : List ℕ) × (text ≡ space ∷ rest)

-- a text ends with a space
abbrev pub EndsWithSpace : List ℕ → Type 0
EndsWithSpace text = (rest : List ℕ) × (text ≡ rest ++ space ∷ [])

-- what LTrim leaves of a text: the spaces before it are gone, and it begins with none
pub record TrimmedLeft (text : List ℕ) : Type 0 where
  pub before : ℕ
  pub rest : List ℕ
  pub given : call_string_of LTrim (Str text ∷ []) ≡ Ok (Str rest)
  pub whole : text ≡ replicate before space ++ rest
  pub no_space : ¬ (BeginsWithSpace rest)

-- what RTrim leaves
pub record TrimmedRight (text : List ℕ) : Type 0 where
  pub rest : List ℕ
  pub behind : ℕ
  pub given : call_string_of RTrim (Str text ∷ []) ≡ Ok (Str rest)
  pub whole : text ≡ rest ++ replicate behind space
  pub no_space : ¬ (EndsWithSpace rest)

-- what Trim leaves
pub record TrimmedBoth (text : List ℕ) : Type 0 where
  pub before : ℕ
  pub rest : List ℕ
  pub behind : ℕ
  pub given : call_string_of Trim (Str text ∷ []) ≡ Ok (Str rest)
  pub whole : text ≡ replicate before space ++ (rest ++ replicate behind space)
  pub no_first : ¬ (BeginsWithSpace rest)
  pub no_last : ¬ (EndsWithSpace rest)

-- what the trims leave of a text that is not too long
abbrev pub Trims : Type 0
Trims = (text : List ℕ) → length text ≤ most_characters → TrimmedLeft text × TrimmedRight text × TrimmedBoth text

-- what StrReverse gives of a text: the same characters, the last one first
pub record Reversed (text : List ℕ) : Type 0 where
  pub turned : List ℕ
  pub given : call_string_of StrReverse (Str text ∷ []) ≡ Ok (Str turned)
  pub as_long : length turned ≡ length text
  pub each : (k : ℕ) → k < length text → get_or turned k 0 ≡ get_or text (length text - 1 - k) 0

-- of a text that is not too long
abbrev pub Reverses : Type 0
Reverses = (text : List ℕ) → length text ≤ most_characters → Reversed text

-- ---- comparing, and characters

-- StrComp without case compares the texts with small letters
abbrev pub ComparesLetters : Type 0
ComparesLetters = (a b : List ℕ) → length a ≤ most_characters → length b ≤ most_characters
    → call_string_of StrComp (Str a ∷ Str b ∷ Int (pos 1) ∷ [])
    ≡ and_then (call_string_of LCase (Str a ∷ [])) (λ first. and_then (call_string_of LCase (Str b ∷ []))
    (λ second. call_string_of StrComp (first ∷ second ∷ Int (pos 0) ∷ [])))

-- StrComp of two texts turned round is the opposite
abbrev pub ComparesTurned : Type 0
ComparesTurned = (a b : List ℕ) (comparison : Value) (order : ℤ)
    → call_string_of StrComp (Str a ∷ Str b ∷ comparison ∷ []) ≡ Ok (Int order)
    → call_string_of StrComp (Str b ∷ Str a ∷ comparison ∷ []) ≡ Ok (Int (neg_ℤ order))

-- the character of a character's number is that character
abbrev pub CharactersComeBack : Type 0
CharactersComeBack = (character : ℕ) → scalar character ≡ true
    → and_then (call_string_of Asc (Str (character ∷ []) ∷ [])) (λ number. call_string_of Chr (number ∷ []))
    ≡ Ok (Str (character ∷ []))

-- ---- searching

-- a pattern stands once in a text, behind so many characters
pub record StandsOnce (text pattern : List ℕ) (before : ℕ) : Type 0 where
  pub here : stands Exact text pattern before ≡ true
  pub alone : (other : ℕ) → stands Exact text pattern other ≡ true → other ≡ before

-- the place of a pattern that stands once, in a text that is not too long, is found from the front as well as from
-- the end
abbrev pub SearchesAgree : Type 0
SearchesAgree = (text pattern : List ℕ) (before : ℕ) → length text ≤ most_characters
    → StandsOnce text pattern before
    → (call_string_of InStr (Str text ∷ Str pattern ∷ []) ≡ Ok (Long (pos (before + 1))))
    × (call_string_of InStrRev (Str text ∷ Str pattern ∷ []) ≡ Ok (Long (pos (before + 1))))

-- a search without case, from either side, is one of the texts with small letters
abbrev pub SearchesLetters : Type 0
SearchesLetters = (text pattern : List ℕ) → length text ≤ most_characters → length pattern ≤ most_characters
    → (call_string_of InStr (Int (pos 1) ∷ Str text ∷ Str pattern ∷ Int (pos 1) ∷ [])
    ≡ and_then (call_string_of LCase (Str text ∷ [])) (λ first. and_then (call_string_of LCase (Str pattern ∷ []))
    (λ second. call_string_of InStr (first ∷ second ∷ []))))
    × (call_string_of InStrRev (Str text ∷ Str pattern ∷ Int (negsuc 0) ∷ Int (pos 1) ∷ [])
    ≡ and_then (call_string_of LCase (Str text ∷ [])) (λ first. and_then (call_string_of LCase (Str pattern ∷ []))
    (λ second. call_string_of InStrRev (first ∷ second ∷ []))))

-- ---- splitting, joining, replacing

-- texts as the array that Split gives
abbrev pub array : List (List ℕ) → Value
array texts = Arr (record { bounds = pos (length texts - 1) ∷ []; fixed = false; items = map Str texts })

-- The parts of a text that has characters at a separator: joined with it they are the text. In each but the last,
-- with the separator behind it, the separator first stands at the part's end. In the last it stands nowhere.
pub record SplitAt (text separator : List ℕ) : Type 0 where
  pub parts : List (List ℕ)
  pub given : call_string_of Split (Str text ∷ Str separator ∷ []) ≡ Ok (array parts)
  pub joined : call_string_of Join (array parts ∷ Str separator ∷ []) ≡ Ok (Str text)
  pub some : 0 < length parts
  pub ended : (at : ℕ) → at + 1 < length parts
      → first_in Exact (get_or parts at [] ++ separator) separator ≡ Some (length (get_or parts at []))
  pub last : first_in Exact (get_or parts (length parts - 1) []) separator ≡ None

-- of a text that is not too long
abbrev pub Splits : Type 0
Splits = (text separator : List ℕ) → 0 < length text → length text ≤ most_characters → 0 < length separator
    → SplitAt text separator

-- the items of an array, at one level of a value; none of another
abbrev pub items_level : Value-F Value Array → List Value
items_level (Value-F.Arr array) = array.items
items_level _ = []

-- the items of the array that a function gives; none where it gives no array
abbrev pub items_in : Result Value VbError → List Value
items_in (Ok value) = items_level (out-Value value)
items_in (Err refused) = []

-- at most so many parts are the lesser of that number and all, and joined they too are the text
abbrev pub SplitsAtMost : Type 0
SplitsAtMost = (text separator : List ℕ) (count : ℕ) → 0 < length text → length text ≤ most_characters
    → 0 < length separator → 0 < count → count < 2 ^ 31
    → (length (items_in (call_string_of Split (Str text ∷ Str separator ∷ Long (pos count) ∷ [])))
    ≡ min count (length (items_in (call_string_of Split (Str text ∷ Str separator ∷ [])))))
    × (and_then (call_string_of Split (Str text ∷ Str separator ∷ Long (pos count) ∷ []))
    (λ parts. call_string_of Join (parts ∷ Str separator ∷ [])) ≡ Ok (Str text))

-- Replace is Join of the parts of Split, Out of string space included, where neither the text nor what is sought is
-- without characters
abbrev pub ReplacesByJoining : Type 0
ReplacesByJoining = (text pattern other : List ℕ) → 0 < length text → length text < 2 ^ 31 → 0 < length pattern
    → call_string_of Replace (Str text ∷ Str pattern ∷ Str other ∷ [])
    ≡ and_then (call_string_of Split (Str text ∷ Str pattern ∷ []))
    (λ parts. call_string_of Join (parts ∷ Str other ∷ []))

-- ---- all functions

-- whatever a function is given, what it gives is sound
abbrev pub GivesSound : Type 0
GivesSound = (function : StrFn) (arguments : List Value) → IfOk (call_string_of function arguments) IsSound
