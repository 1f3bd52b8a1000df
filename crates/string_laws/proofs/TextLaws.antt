-- The laws on lengths and parts of texts, and on characters.
use Rattle.std.proofs.Common.{◌≡◌, ℕ, ◌+◌, ◌-◌, ◌<◌, ◌≤◌, ◌^◌, min}
use Rattle.std.proofs.Common.{pos, List, [], ◌∷◌, ◌++◌, Result, Ok, length, take, drop, reverse}
use Rattle.std.proofs.Common.{refl, sym, ap, ◌∙◌, append_assoc, arith, length-drop}
use Rattle.std.proofs.lemmas.Bool.{lt-ltb, ne_eqb}
use Rattle.std.proofs.lemmas.List.{get_or-reverse, length-reverse, take-append-drop, drop-drop, length-take}
use Rattle.vb_value.specs.declared.fault.VbError.{VbError}
use Rattle.vb_value.specs.declared.function.StrFn.TheVariants.{Left, Right, Mid, Len}
use Rattle.vb_value.specs.declared.value.Value.{Value, Long, Str}
use Rattle.vb_value.specs.Conversions.{to_long_of}
use Rattle.vb_value.specs.Errors.{and_then}
use Rattle.vb_value.specs.TextLimit.{most_characters}
use Rattle.vb_strings.specs.Functions.{call_string_of}
use Rattle.string_laws.specs.Laws.{PartsTogether, EndsMeasured, Reverses, text_in}
use Rattle.vb_strings.specs.Results.{before_place, bounded, long}
use Rattle.vb_strings.proofs.Bounds.{limited_fits}

pub reverses : Reverses
reverses text short = record {
  turned = reverse text;
  given = limited_fits (reverse text) (omega (arith, length-reverse text));
  as_long = length-reverse text;
  each = λ k below. get_or-reverse text k 0 below;
}

-- a Long that fits is itself
pub long_itself : (n : ℕ) → n < 2 ^ 31 → to_long_of (Long (pos n)) ≡ Ok (pos n)
long_itself n fits = rw (lt-ltb n (2 ^ 31) fits) refl

-- a number that a Long holds
pub long_fits : (n : ℕ) → n < 2 ^ 31 → long n ≡ Ok (Long (pos n))
long_fits n fits = rw (lt-ltb n (2 ^ 31) fits) refl

-- the place behind so many characters
place_behind_count : (count : ℕ) → before_place (pos (count + 1)) ≡ Ok count
place_behind_count count =
    let some : count + 1 ≡ 0 → ⊥ = λ none. omega arith in
    let back : count + 1 - 1 ≡ count = omega arith in
    rw (ne_eqb (count + 1) 0 some) (ap Ok back)

left_part : (text : List ℕ) (count : ℕ) → count < 2 ^ 31 → length text ≤ most_characters
    → call_string_of Left (Str text ∷ Long (pos count) ∷ []) ≡ Ok (Str (take count text))
left_part text count fits short =
    rw (long_itself count fits) (limited_fits (take count text) (omega (arith, length-take count text)))

right_part : (text : List ℕ) (count : ℕ) → count < 2 ^ 31 → length text ≤ most_characters
    → call_string_of Right (Str text ∷ Long (pos count) ∷ []) ≡ Ok (Str (drop (length text - count) text))
right_part text count fits short =
    rw (long_itself count fits)
    (limited_fits (drop (length text - count) text) (omega (arith, length-drop (length text - count) text)))

middle_part : (text : List ℕ) (count more : ℕ) → count + 1 < 2 ^ 31 → more < 2 ^ 31 → length text ≤ most_characters
    → call_string_of Mid (Str text ∷ Long (pos (count + 1)) ∷ Long (pos more) ∷ [])
    ≡ Ok (Str (take more (drop count text)))
middle_part text count more fits more_fits short =
    rw (long_itself (count + 1) fits) (rw (long_itself more more_fits) (rw (place_behind_count count)
    (limited_fits (take more (drop count text))
    (omega (arith, length-take more (drop count text), length-drop count text)))))

-- three answers that are texts, put together
three_texts : (a b c : Result Value VbError) (x y z text : List ℕ) → a ≡ Ok (Str x) → b ≡ Ok (Str y)
    → c ≡ Ok (Str z) → x ++ y ++ z ≡ text → text_in a ++ text_in b ++ text_in c ≡ text
three_texts a b c x y z text first second third whole =
    ap (λ answer. text_in answer ++ text_in b ++ text_in c) first
    ∙ ap (λ answer. x ++ text_in answer ++ text_in c) second
    ∙ ap (λ answer. x ++ y ++ text_in answer) third
    ∙ whole

three_parts : (text : List ℕ) (count more : ℕ) → count + more ≤ length text → take count text
    ++ take more (drop count text) ++ drop (length text - (length text - (count + more))) text ≡ text
three_parts text count more within =
    let skipped : length text - (length text - (count + more)) ≡ count + more = omega arith in
    append_assoc (take count text) (take more (drop count text))
    (drop (length text - (length text - (count + more))) text)
    ∙ ap (λ n. take count text ++ (take more (drop count text) ++ drop n text)) skipped
    ∙ ap (λ rest. take count text ++ (take more (drop count text) ++ rest)) (sym (drop-drop more count text))
    ∙ ap (λ rest. take count text ++ rest) (take-append-drop more (drop count text))
    ∙ take-append-drop count text

pub parts_together : PartsTogether
parts_together text count more within short =
    three_texts (call_string_of Left (Str text ∷ Long (pos count) ∷ []))
    (call_string_of Mid (Str text ∷ Long (pos (count + 1)) ∷ Long (pos more) ∷ []))
    (call_string_of Right (Str text ∷ Long (pos (length text - (count + more))) ∷ []))
    (take count text) (take more (drop count text)) (drop (length text - (length text - (count + more))) text) text
    (left_part text count (omega arith) short)
    (middle_part text count more (omega arith) (omega arith) short)
    (right_part text (length text - (count + more)) (omega arith) short)
    (three_parts text count more within)

-- the length of a text
len_is : (text : List ℕ) (n : ℕ) → length text ≡ n → n < 2 ^ 31 → call_string_of Len (Str text ∷ []) ≡ Ok (Long (pos n))
len_is text n is fits = ap (λ count. bounded (long count)) is ∙ ap bounded (long_fits n fits)

pub ends_measured : EndsMeasured
ends_measured text count fits short =
    let from_end : length (drop (length text - count) text) ≡ min count (length text) =
    length-drop (length text - count) text ∙ omega arith in (
      ap (λ answer. and_then answer (λ part. call_string_of Len (part ∷ []))) (left_part text count fits short)
          ∙ len_is (take count text) (min count (length text)) (length-take count text) (omega arith),
      ap (λ answer. and_then answer (λ part. call_string_of Len (part ∷ []))) (right_part text count fits short)
          ∙ len_is (drop (length text - count) text) (min count (length text)) from_end (omega arith),
    )
