-- Texts that are split, joined and replaced.
use Rattle.std.proofs.Common.{◌≡◌, ℕ, zero, suc, ◌+◌, ◌-◌, ◌<◌, ◌≤◌, ◌^◌, min, Bool, true, false, if◌then◌else◌}
use Rattle.std.proofs.Common.{ℤ, pos, negsuc, ◌-ℤ◌, List, [], ◌∷◌, Result, Ok, map, length, refl, sym, ap, ◌∙◌, arith}
use Rattle.std.proofs.Common.{inl, inr}
use Rattle.std.proofs.lemmas.Int.{ints}
use Rattle.std.proofs.lemmas.Bool.{lt-ltb, ne_eqb, cases_lt, lt-leb}
use Rattle.std.proofs.lemmas.List.{length-map}
use Rattle.vb_value.specs.declared.fault.VbError.{VbError}
use Rattle.vb_value.specs.declared.function.StrFn.TheVariants.{Join, Split, Replace}
use Rattle.vb_value.specs.declared.value.Value.{Value, Long, Str}
use Rattle.vb_value.specs.declared.value.Value.TheViews.{outs-Arr}
use Rattle.vb_value.specs.Errors.{and_then}
use Rattle.vb_value.specs.Numbers.{as_long}
use Rattle.vb_value.specs.TextLimit.{most_characters, limited}
use Rattle.vb_strings.specs.declared.comparing.Comparison.TheVariants.{Exact}
use Rattle.vb_strings.specs.Functions.{call_string_of}
use Rattle.vb_strings.specs.Joining.{join_level, joined, texts_of}
use Rattle.string_laws.specs.Laws.{Splits, SplitsAtMost, ReplacesByJoining, array, items_in, items_level}
use Rattle.vb_strings.specs.Results.{bounded}
use Rattle.vb_strings.specs.Splitting.{split, parts, array_of, are_short}
use Rattle.vb_strings.proofs.Bounds.{limited_fits, texts_array, array_short, array_long}
use Rattle.string_laws.proofs.PartLaws.{parts_ended, parts_last, parts_short, parts_count, few_by_text, joined_short}
use Rattle.string_laws.proofs.Rejoined.{parts_joined, some_part}
use Rattle.string_laws.proofs.TextLaws.{long_itself}

-- texts as values are these texts
texts_themselves : (texts : List (List ℕ)) → texts_of (map Str texts) ≡ Ok texts
texts_themselves [] = refl
texts_themselves (text ∷ texts) = rw (texts_themselves texts) refl

-- texts that were made an array, joined
array_joined : (bound : ℤ) (texts : List (List ℕ)) (separator : List ℕ)
    → call_string_of Join (texts_array bound texts ∷ Str separator ∷ []) ≡ limited (joined separator texts)
array_joined bound texts separator =
    ap (λ level. bounded (join_level level separator))
    (outs-Arr (record { bounds = bound ∷ []; fixed = false; items = map Str texts }))
    ∙ ap (λ answer. bounded (and_then answer (λ given. Ok (Str (joined separator given))))) (texts_themselves texts)

-- the bound of an array that is not too long
bound_fits : (count : ℕ) → 0 < count → count ≤ 2 ^ 31 → as_long (pos count -ℤ pos 1) ≡ Ok (pos (count - 1))
bound_fits zero some few = absurd (omega arith)
bound_fits (suc less) some few =
    let below : less < 2 ^ 31 = omega arith in
    let bound : suc less - 1 ≡ less = omega arith in
    let back : pos (suc less) -ℤ pos 1 ≡ pos less = omega (arith, ints) in
    ap as_long back ∙ rw (lt-ltb less (2 ^ 31) below) (ap (λ n. Ok (pos n)) (sym bound))

-- an array of some texts, not too many, as an answer
array_answer : (texts : List (List ℕ)) → 0 < length texts → length texts ≤ 2 ^ 31
    → bounded (array_of texts) ≡ bounded (Ok (array texts))
array_answer texts some few =
    ap (λ answer. bounded (and_then answer (λ bound. Ok (texts_array bound texts)))) (bound_fits (length texts) some few)

-- what a text is split into, where neither it nor the separator is empty
split_all : (text separator : List ℕ) → 0 < length text → 0 < length separator
    → split Exact text separator (negsuc 0) ≡ Ok (parts Exact separator (length text) text)
unfolding split
split_all text separator some wide =
    let characters : length text ≡ 0 → ⊥ = λ none. omega arith in
    let width : length separator ≡ 0 → ⊥ = λ none. omega arith in
    let most : length text + 1 ≡ 0 → ⊥ = λ none. omega arith in
    let cuts : length text + 1 - 1 ≡ length text = omega arith in
    rw (ne_eqb (length text) 0 characters) (rw (ne_eqb (length separator) 0 width)
    (rw (ne_eqb (length text + 1) 0 most) (ap (λ n. Ok (parts Exact separator n text)) cuts)))

split_count : (text separator : List ℕ) (count : ℕ) → 0 < length text → 0 < length separator → 0 < count
    → split Exact text separator (pos count) ≡ Ok (parts Exact separator (count - 1) text)
unfolding split
split_count text separator count some wide wanted =
    let characters : length text ≡ 0 → ⊥ = λ none. omega arith in
    let width : length separator ≡ 0 → ⊥ = λ none. omega arith in
    let most : count ≡ 0 → ⊥ = λ none. omega arith in
    rw (ne_eqb (length text) 0 characters) (rw (ne_eqb (length separator) 0 width) (rw (ne_eqb count 0 most) refl))

-- parts as the answer of Split
module _ (text separator : List ℕ) (cuts : ℕ) (wide : 0 < length separator) where
  parts_answer : length text < 2 ^ 31 → bounded (array_of (parts Exact separator cuts text))
      ≡ bounded (Ok (array (parts Exact separator cuts text)))
  parts_answer short =
      let few : length (parts Exact separator cuts text) ≤ length text + 1 = few_by_text separator wide cuts text in
      array_answer (parts Exact separator cuts text) (some_part Exact separator cuts text) (omega arith)

  parts_given : length text ≤ most_characters → bounded (array_of (parts Exact separator cuts text))
      ≡ Ok (array (parts Exact separator cuts text))
  parts_given short =
      parts_answer (omega arith)
      ∙ array_short (pos (length (parts Exact separator cuts text) - 1)) (parts Exact separator cuts text)
      (parts_short separator most_characters cuts text short)

  parts_rejoined : length text ≤ most_characters
      → call_string_of Join (array (parts Exact separator cuts text) ∷ Str separator ∷ []) ≡ Ok (Str text)
  parts_rejoined short =
      array_joined (pos (length (parts Exact separator cuts text) - 1)) (parts Exact separator cuts text) separator
      ∙ ap limited (parts_joined separator cuts text)
      ∙ limited_fits text short

split_given : (text separator : List ℕ) → 0 < length text → length text ≤ most_characters → 0 < length separator
    → call_string_of Split (Str text ∷ Str separator ∷ []) ≡ Ok (array (parts Exact separator (length text) text))
split_given text separator some short wide =
    ap (λ answer. bounded (and_then answer array_of)) (split_all text separator some wide)
    ∙ parts_given text separator (length text) wide short

pub splits : Splits
splits text separator some short wide = record {
  parts = parts Exact separator (length text) text;
  given = split_given text separator some short wide;
  joined = parts_rejoined text separator (length text) wide short;
  some = some_part Exact separator (length text) text;
  ended = parts_ended separator wide (length text) text;
  last = parts_last separator wide (length text) text (omega arith);
}

-- how many items an array of texts has
items_count : (answer : Result Value VbError) (texts : List (List ℕ)) → answer ≡ Ok (array texts)
    → length (items_in answer) ≡ length texts
items_count answer texts is =
    ap (λ given. length (items_in given)) is
    ∙ ap (λ level. length (items_level level))
    (outs-Arr (record { bounds = pos (length texts - 1) ∷ []; fixed = false; items = map Str texts }))
    ∙ length-map texts Str

-- the lesser of a number and all parts
least_count : (text separator : List ℕ) (count : ℕ) → 0 < length separator → 0 < count
    → length (parts Exact separator (count - 1) text) ≡ min count (length (parts Exact separator (length text) text))
least_count text separator count wide wanted =
    let few : length (parts Exact separator (count - 1) text) ≤ length text + 1 =
    few_by_text separator wide (count - 1) text in
    elim (cases_lt (length text) (count - 1)) [
      | inl more ↦
          let all : length (parts Exact separator (length text) text)
          ≡ min (length text + 1) (length (parts Exact separator (count - 1) text)) =
          parts_count separator (length text) (count - 1) text (omega arith) in
          omega arith
      | inr less ↦
          let some : length (parts Exact separator (count - 1) text)
          ≡ min (count - 1 + 1) (length (parts Exact separator (length text) text)) =
          parts_count separator (count - 1) (length text) text less in
          omega arith
    ]

pub splits_at_most : SplitsAtMost
splits_at_most text separator count some short wide wanted fits =
    let given : call_string_of Split (Str text ∷ Str separator ∷ Long (pos count) ∷ [])
    ≡ Ok (array (parts Exact separator (count - 1) text)) =
    rw (long_itself count fits)
    (ap (λ answer. bounded (and_then answer array_of)) (split_count text separator count some wide wanted)
    ∙ parts_given text separator (count - 1) wide short) in (
      items_count (call_string_of Split (Str text ∷ Str separator ∷ Long (pos count) ∷ []))
          (parts Exact separator (count - 1) text) given
          ∙ least_count text separator count wide wanted
          ∙ ap (min count) (sym (items_count (call_string_of Split (Str text ∷ Str separator ∷ []))
          (parts Exact separator (length text) text) (split_given text separator some short wide))),
      ap (λ answer. and_then answer (λ all. call_string_of Join (all ∷ Str separator ∷ []))) given
          ∙ parts_rejoined text separator (count - 1) wide short,
    )

-- what is joined of texts, or of their array where that is an answer
joined_answer : (bound : ℤ) (texts : List (List ℕ)) (other : List ℕ)
    → and_then (bounded (Ok (texts_array bound texts))) (λ all. call_string_of Join (all ∷ Str other ∷ []))
    ≡ limited (joined other texts)
joined_answer bound texts other =
    let split : (short : Bool) → are_short texts ≡ short
    → and_then (bounded (Ok (texts_array bound texts))) (λ all. call_string_of Join (all ∷ Str other ∷ []))
    ≡ limited (joined other texts) =
    elim [
      | true ↦ λ is.
          ap (λ answer. and_then answer (λ all. call_string_of Join (all ∷ Str other ∷ [])))
          (array_short bound texts is)
          ∙ array_joined bound texts other
      | false ↦ λ is.
          elim (cases_lt most_characters (length (joined other texts))) [
            | inl long ↦
                ap (λ answer. and_then answer (λ all. call_string_of Join (all ∷ Str other ∷ [])))
                (array_long bound texts is)
                ∙ rw (lt-leb (length (joined other texts)) most_characters long) refl
            | inr short ↦
                let none : are_short texts ≡ true = joined_short other most_characters texts short in
                absurd (cc)
          ]
    ] in
    split (are_short texts) refl

-- a text in which a pattern with characters is replaced
replaced_is : (text pattern other : List ℕ) → 0 < length pattern
    → call_string_of Replace (Str text ∷ Str pattern ∷ Str other ∷ [])
    ≡ limited (joined other (parts Exact pattern (length text) text))
replaced_is text pattern other wide =
    let width : length pattern ≡ 0 → ⊥ = λ none. omega arith in
    ap (λ none. limited (joined other (if none then text ∷ [] else parts Exact pattern (length text) text)))
    (ne_eqb (length pattern) 0 width)

pub replaces_by_joining : ReplacesByJoining
replaces_by_joining text pattern other some short wide =
    replaced_is text pattern other wide
    ∙ sym (joined_answer (pos (length (parts Exact pattern (length text) text) - 1))
    (parts Exact pattern (length text) text) other)
    ∙ ap (λ answer. and_then answer (λ all. call_string_of Join (all ∷ Str other ∷ [])))
    (sym (parts_answer text pattern (length text) wide short))
    ∙ ap (λ answer. and_then (bounded (and_then answer array_of)) (λ all. call_string_of Join (all ∷ Str other ∷ [])))
    (sym (split_all text pattern some wide))
