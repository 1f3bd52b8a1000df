-- The parts of a text, joined again.
use Rattle.std.proofs.Common.{◌≡◌, ℕ, zero, suc, ◌+◌, ◌<◌, Bool, true, false, cond, List, [], ◌∷◌, ◌++◌}
use Rattle.std.proofs.Common.{Option, Some, None, length, take, drop, refl, sym, ap, ◌∙◌, append_assoc, append-nil, arith}
use Rattle.std.specs.List.{find}
use Rattle.std.proofs.lemmas.Bool.{and_parts, eqb-true}
use Rattle.std.proofs.lemmas.List.{take-append-drop, drop-drop}
use Rattle.vb_strings.specs.declared.comparing.Comparison.{Comparison}
use Rattle.vb_strings.specs.declared.comparing.Comparison.TheVariants.{Exact}
use Rattle.vb_strings.specs.Comparing.{same}
use Rattle.vb_strings.specs.Searching.{begins, stands, places_in, first_in}
use Rattle.vb_strings.specs.Splitting.{cut, parts}
use Rattle.vb_strings.specs.Joining.{behind, joined}

-- what is found passes
found_passes : (test : ℕ → Bool) (numbers : List ℕ) (n : ℕ) → find test numbers ≡ Some n → test n ≡ true
found_passes test [] n is = absurd (cc)
found_passes test (m ∷ numbers) n is =
    let split : (passes : Bool) → test m ≡ passes → cond passes (Some m) (find test numbers) ≡ Some n
    → test n ≡ true =
    elim [
      | true ↦ λ yes found. let same : m ≡ n = cc in ap test (sym same) ∙ yes
      | false ↦ λ no found. found_passes test numbers n found
    ] in
    split (test m) refl is

-- an exact beginning stands first in the text
exact_beginning : (text pattern : List ℕ) → begins Exact text pattern ≡ true
    → pattern ++ drop (length pattern) text ≡ text
exact_beginning text [] is = refl
exact_beginning [] (letter ∷ pattern) is = absurd (cc)
exact_beginning (character ∷ text) (letter ∷ pattern) is =
    let both : (same Exact character letter ≡ true) × (begins Exact text pattern ≡ true) =
    and_parts (same Exact character letter) (begins Exact text pattern) is in
    let one : character ≡ letter = eqb-true character letter both.0 in
    let rest : pattern ++ drop (length pattern) text ≡ text = exact_beginning text pattern both.1 in
    cc

-- what stands before the first separator, the separator, and what stands behind it
pub around_first : (text separator : List ℕ) (before : ℕ) → first_in Exact text separator ≡ Some before
    → take before text ++ (separator ++ drop (before + length separator) text) ≡ text
around_first text separator before is =
    let here : stands Exact text separator before ≡ true =
    found_passes (stands Exact text separator) (places_in text) before is in
    ap (λ rest. take before text ++ (separator ++ rest)) (sym (drop-drop (length separator) before text))
    ∙ ap (λ rest. take before text ++ rest) (exact_beginning (drop before text) separator here)
    ∙ take-append-drop before text

-- a text has one part at least
pub some_part : (comparison : Comparison) (separator : List ℕ) (cuts : ℕ) (text : List ℕ)
    → 0 < length (parts comparison separator cuts text)
some_part comparison separator zero text = omega arith
some_part comparison separator (suc cuts) text =
    let split : (first : Option ℕ)
    → 0 < length (cut (length separator) (parts comparison separator cuts) text first) =
    elim [ None ↦ omega arith | Some before ↦ omega arith ] in
    split (first_in comparison text separator)

-- a separator before each text is one before the joined texts
behind_joined : (separator : List ℕ) (texts : List (List ℕ)) → 0 < length texts
    → behind separator texts ≡ separator ++ joined separator texts
behind_joined separator [] some = absurd (omega arith)
behind_joined separator (first ∷ others) some = append_assoc separator first (behind separator others)

-- the parts, joined with the separator at which they were cut
pub parts_joined : (separator : List ℕ) (cuts : ℕ) (text : List ℕ)
    → joined separator (parts Exact separator cuts text) ≡ text
parts_joined separator zero text = append-nil text
parts_joined separator (suc cuts) text =
    let split : (first : Option ℕ) → first_in Exact text separator ≡ first
    → joined separator (cut (length separator) (parts Exact separator cuts) text first) ≡ text =
    elim [
      | None ↦ λ is. append-nil text
      | Some before ↦ λ is.
          let rest : List ℕ = drop (before + length separator) text in
          ap (λ more. take before text ++ more)
          (behind_joined separator (parts Exact separator cuts rest) (some_part Exact separator cuts rest)
          ∙ ap (λ more. separator ++ more) (parts_joined separator cuts rest))
          ∙ around_first text separator before is
    ] in
    split (first_in Exact text separator) refl
