-- The lines of a head, as they are written one after the other.
use Rattle.std.proofs.Common.{◌≡◌, ℕ, List, [], ◌∷◌, ◌++◌, sym, ap, ◌∙◌, append_assoc}
use Rattle.std.specs.List.{flat_map}
use Rattle.std.proofs.lemmas.Grind.{flat_map-append}
use Rattle.asp_response.specs.AnswerText.{line}

-- what was written, then some lines and then others
pub both_lines : (written : List ℕ) (first second : List (List ℕ))
    → (written ++ flat_map line first) ++ flat_map line second ≡ written ++ flat_map line (first ++ second)
both_lines written first second = append_assoc written (flat_map line first) (flat_map line second)
    ∙ ap (λ l. written ++ l) (sym (flat_map-append line first second))

-- what was written, then the lines and what follows them
pub all_lines : (written status date content : List ℕ) (fields ending : List (List ℕ))
    → ((((written ++ line status) ++ line date) ++ flat_map line fields) ++ flat_map line ending) ++ (line [] ++ content)
    ≡ written ++ ((flat_map line (status ∷ date ∷ (fields ++ ending)) ++ line []) ++ content)
all_lines written status date content fields ending =
    let s = line status in
    let d = line date in
    let joined = flat_map line (fields ++ ending) in
    let f = flat_map line fields in
    let e = flat_map line ending in
    let rest = line [] ++ content in
    let one_by_one = append_assoc (((written ++ s) ++ d) ++ f) e rest ∙ append_assoc ((written ++ s) ++ d) f (e ++ rest)
    ∙ append_assoc (written ++ s) d (f ++ (e ++ rest)) ∙ append_assoc written s (d ++ (f ++ (e ++ rest))) in
    let as_lines = append_assoc (s ++ (d ++ joined)) (line []) content ∙ append_assoc s (d ++ joined) rest
    ∙ ap (λ l. s ++ l) (append_assoc d joined rest
    ∙ ap (λ l. d ++ l) (ap (λ l. l ++ rest) (flat_map-append line fields ending) ∙ append_assoc f e rest)) in
    one_by_one ∙ sym (ap (λ l. written ++ l) as_lines)
