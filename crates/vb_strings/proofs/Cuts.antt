-- The parts of a text, one cut further.
use Rattle.std.proofs.Common.{◌≡◌, ℕ, zero, suc, ◌+◌, ◌-◌, ◌<◌, List, [], ◌∷◌, ◌++◌, Some, None, length}
use Rattle.std.proofs.Common.{take, drop, refl, sym, ap, ◌∙◌, append_assoc, arith}
use Rattle.vb_strings.specs.declared.comparing.Comparison.{Comparison}
use Rattle.vb_strings.specs.Searching.{first_in}
use Rattle.vb_strings.specs.Splitting.{cut, parts}

-- one more cut
parts_more : (comparison : Comparison) (separator : List ℕ) (left : ℕ) (rest : List ℕ) (before : ℕ) → 0 < left
    → first_in comparison rest separator ≡ Some before → parts comparison separator left rest
    ≡ take before rest ∷ parts comparison separator (left - 1) (drop (before + length separator) rest)
parts_more comparison separator zero rest before some is = absurd (omega arith)
parts_more comparison separator (suc left) rest before some is =
    let one : suc left - 1 ≡ left = omega arith in
    ap (cut (length separator) (parts comparison separator left) rest) is
    ∙ ap (λ cuts. take before rest ∷ parts comparison separator cuts (drop (before + length separator) rest)) (sym one)

-- the parts so far, and one more
pub cut_more : (comparison : Comparison) (separator : List ℕ) (done all : List (List ℕ)) (left : ℕ)
    (rest : List ℕ) (before : ℕ) → 0 < left → first_in comparison rest separator ≡ Some before
    → done ++ parts comparison separator left rest ≡ all
    → done ++ take before rest ∷ []
    ++ parts comparison separator (left - 1) (drop (before + length separator) rest) ≡ all
cut_more comparison separator done all left rest before some is so_far =
    append_assoc done (take before rest ∷ [])
    (parts comparison separator (left - 1) (drop (before + length separator) rest))
    ∙ ap (λ more. done ++ more) (sym (parts_more comparison separator left rest before some is))
    ∙ so_far

-- no cut is left
pub cut_none : (comparison : Comparison) (separator rest : List ℕ) (left : ℕ) → left ≡ 0
    → parts comparison separator left rest ≡ rest ∷ []
cut_none comparison separator rest left none = ap (λ cuts. parts comparison separator cuts rest) none

-- no separator is left
pub cut_nowhere : (comparison : Comparison) (separator rest : List ℕ) (left : ℕ)
    → first_in comparison rest separator ≡ None → parts comparison separator left rest ≡ rest ∷ []
cut_nowhere comparison separator rest zero none = refl
cut_nowhere comparison separator rest (suc left) none =
    ap (cut (length separator) (parts comparison separator left) rest) none
