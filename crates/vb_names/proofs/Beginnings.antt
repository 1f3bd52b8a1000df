-- Words of tables, looked for among those with the same first letter alone.
use Rattle.std.proofs.Common.{◌≡◌, ℕ, Bool, true, false, if◌then◌else◌, List, [], ◌∷◌, Option, Some, refl, sym, ap, ◌∙◌}
use Rattle.std.proofs.Common.{nat_eq}
use Rattle.std.proofs.lemmas.Slice.Eq.{bytes_eq-Decides}
use Rattle.std.proofs.lemmas.Bool.{false≢true, eq-eqb}
use Rattle.vb_value.specs.Folding.{beside, folded, same_name}
use Rattle.vb_syntax.specs.scope.Names.{Name}
use Rattle.vb_names.specs.Beginnings.{beginning, first_letter}

-- the first of a key
abbrev head_or : Name → ℕ
head_or [] = 0
head_or (letter ∷ letters) = letter

first_folded : (name : Name) → first_letter name ≡ head_or (folded name)
first_folded [] = refl
first_folded (letter ∷ letters) = refl

-- names that are the same begin with one letter
same_first : (one other : Name) → same_name one other ≡ true → nat_eq (first_letter one) (first_letter other) ≡ true
same_first one other same = eq-eqb _ _ (first_folded one
    ∙ ap head_or ((bytes_eq-Decides (folded one) (folded other)).0 same) ∙ sym (first_folded other))

pub begun : {A : Type 0} (table : List (Name × A)) (name : Name)
    → beside (beginning (first_letter name) table) name ≡ beside table name
begun [] name = refl
begun (row ∷ rows) name = go (nat_eq (first_letter row.0) (first_letter name)) (same_name row.0 name) refl refl
    (begun rows name)
  where
    go : (begins same : Bool) → nat_eq (first_letter row.0) (first_letter name) ≡ begins → same_name row.0 name ≡ same
        → beside (beginning (first_letter name) rows) name ≡ beside rows name
        → beside (if begins then row ∷ beginning (first_letter name) rows else beginning (first_letter name) rows) name
        ≡ (if same then Some row.1 else beside rows name)
    go true same _ is later = ap (λ found. if same_name row.0 name then Some row.1 else found) later
        ∙ ap (λ s. if s then Some row.1 else beside rows name) is
    go false false _ is later = later
    go false true isn is later = absurd (false≢true (sym isn ∙ same_first row.0 name is))

-- what is found among the rows of one letter is found in the table
pub found_begun : {A : Type 0} (table rows : List (Name × A)) (name : Name) (letter : ℕ) (found : Option A)
    → letter ≡ first_letter name → rows ≡ beginning letter table → found ≡ beside rows name
    → found ≡ beside table name
found_begun table rows name letter found first begins is = is ∙ ap (λ t. beside t name) begins
    ∙ ap (λ l. beside (beginning l table) name) first ∙ begun table name
