-- Tables of words by the letters with which the words begin.
use Rattle.std.specs.Prelude.{ℕ, if◌then◌else◌, List, [], ◌∷◌, map, nat_eq}
use Rattle.std.specs.Borrow.{Bor}
use Rattle.std.specs.Char.{to_ascii_lowercase}
use Rattle.vb_syntax.specs.scope.Names.{Name}

-- the first letter of a name, made small; 0 where there is none
abbrev pub first_letter : Name → ℕ
first_letter [] = 0
first_letter (letter ∷ letters) = to_ascii_lowercase letter

-- the rows of a table whose words begin with the letter
abbrev pub beginning : {A : Type 0} → ℕ → List (Name × A) → List (Name × A)
beginning letter [] = []
beginning letter (row ∷ rows) =
    if nat_eq (first_letter row.0) letter then row ∷ beginning letter rows else beginning letter rows

-- a table of words as calls see it
abbrev pub seen : {A : Type 0} → List (Bor (List ℕ) × A) → List (Name × A)
seen = map (λ row. (row.0.now, row.1))
