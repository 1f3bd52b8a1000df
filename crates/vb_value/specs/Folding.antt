-- Texts without regard to ASCII case: as names of variables, of session and application entries and of
-- files compare.
use Rattle.std.specs.Prelude.{ℕ, Bool, if◌then◌else◌, List, [], ◌∷◌, map, Option, Some, None, nat_eq}
use Rattle.std.specs.Char.{to_ascii_lowercase}
use Rattle.std.specs.Cmp.Lexicographic.{pointwise}

-- the text with each of its letters A to Z made small
abbrev pub folded : List ℕ → List ℕ
folded = map to_ascii_lowercase

-- whether two texts are the same name
abbrev pub same_name : List ℕ → List ℕ → Bool
same_name one other = pointwise nat_eq (folded one) (folded other)

-- what stands beside a name in a table, where it is first
abbrev pub beside : {A : Type 0} → List (List ℕ × A) → List ℕ → Option A
beside [] name = None
beside (entry ∷ entries) name = if same_name entry.0 name then Some entry.1 else beside entries name
