-- The numbers of keys.
use Rattle.std.proofs.Common.{◌≡◌, ℕ, List, fold}
use Rattle.std.specs.Char.{to_ascii_lowercase}
use Rattle.std.proofs.lemmas.List.Folds.{fold-map}
use Rattle.vb_value.specs.Folding.{folded}
use Rattle.vb_syntax.specs.scope.Names.{Name}
use Rattle.vb_names.specs.Names.{hashed, with_letter}

-- the same, letter for letter of the name as it is written
abbrev pub hashed_so_far : List ℕ → ℕ
hashed_so_far = fold (λ hash letter. with_letter hash (to_ascii_lowercase letter)) 14695981039346656037

pub hashed_folded : (name : Name) → hashed (folded name) ≡ hashed_so_far name
unfolding hashed
hashed_folded name = fold-map with_letter to_ascii_lowercase 14695981039346656037 name
