-- Orders of texts.
use Rattle.std.proofs.Common.{◌≡◌, ℕ, List, [], ◌∷◌, refl}
use Rattle.std.specs.declared.cmp.Ordering.TheVariants.{Greater}
use Rattle.std.specs.Ordering.{nat_cmp}
use Rattle.std.specs.Cmp.Lexicographic.{slice_cmp}

-- a text with characters stands behind one without
pub behind_nothing : (text : List ℕ) → ¬ (text ≡ []) → slice_cmp nat_cmp text [] ≡ Greater
behind_nothing [] some = absurd (some refl)
behind_nothing (c ∷ text) some = refl
