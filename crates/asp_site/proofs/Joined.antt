-- A path that is compared in two parts.
use Rattle.std.proofs.Common.{◌≡◌, ℕ, ◌<◌, Bool, true, false, List, [], ◌∷◌, ◌++◌, length, take, drop, refl, ap, ◌∙◌, arith}
use Rattle.std.specs.Prelude.{◌&&◌, nat_eq}
use Rattle.std.specs.Char.{to_ascii_lowercase}
use Rattle.vb_value.specs.Folding.{same_name}

-- tests one after the other
grouped : (a b c : Bool) → a && (b && c) ≡ (a && b) && c
grouped true b c = refl
grouped false b c = refl

neither : (a : Bool) → a && false ≡ false
neither true = refl
neither false = refl

-- what stands at the front, and what stands behind it
pub joined_parts : (front back path : List ℕ)
    → same_name (front ++ back) path ≡ same_name front (take (length front) path) && same_name back (drop (length front) path)
joined_parts [] back path = refl
joined_parts (c ∷ front) back [] = refl
joined_parts (c ∷ front) back (d ∷ path) =
    let here : Bool = nat_eq (to_ascii_lowercase c) (to_ascii_lowercase d) in
    ap (λ (more : Bool). here && more) (joined_parts front back path)
    ∙ grouped here (same_name front (take (length front) path)) (same_name back (drop (length front) path))

-- a path that is shorter than its front
pub too_short : (front back path : List ℕ) → length path < length front → same_name (front ++ back) path ≡ false
too_short [] back path short = absurd (omega arith)
too_short (c ∷ front) back [] short = refl
too_short (c ∷ front) back (d ∷ path) short =
    let here : Bool = nat_eq (to_ascii_lowercase c) (to_ascii_lowercase d) in
    ap (λ (more : Bool). here && more) (too_short front back path (omega arith)) ∙ neither here
