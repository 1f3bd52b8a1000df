-- Texts compared by the numbers of their characters.
use Rattle.std.proofs.Common.{◌≡◌, ℕ, List, map, sym, ap, ◌∙◌}
use Rattle.std.specs.Cmp.Lexicographic.{slice_cmp}
use Rattle.std.specs.Ordering.{nat_cmp}
use Rattle.std.proofs.lemmas.List.{map-id}
use Rattle.vb_strings.specs.declared.comparing.Comparison.TheVariants.{Exact}
use Rattle.vb_strings.specs.Comparing.{order_of}

-- in an exact comparison each character counts as itself
pub exact_order : (a b : List ℕ) → slice_cmp nat_cmp a b ≡ order_of Exact a b
exact_order a b =
    sym (ap (λ first. slice_cmp nat_cmp first (map (λ (x : ℕ). x) b)) (map-id a) ∙ ap (slice_cmp nat_cmp a) (map-id b))
