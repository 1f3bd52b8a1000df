-- The subject of the innermost With is the last one.
use Rattle.std.proofs.Common.{◌≡◌, ℕ, zero, suc, ◌+◌, ◌-◌, List, [], ◌∷◌, length, refl, arith}
use Rattle.std.specs.Prelude.{slice_get, unwrap_or}
use Rattle.vb_value.specs.declared.value.Value.{Value, Nothing}
use Rattle.vb_meaning.specs.Reading.{last_of}

last_at : (subjects : List Value) (at : ℕ) → at + 1 ≡ length subjects
    → last_of subjects ≡ unwrap_or (slice_get subjects at) Nothing
last_at [] at last = refl
last_at (first ∷ []) zero last = refl
last_at (first ∷ []) (suc at) last = absurd (omega arith)
last_at (first ∷ second ∷ others) zero last = absurd (omega arith)
last_at (first ∷ second ∷ others) (suc at) last = last_at (second ∷ others) at (omega arith)

pub last_subject : (subjects : List Value)
    → last_of subjects ≡ unwrap_or (slice_get subjects (length subjects - 1)) Nothing
last_subject [] = refl
last_subject (first ∷ others) = last_at (first ∷ others) (length (first ∷ others) - 1) (omega arith)
