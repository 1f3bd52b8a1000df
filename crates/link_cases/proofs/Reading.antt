-- What a read leaves of the slice into which it copied.
use Rattle.std.proofs.Common.{◌≡◌, ℕ, ◌≤◌, List, ◌++◌, length, take, drop, sym, ◌∙◌, ap, arith, length-take-le}
use Rattle.std.proofs.lemmas.List.{take_at}
use Rattle.asp_io.specs.Source.{moved}

-- the rest of the slice stays
pub kept_rest : (left into new : List ℕ) (count : ℕ) → count ≡ moved (length left) (length into)
    → new ≡ take count left ++ drop count into → new ≡ take count new ++ drop count into
kept_rest left into new count is copied =
    let within : count ≤ length left = omega arith in
    let front : take count new ≡ take count left =
    ap (take count) copied ∙ take_at (take count left) (drop count into) count (length-take-le count left within) in
    copied ∙ ap (λ start. start ++ drop count into) (sym front)
