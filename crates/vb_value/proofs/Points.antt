-- The place of the first point of a text.
use Rattle.std.proofs.Common.{◌≡◌, ℕ, ◌≤◌, Bool, List, length, unwrap_or, arith}
use Rattle.std.specs.List.{position, position_or_len}
use Rattle.std.proofs.lemmas.List.Sums.{prefix_len-le-length}
use Rattle.std.proofs.lemmas.Bool.Decides.{nat_tests}

-- the place of the first that passes, or the length
pub place_or_length : (test : ℕ → Bool) (text : List ℕ)
    → unwrap_or (position test text) (length text) ≡ position_or_len test text
place_or_length test text =
    let within : position_or_len test text ≤ length text = prefix_len-le-length _ text in
    grind (arith, nat_tests)
