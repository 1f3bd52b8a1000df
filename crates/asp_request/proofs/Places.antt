-- The place of the first byte of a kind.
use Rattle.std.proofs.Common.{◌≡◌, ℕ, ◌+◌, ◌-◌, ◌<◌, ◌≤◌, true, false, List, [], ◌∷◌, ◌++◌, length, take, get_or}
use Rattle.std.proofs.Common.{reverse, sym, ap, ◌∙◌, arith, unwrap_or, Bool}
use Rattle.std.specs.List.{position, position_or_len}
use Rattle.std.proofs.lemmas.List.Sums.{prefix_len-le-length}
use Rattle.std.proofs.lemmas.Bool.Decides.{nat_tests}
use Rattle.std.proofs.lemmas.List.{take_more, take_all, reverse-append, reverse-reverse, nil_from_length}
use Rattle.httparse.specs.Grammar.{is_ows, skip_ows}
use Rattle.httparse.proofs.TrimLemmas.{skip_ows_yes, skip_ows_no}

pub place_or_length : (test : ℕ → Bool) (bytes : List ℕ)
    → unwrap_or (position test bytes) (length bytes) ≡ position_or_len test bytes
place_or_length test bytes =
    let within : position_or_len test bytes ≤ length bytes = prefix_len-le-length _ bytes in
    grind (arith, nat_tests)

pub place_within : (test : ℕ → Bool) (bytes : List ℕ) → position_or_len test bytes ≤ length bytes
place_within test bytes = prefix_len-le-length _ bytes
