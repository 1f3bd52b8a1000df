-- Things by their numbers, of each of which one part is seen, or which are changed by their numbers.
use Rattle.std.proofs.Common.{ℕ, ◌+◌, ◌≤◌, ◌≡◌, ◌≢◌, Bool, true, false, cond, List, [], ◌∷◌, ◌++◌, Some}
use Rattle.std.proofs.Common.{refl, sym, ap, ◌∙◌, arith}
use Rattle.std.specs.Option.{option_map}
use Rattle.slot_pool.specs.Pool.{NumbersRise}
use Rattle.vb_heap.specs.Below.{EachBelow}
use Rattle.vb_heap.specs.Counted.{parts_of}
use Rattle.vb_heap.specs.Store.{is_number, numbered, replaced, without}

-- two numbers that differ
pub differs : (m n : ℕ) → m ≢ n → is_number m n ≡ false
differs m n apart = grind (arith)

-- a number is itself
pub itself : (number : ℕ) → is_number number number ≡ true
itself number = grind (arith)

-- two numbers that are one
pub alike : (m n : ℕ) → is_number m n ≡ true → m ≡ n
alike m n same = grind (arith)

module _ {S T : Type 0} (part : S → T) where
  pub parts_numbered : (number : ℕ) (things : List (ℕ × S))
      → numbered number (parts_of part things) ≡ option_map part (numbered number things)
  parts_numbered number [] = refl
  parts_numbered number (first ∷ others) = by (is_number number first.0) (parts_numbered number others)
    where
      by : (here : Bool) → numbered number (parts_of part others) ≡ option_map part (numbered number others)
          → cond here (Some (part first.1)) (numbered number (parts_of part others))
          ≡ option_map part (cond here (Some first.1) (numbered number others))
      by true rest = refl
      by false rest = rest

  pub parts_replaced : (number : ℕ) (thing : S) (things : List (ℕ × S))
      → parts_of part (replaced number thing things) ≡ replaced number (part thing) (parts_of part things)
  parts_replaced number thing [] = refl
  parts_replaced number thing (first ∷ others) = by (is_number number first.0) (parts_replaced number thing others)
    where
      by : (here : Bool)
          → parts_of part (replaced number thing others) ≡ replaced number (part thing) (parts_of part others)
          → parts_of part (cond here ((first.0, thing) ∷ others) (first ∷ replaced number thing others))
          ≡ cond here ((first.0, part thing) ∷ parts_of part others)
          ((first.0, part first.1) ∷ replaced number (part thing) (parts_of part others))
      by true rest = refl
      by false rest = ap (λ more. (first.0, part first.1) ∷ more) rest

  -- another thing whose part is that of the one before it
  pub parts_same : (number : ℕ) (old new : S) (things : List (ℕ × S)) → numbered number things ≡ Some old
      → part new ≡ part old → parts_of part (replaced number new things) ≡ parts_of part things
  parts_same number old new [] is same = refl
  parts_same number old new (first ∷ others) is same =
      by (is_number number first.0) is (λ deeper. parts_same number old new others deeper same)
    where
      by : (here : Bool) → cond here (Some first.1) (numbered number others) ≡ Some old
          → (numbered number others ≡ Some old
          → parts_of part (replaced number new others) ≡ parts_of part others)
          → parts_of part (cond here ((first.0, new) ∷ others) (first ∷ replaced number new others))
          ≡ parts_of part (first ∷ others)
      by true found rest =
          let one : first.1 ≡ old = cc in
          ap (λ seen. (first.0, seen) ∷ parts_of part others) (same ∙ ap part (sym one))
      by false found rest = ap (λ more. (first.0, part first.1) ∷ more) (rest found)

  pub parts_without : (number : ℕ) (things : List (ℕ × S))
      → parts_of part (without number things) ≡ without number (parts_of part things)
  parts_without number [] = refl
  parts_without number (first ∷ others) = by (is_number number first.0) (parts_without number others)
    where
      by : (here : Bool) → parts_of part (without number others) ≡ without number (parts_of part others)
          → parts_of part (cond here others (first ∷ without number others))
          ≡ cond here (parts_of part others) ((first.0, part first.1) ∷ without number (parts_of part others))
      by true rest = refl
      by false rest = ap (λ more. (first.0, part first.1) ∷ more) rest

  pub parts_both : (things others : List (ℕ × S))
      → parts_of part (things ++ others) ≡ parts_of part things ++ parts_of part others
  parts_both [] others = refl
  parts_both (first ∷ rest) others = ap (λ more. (first.0, part first.1) ∷ more) (parts_both rest others)

  pub parts_rise : (low high : ℕ) (things : List (ℕ × S)) → NumbersRise low things high
      → NumbersRise low (parts_of part things) high
  parts_rise low high [] rise = rise
  parts_rise low high (first ∷ others) rise = (rise.0, parts_rise (first.0 + 1) high others rise.1)

-- things whose numbers rise have those from the first on
pub rise_within : {S : Type 0} (low high : ℕ) (things : List (ℕ × S)) → NumbersRise low things high → low ≤ high
rise_within low high [] rise = rise
rise_within low high (first ∷ others) rise =
    let rest = rise_within (first.0 + 1) high others rise.1 in omega (arith, rise.0, rest)

pub rise_below : {S : Type 0} (low high : ℕ) (things : List (ℕ × S)) → NumbersRise low things high
    → EachBelow high things
rise_below low high [] rise = tt
rise_below low high (first ∷ others) rise =
    let rest = rise_within (first.0 + 1) high others rise.1 in
    (omega (arith, rest), rise_below (first.0 + 1) high others rise.1)
