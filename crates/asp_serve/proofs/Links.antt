-- What moves on a connection, in several steps.
use Rattle.std.proofs.Common.{◌≡◌, ℕ, ◌<◌, ◌≤◌, ◌^◌, ◌++◌, List, [], refl, ap, sym, ◌∙◌}
use Rattle.std.proofs.Common.{append-nil, append_assoc, arith, Option, Some, None}
use Rattle.std.specs.Prelude.{option_map}
use Rattle.asp_io.specs.Faults.{HasRisen}
use Rattle.asp_io.specs.Sink.{with_bytes}
use Rattle.asp_io.proofs.Writing.{with_bytes-append}
use Rattle.asp_serve.specs.Served.{LinkView, Moves}

same_left : (o : Option (List ℕ)) → o ≡ option_map (λ (after : List ℕ). [] ++ after) o
same_left None = refl
same_left (Some l) = refl

same_held : (o : Option (List ℕ)) → o ≡ with_bytes o []
same_held None = refl
same_held (Some l) = ap Some (sym (append-nil l))

left_both : (xs ys : List ℕ) (o : Option (List ℕ))
    → option_map (λ (after : List ℕ). xs ++ after) (option_map (λ (after : List ℕ). ys ++ after) o)
    ≡ option_map (λ (after : List ℕ). (xs ++ ys) ++ after) o
left_both xs ys None = refl
left_both xs ys (Some l) = ap Some (sym (append_assoc xs ys l))

-- nothing moves
pub moves_none : (a : LinkView) → Moves a a [] []
moves_none a = record {
  came_is = same_left a.left;
  written_is = same_held a.held;
  later = omega arith;
  within = λ few. few;
}

pub moves_then : (a b c : LinkView) (came more written also : List ℕ) → Moves a b came written → Moves b c more also
    → Moves a c (came ++ more) (written ++ also)
moves_then a b c came more written also x y = record {
  came_is = x.came_is ∙ ap (λ o. option_map (λ (after : List ℕ). came ++ after) o) y.came_is
      ∙ left_both came more c.left;
  written_is = y.written_is ∙ ap (λ o. with_bytes o also) x.written_is ∙ with_bytes-append a.held written also;
  later = let p = x.later in let q = y.later in omega arith;
  within = λ few. y.within (x.within few);
}

-- a read alone
pub reads_move : (a b : LinkView) (came : List ℕ) → a.left ≡ option_map (λ (after : List ℕ). came ++ after) b.left
    → b.held ≡ a.held → a.faults ≤ b.faults → (a.faults < 2 ^ 64 → b.faults < 2 ^ 64) → Moves a b came []
reads_move a b came is same later within =
    record { came_is = is; written_is = same ∙ same_held a.held; later = later; within = within }

-- a write alone
pub writes_move : (a b : LinkView) (written : List ℕ) → b.left ≡ a.left → b.held ≡ with_bytes a.held written
    → a.faults ≤ b.faults → (a.faults < 2 ^ 64 → b.faults < 2 ^ 64) → Moves a b [] written
writes_move a b written same is later within = record {
  came_is = sym same ∙ same_left b.left;
  written_is = is;
  later = later;
  within = within;
}

-- a count that has risen later has risen
pub risen_then : (a b c : ℕ) → a ≤ b → HasRisen b c → HasRisen a c
risen_then a b c later risen = omega (arith, later, risen)
