-- Counts of objects that may still end, at a number that is 0 and at one that isn't; and an object that is ending has
-- the class that it had.
use Rattle.std.proofs.Common.{◌≡◌, ℕ, ◌-◌, ◌<◌, List, [], ◌∷◌, Option, Some, None, refl, sym, ap, ◌∙◌, arith}
use Rattle.std.specs.Option.{option_map_or}
use Rattle.vb_heap.specs.declared.object.Object.{Object}
use Rattle.vb_heap.specs.Releases.{oldest_loose, oldest_live, ending, with_ending}
use Rattle.vb_heap.specs.Store.{numbered, replaced}
use Rattle.vb_meaning.specs.Inner.{Inner}
use Rattle.vb_meaning.specs.Releases.{settle_times, released_one, settle_last, settle_last_times, end_times, end_one}
use Rattle.vb_meaning.specs.Releases.{line_of, in_world, terminator_line}
use Rattle.vb_meaning.specs.Releases.{terminator_in}
use Rattle.vb_meaning.specs.Objects.{class_at}
use Rattle.vb_meaning.specs.State.{State, Does, with_store}
use Rattle.vb_meaning.specs.Step.{Returns, and_then, ◌>>◌}
use Rattle.vb_meaning.specs.Stored.{class_found}
use Rattle.vb_meaning.specs.Ends.{ends_last}
use Rattle.vb_meaning.proofs.Down.{deeper}

found_again : (number : ℕ) (thing old : Object) (things : List (ℕ × Object)) → numbered number things ≡ Some old
    → numbered number (replaced number thing things) ≡ Some thing
found_again number thing old [] there = absurd (cc)
found_again number thing old (first ∷ others) there = grind (found_again number thing old others, arith)

class_kept : (number : ℕ) (objects : List (ℕ × Object)) (found : Option Object) → found ≡ numbered number objects
    → class_found (numbered number (option_map_or (λ object. replaced number (ending object) objects) found objects))
    ≡ class_found (numbered number objects)
class_kept number objects (Some object) is =
    rw (found_again number (ending object) object objects (sym is), sym is) refl
class_kept number objects None is = refl

module _ (E : Type 0) (m : Inner E) where
  -- the line of an object's terminator once it is ending
  line_kept : (object : ℕ) (s : State E)
      → line_of E m object (with_store (with_ending (Some object)) s.world) ≡ line_of E m object s.world
  line_kept object s =
      ap (λ class. terminator_line E m (terminator_in (class_at m.program class)))
      (class_kept object s.world.store.objects (numbered object s.world.store.objects) refl)

  pub settle_none : (n : ℕ) (s : State E) → n ≡ 0 → settle_times E m n s ≡ Returns tt s
  settle_none n s none = ap (λ n. settle_times E m n s) none

  pub settle_more : (n : ℕ) (s : State E) → 0 < n
      → settle_times E m n s ≡ released_one E m (settle_times E m (n - 1)) (oldest_loose s.world.store) s
  settle_more n s some = deeper (λ n. settle_times E m n s) n some

  -- an ending object ends, and more do
  abbrev pub goes : Does E (Unit {0}) → ℕ → Does E (Unit {0})
  goes more object s = and_then (ends_last E m object s) (λ _. more)

  abbrev pub goes_if : Does E (Unit {0}) → Option ℕ → Does E (Unit {0})
  goes_if more (Some object) s = goes more object (in_world E (with_store (with_ending (Some object)) s.world) s)
  goes_if more None s = Returns tt s

  end_found : (more : Does E (Unit {0})) (found : Option ℕ) (s : State E)
      → end_one E m more found s ≡ goes_if more found s
  unfolding ends_last
  end_found more (Some object) s = rw (line_kept object s) refl
  end_found more None s = refl

  pub settle_last_none : (n : ℕ) (s : State E) → n ≡ 0 → settle_last_times E m n s ≡ Returns tt s
  settle_last_none n s none = ap (λ n. settle_last_times E m n s) none

  pub settle_last_more : (n : ℕ) (s : State E) → 0 < n
      → settle_last_times E m n s ≡ goes_if (settle_last_times E m (n - 1)) (oldest_loose s.world.store) s
  settle_last_more n s some = deeper (λ n. settle_last_times E m n s) n some
      ∙ end_found (settle_last_times E m (n - 1)) (oldest_loose s.world.store) s

  pub end_none : (n : ℕ) (s : State E) → n ≡ 0 → end_times E m n s ≡ Returns tt s
  end_none n s none = ap (λ n. end_times E m n s) none

  pub end_more : (n : ℕ) (s : State E) → 0 < n → end_times E m n s
      ≡ goes_if (settle_last E m >> end_times E m (n - 1)) (oldest_live s.world.store) s
  end_more n s some = deeper (λ n. end_times E m n s) n some
      ∙ end_found (settle_last E m >> end_times E m (n - 1)) (oldest_live s.world.store) s
