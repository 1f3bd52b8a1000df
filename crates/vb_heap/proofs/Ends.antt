-- Which objects are ending, told beside their counts.
use Rattle.std.proofs.Common.{ℕ, ◌≡◌, ◌==◌, ◌&&◌, not, Bool, true, false, cond, List, [], ◌∷◌, ◌++◌, map, Option, Some}
use Rattle.std.proofs.Common.{refl, sym, ap, ◌∙◌}
use Rattle.vb_heap.specs.declared.object.Object.{Object}
use Rattle.vb_heap.specs.Counted.{counts_in, parts_of}
use Rattle.vb_heap.specs.Dictionary.{Dictionary}
use Rattle.vb_heap.specs.Entries.{object_changed, objects_changed}
use Rattle.vb_heap.specs.References.{references_to}
use Rattle.vb_heap.specs.Releases.{ending, is_loose, objects_ending, oldest, oldest_loose}
use Rattle.vb_heap.specs.Store.{Store, numbered, replaced, without}
use Rattle.vb_heap.specs.Tally.{oldest_waiting}
use Rattle.vb_heap.proofs.Parts.{parts_both, parts_without}
use Rattle.vb_heap.proofs.Waiting.{part_placed, parts_stay}

-- which objects are ending
abbrev pub endings : List (ℕ × Object) → List (ℕ × Bool)
endings objects = parts_of (λ object. object.ending) objects

-- a change of a dictionary leaves that
pub table_ends : (ends new : List (ℕ × Bool)) (change : Dictionary → Dictionary) (number : ℕ)
    (objects : List (ℕ × Object)) → ends ≡ endings objects → new ≡ ends
    → new ≡ endings (objects_changed change number objects)
table_ends ends new change number objects is same =
    same ∙ (is ∙ sym (parts_stay (λ object. object.ending) number (object_changed change) objects
    (numbered number objects) refl (λ object found. refl)))

-- an object more
pub made_ends : (ends : List (ℕ × Bool)) (objects : List (ℕ × Object)) (told made : ℕ) (object : Object)
    → ends ≡ endings objects → told ≡ made → object.ending ≡ false
    → ends ++ (told, false) ∷ [] ≡ endings (objects ++ (made, object) ∷ [])
made_ends ends objects told made object is same live =
    ap (λ those. those ++ (told, false) ∷ []) is
    ∙ (ap (λ number. endings objects ++ (number, false) ∷ []) same
    ∙ (ap (λ end. endings objects ++ (made, end) ∷ []) (sym live)
    ∙ sym (parts_both (λ object. object.ending) objects ((made, object) ∷ []))))

-- an object that is named
pub named_ends : (ends new : List (ℕ × Bool)) (number : ℕ) (objects : List (ℕ × Object)) → ends ≡ endings objects
    → new ≡ replaced number true ends → new ≡ endings (objects_ending number objects)
named_ends ends new number objects is told =
    told ∙ (ap (λ those. replaced number true those) is
    ∙ sym (part_placed (λ object. object.ending) number true ending objects (numbered number objects) refl
    (λ object. refl)))

-- an object that has ended
pub gone_ends : (ends new : List (ℕ × Bool)) (number : ℕ) (objects : List (ℕ × Object)) → ends ≡ endings objects
    → new ≡ without number ends → new ≡ endings (without number objects)
gone_ends ends new number objects is told =
    told ∙ (ap (λ those. without number those) is ∙ sym (parts_without (λ object. object.ending) number objects))

oldest_told : (store : Store) (objects : List (ℕ × Object))
    → oldest_waiting (map (λ thing. (thing.0, references_to thing.0 store)) objects) (endings objects)
    ≡ oldest (is_loose store) objects
oldest_told store [] = refl
oldest_told store (first ∷ others) =
    ap (λ rest. cond (is_loose store first.0 first.1) (Some first.0) rest) (oldest_told store others)

-- the first that waits is the oldest live object without references
pub oldest_waits : (store : Store) (counts : List (ℕ × ℕ)) (ends : List (ℕ × Bool)) → counts ≡ counts_in store
    → ends ≡ endings store.objects → oldest_waiting counts ends ≡ oldest_loose store
oldest_waits store counts ends told are =
    ap (λ those. oldest_waiting those ends) told
    ∙ (ap (oldest_waiting (counts_in store)) are ∙ oldest_told store store.objects)
