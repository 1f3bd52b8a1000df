-- How an object ends.
use Rattle.std.proofs.Common.{◌≡◌, ℕ, ◌∙◌, List, [], true, false, Option, Some, None, refl, sym, ap, arith}
use Rattle.std.specs.Prelude.{IfSome}
use Rattle.vb_heap.specs.declared.object.Object.{Object}
use Rattle.vb_heap.specs.Counted.{AreRight, content_gone, counts_less}
use Rattle.vb_heap.specs.Releases.{ends_now, finished, without_object}
use Rattle.vb_heap.specs.Store.{Store, numbered, without}
use Rattle.vb_heap.proofs.CountsAfter.{ended_counts, ended_moves}
use Rattle.vb_heap.proofs.Told.{moved_below}

-- an ending object
pub it_ends : (number : ℕ) (found : Option Object) (store : Store) → ends_now found ≡ true
    → finished number found store ≡ without_object number found store
it_ends number found store ends = rw ends refl

-- another one
pub it_stays : (number : ℕ) (found : Option Object) (store : Store) → ends_now found ≡ false
    → finished number found store ≡ store
it_stays number found store stays = rw stays refl

-- the counts stay right as an object ends
pub ended_right : (ended : ℕ) (store : Store) (counts after : List (ℕ × ℕ)) (top : ℕ) → AreRight counts top store
    → ends_now (numbered ended store.objects) ≡ true
    → IfSome (numbered ended store.objects)
    (λ object. after ≡ counts_less (content_gone object.content store.cells) (without ended counts))
    → AreRight after top (without_object ended (numbered ended store.objects) store)
ended_right ended store counts after top right ends = by (numbered ended store.objects) refl ends
  where
    by : (found : Option Object) → numbered ended store.objects ≡ found → ends_now found ≡ true
        → IfSome found (λ object. after ≡ counts_less (content_gone object.content store.cells) (without ended counts))
        → AreRight after top (without_object ended found store)
    by None is ends told = absurd (cc)
    by (Some thing) is ends told = record {
      each =
          told
          ∙ (ap (λ all. counts_less (content_gone thing.content store.cells) (without ended all)) right.each
          ∙ sym (ended_counts ended thing store is));
      below =
          moved_below (content_gone thing.content store.cells) [] store (without_object ended (Some thing) store) top top
          (ended_moves ended thing store thing.content refl is) (omega arith) right.below refl;
    }

pub ruleset finishes = (it_ends, it_stays)
