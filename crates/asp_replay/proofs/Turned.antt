-- Turns that lead to a place.
use Rattle.std.proofs.Common.{◌≡◌, ℕ, suc, Bool, true, false, List, [], ◌∷◌, refl, ap, sym, ◌∙◌, subst, inl, inr}
use Rattle.asp_core.specs.Laws.{NoneIs}
use Rattle.asp_core.specs.Ready.{ready}
use Rattle.asp_job.specs.declared.entry.Entry.{Entry}
use Rattle.asp_job.specs.declared.entry.What.{What}
use Rattle.asp_job.specs.Journal.{past_after, stop_entries}
use Rattle.asp_job.specs.Rules.{Rules}
use Rattle.asp_job.specs.Runs.{is_stopping}
use Rattle.asp_lane.specs.Turns.{IsStep}
use Rattle.asp_record.specs.declared.recording.Item.{Item}
use Rattle.asp_record.specs.Recorded as recorded
use Rattle.asp_feed.specs.Feeding.{Clients, is_calm}
use Rattle.asp_replay.specs.Sequential.{AddsItem, IsBusy, IsNextStep, hand_outs, handed_out, is_memory_end, may_come}
use Rattle.asp_replay.specs.Underway.{AreTurnsTo, WorkAdds}

none_before : (test : What → Bool) (past entries : List Entry) → NoneIs test (past_after past entries)
    → NoneIs test past
none_before test past [] none = none
none_before test past (entry ∷ entries) none = (none_before test (entry ∷ past) entries none).1

-- an item came
pub come_turned : (m : Rules) (items : List Item) (past entries : List Entry) (clients then_clients : Clients) (next :
    Item)
    (left : List Item) → AreTurnsTo m items past clients (next ∷ left)
    → may_come past (recorded.moment_of next) ≡ true → AddsItem m past clients next entries then_clients
    → AreTurnsTo m items (handed_out m (past_after past entries)) then_clients left
come_turned m items past entries clients then_clients next left turns may adds = λ none.
    let mid = past_after past entries in
    let before = turns (none_before is_memory_end past entries
    (none_before is_memory_end mid (hand_outs (ready m mid)) none)) in (
      suc before.0,
      (
        record { past = past; items = next ∷ left; clients = clients },
        before.1,
        inl (record {
          next = next;
          entries = entries;
          items_are = refl;
          may = may;
          adds = adds;
          past_is = refl;
        }),
      ),
    )

-- the host stopped
pub stop_turned : (m : Rules) (items : List Item) (past : List Entry) (clients : Clients)
    → AreTurnsTo m items past clients [] → is_calm past ≡ true → is_stopping past ≡ false
    → AreTurnsTo m items (handed_out m (past_after past (stop_entries m past 0))) clients []
stop_turned m items past clients turns calm once = λ none.
    let entries = stop_entries m past 0 in
    let mid = past_after past entries in
    let before = turns (none_before is_memory_end past entries
    (none_before is_memory_end mid (hand_outs (ready m mid)) none)) in (
      suc before.0,
      (
        record { past = past; items = []; clients = clients },
        before.1,
        inr (inl (record {
          none = refl;
          none_then = refl;
          calm = calm;
          once = once;
          clients_are = refl;
          past_is = refl;
        })),
      ),
    )

next_step : (m : Rules) (past : List Entry) (run : ℕ) (entry : Entry) → is_memory_end entry.what ≡ false
    → IsStep m past 0 run entry → IsNextStep m past run entry
next_step m past run entry e (inl called) = inl called
next_step m past run entry e (inr (inl ended)) = inr ended
next_step m past run entry e (inr (inr died)) =
    absurd (let both : true ≡ false = sym (ap (λ made. is_memory_end made.what) died) ∙ e in cc)

-- a run went on
pub work_turned : (m : Rules) (items : List Item) (past entries : List Entry) (clients : Clients) (left : List Item)
    → AreTurnsTo m items past clients left → IsBusy past left → WorkAdds m past entries
    → AreTurnsTo m items (handed_out m (past_after past entries)) clients left
work_turned m items past entries clients left turns busy adds = λ none.
    let mid = past_after past entries in
    let none_mid : NoneIs is_memory_end mid =
    none_before is_memory_end mid (hand_outs (ready m mid)) none in
    let none_own : NoneIs is_memory_end (adds.entry ∷ adds.mid) = subst (NoneIs is_memory_end) adds.entries_are
    none_mid in
    let before = turns (none_before is_memory_end past entries none_mid) in (
      suc before.0,
      (
        record { past = past; items = left; clients = clients },
        before.1,
        inr (inr (record {
          busy = busy;
          items_are = refl;
          clients_are = refl;
          mid = mid;
          works = record {
            mid = adds.mid;
            run = adds.run;
            in_hand = adds.in_hand;
            entry = adds.entry;
            step = next_step m adds.mid adds.run adds.entry none_own.0 adds.step;
            new_is = adds.entries_are;
          };
          past_is = refl;
        })),
      ),
    )
