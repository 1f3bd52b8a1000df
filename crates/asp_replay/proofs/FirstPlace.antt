-- Where a feed stands before its first turn.
use Rattle.std.proofs.Common.{◌≡◌, ℕ, ◌==◌, true, false, List, [], ◌∷◌, refl, ap, sym, ◌∙◌, inl, inr, Option, reverse}
use Rattle.std.proofs.lemmas.Bool.{cases_Bool}
use Rattle.std.proofs.lemmas.List.Elements.{All-cons, All-nil}
use Rattle.asp_core.specs.Kernel.{CoreView, past_of}
use Rattle.asp_job.specs.declared.entry.Entry.{Entry}
use Rattle.asp_job.specs.declared.entry.What.TheVariants.{Queue}
use Rattle.asp_job.specs.declared.job.Work.TheVariants.{Start}
use Rattle.asp_job.specs.History.{with_lane}
use Rattle.asp_job.specs.Rules.{Rules}
use Rattle.asp_job.specs.Running.{is_page}
use Rattle.asp_job.specs.Runs.{job_of, queued_job}
use Rattle.asp_record.specs.declared.recording.Item.{Item}
use Rattle.asp_record.specs.Recorded as recorded
use Rattle.asp_feed.specs.Feeding.{Clients}
use Rattle.asp_replay.specs.Underway.{AreCurrent, IsUnderWay}
use Rattle.asp_replay.proofs.Pieces.{with_none}

abbrev pub first_past : List Entry
first_past = with_lane 0 (Queue 1 Start 0) ∷ []

first_job : (run : ℕ) → job_of first_past run ≡ queued_job Start
first_job run = elim (cases_Bool (1 == run)) [
  | inl own ↦ rw own refl
  | inr other ↦ rw other refl
]

pub first_current : AreCurrent first_past
first_current = λ run waits page.
    absurd (let none : is_page (job_of first_past run).work ≡ false = ap (λ job. is_page job.work) (first_job run) in
    let both : true ≡ false = sym page ∙ none in cc)

first_under : (m : Rules) (items : List Item) (held : Option (List ℕ)) → recorded.AreItems 0 items
    → IsUnderWay m items first_past [] items held held
first_under m items held sound = record {
  lane = record {
    none_ready = refl;
    current = first_current;
    lanes = All-cons (λ entry. entry.lane ≡ 0) (with_lane 0 (Queue 1 Start 0)) [] refl (All-nil (λ entry. entry.lane ≡
        0));
    going = refl;
    none_full = (refl, tt);
  };
  stands = inl (record {
    open_still = refl;
    done = [];
    split = refl;
    came = record { items_are = (refl, refl); calm = (tt, tt) };
    now = refl;
    later = sound;
  });
  turns = λ none. (0, refl);
  written = record { records = []; are_records = refl; wrote = sym (with_none held) };
}

-- the journal has the first run alone
pub core_under : {R Site : Type 0} → (m : Rules) (core : CoreView R Site) (clients : Clients) (items : List Item)
    (held : Option (List ℕ)) → core.journal ≡ with_lane 0 (Queue 1 Start 0) ∷ [] → clients ≡ []
    → recorded.AreItems 0 items → IsUnderWay m items (past_of core) clients items held held
core_under m core clients items held first none sound =
    let of : past_of core ≡ first_past = ap reverse first in
    rw of (rw none (first_under m items held sound))
