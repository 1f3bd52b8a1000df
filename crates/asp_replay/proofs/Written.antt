-- Entries add to the answers that are shown, at their end.
use Rattle.std.proofs.Common.{◌≡◌, ℕ, false, List, [], ◌∷◌, ◌++◌, Option, Some, None}
use Rattle.std.proofs.Common.{refl, ap, sym, ◌∙◌, subst, append_assoc, append-nil, inl, inr}
use Rattle.asp_core.specs.Ready.{IsAnswered}
use Rattle.asp_job.specs.declared.answer.Answer.{Answer}
use Rattle.asp_job.specs.declared.entry.Entry.{Entry}
use Rattle.asp_job.specs.declared.entry.What.{What}
use Rattle.asp_job.specs.declared.entry.What.TheVariants.{Admit, App, Begin, End, Halt, Queue, Refuse, Stop, Take, Tick}
use Rattle.asp_job.specs.History.{with_lane}
use Rattle.asp_job.specs.Journal.{AreRight, past_after}
use Rattle.asp_job.specs.Output.{answer_by, unavailable_in}
use Rattle.asp_job.specs.Rules.{Rules, TooManySessions}
use Rattle.asp_job.specs.Runs.{job_of}
use Rattle.asp_lane.specs.Turns.{IsStep}
use Rattle.asp_replay.specs.Feed.{ArePartWritten, AreWritten}
use Rattle.asp_replay.specs.Sequential.{HasInHand}
use Rattle.asp_feed.specs.Shown.{Shown, shown_of, with_shown}
use Rattle.asp_replay.specs.Underway.{WorkAdds}
use Rattle.asp_replay.proofs.Current.{is_tick_or_take}
use Rattle.asp_replay.proofs.Pieces.{part_whole}
use Rattle.asp_replay.proofs.Showing.{Shows, shown_grows}

-- ---- entries add answers at the end

with_more : (shown : List Shown) (run moment : ℕ) (answer : Option Answer)
    → (more : List Shown) × (with_shown shown run moment answer ≡ shown ++ more)
with_more shown run moment None = ([], sym (append-nil shown))
with_more shown run moment (Some answer) = (record { run = run; moment = moment; answer = answer } ∷ [], refl)

adds_shown : (m : Rules) (past : List Entry) (lane : ℕ) (what : What)
    → (more : List Shown) × (shown_of m (with_lane lane what ∷ past) ≡ shown_of m past ++ more)
adds_shown m past lane (Queue run work key) = ([], sym (append-nil (shown_of m past)))
adds_shown m past lane (Admit run key fresh job) = ([], sym (append-nil (shown_of m past)))
adds_shown m past lane (Refuse run job) =
    with_more (shown_of m past) run job.moment (unavailable_in m TooManySessions job.work)
adds_shown m past lane (Tick moment) = ([], sym (append-nil (shown_of m past)))
adds_shown m past lane (Begin run serial) = ([], sym (append-nil (shown_of m past)))
adds_shown m past lane (App run call reply) = ([], sym (append-nil (shown_of m past)))
adds_shown m past lane (End run kind status size n1 n2) =
    with_more (shown_of m past) run (job_of past run).moment (answer_by m past run kind)
adds_shown m past lane (Take run) = ([], sym (append-nil (shown_of m past)))
adds_shown m past lane Stop = ([], sym (append-nil (shown_of m past)))
adds_shown m past lane Halt = ([], sym (append-nil (shown_of m past)))

pub shown_first : (m : Rules) (past entries : List Entry)
    → (more : List Shown) × (shown_of m (past_after past entries) ≡ shown_of m past ++ more)
shown_first m past [] = ([], sym (append-nil (shown_of m past)))
shown_first m past (entry ∷ entries) =
    let one = adds_shown m past entry.lane entry.what in
    let rest = shown_first m (entry ∷ past) entries in
    (one.0 ++ rest.0, rest.1 ∙ ap (λ shown. shown ++ rest.0) one.1 ∙ append_assoc (shown_of m past) one.0 rest.0)

-- what was written is the first of what is shown later
pub written_first : (m : Rules) (past new : List Entry) (more : List Shown) (before now : Option (List ℕ))
    → AreWritten m past before now → shown_of m new ≡ shown_of m past ++ more → ArePartWritten m new before now
written_first m past new more before now written is =
    record {
      first = shown_of m past;
      later = more;
      shown_are = is;
      records = written.records;
      are_records = written.are_records;
      wrote = part_whole before now written.records written.wrote;
    }

-- ---- work

step_plain : (m : Rules) (past : List Entry) (run : ℕ) (entry : Entry) → IsStep m past 0 run entry
    → is_tick_or_take entry.what ≡ false
step_plain m past run entry (inl called) = ap (λ made. is_tick_or_take made.what) called.2
step_plain m past run entry (inr (inl ended)) = ap (λ made. is_tick_or_take made.what) ended.1
step_plain m past run entry (inr (inr died)) = ap (λ made. is_tick_or_take made.what) died

shown_begin : (m : Rules) (past mid : List Entry) (run : ℕ) (done : List Shown) → AreRight m mid → IsAnswered m mid
    → HasInHand m past mid run → Shows m past done → Shows m mid done
shown_begin m past mid run done right answered (inl in_hand) shows =
    subst (λ now. Shows m now done) (sym in_hand.1) shows
shown_begin m past mid run done right answered (inr begins) shows =
    let is = begins.2 in
    subst (λ now. Shows m now done) (sym is) (shown_grows m past _ done (subst (AreRight m) is right)
    (subst (IsAnswered m) is answered) refl shows)

-- what work adds
pub shown_work : (m : Rules) (past entries : List Entry) (done : List Shown) → AreRight m (past_after past entries)
    → IsAnswered m (past_after past entries) → WorkAdds m past entries → Shows m past done
    → Shows m (past_after past entries) done
shown_work m past entries done right answered adds shows =
    let is = adds.entries_are in
    let right_then = subst (AreRight m) is right in
    let answered_then = subst (IsAnswered m) is answered in
    subst (λ now. Shows m now done) (sym is) (shown_grows m adds.mid adds.entry done right_then answered_then
    (step_plain m adds.mid adds.run adds.entry adds.step)
    (shown_begin m past adds.mid adds.run done right_then.1 answered_then.1 adds.in_hand shows))
