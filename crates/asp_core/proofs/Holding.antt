-- The run that has the lock is unfinished.
use Rattle.std.proofs.Common.{◌≡◌, ℕ, ◌==◌, ◌⊎◌, Bool, true, false, if◌then◌else◌, List, [], ◌∷◌, Option, Some, None}
use Rattle.std.proofs.Common.{refl, ap, sym, ◌∙◌, arith, inl, inr}
use Rattle.std.proofs.lemmas.Bool.{cases_Bool}
use Rattle.vb_value.specs.declared.application.AppCall.{AppCall}
use Rattle.vb_value.specs.declared.application.AppCall.TheVariants as call
use Rattle.vb_value.specs.declared.application.AppReply.{AppReply}
use Rattle.vb_value.specs.declared.application.AppReply.TheVariants as reply
use Rattle.vb_value.specs.declared.value.Value.{Value}
use Rattle.asp_job.specs.declared.entry.What.{What}
use Rattle.asp_job.specs.declared.entry.What.TheVariants.{Queue, Admit, Refuse, Tick, Begin, App, End, Take, Stop}
use Rattle.asp_job.specs.declared.entry.What.TheVariants.{Halt}
use Rattle.asp_job.specs.declared.entry.Entry.{Entry}
use Rattle.asp_job.specs.Application.{AppState, apply, freed, has_lock, is_full, with_value}
use Rattle.asp_job.specs.History.{held_by, run_in, with_lane}
use Rattle.asp_job.specs.Journal.{IsRight, AreRight}
use Rattle.asp_job.specs.Rules.{Rules}
use Rattle.asp_job.specs.Runs.{draws, is_stage_unfinished, is_unfinished, stage_of}
use Rattle.asp_job.specs.Turns.{owed}
use Rattle.asp_journal.proofs.Others.{stage_other}
use Rattle.asp_core.proofs.Right.{call_running, drawn_next, is_drawn, numbered, unfinished_is}
use Rattle.asp_core.proofs.Staying.{unequal}

-- ---- who has the lock after an entry

freed_from : (b : Bool) (held : AppState) (r : ℕ)
    → (if b then (record held { holder = None }) else held).holder ≡ Some r → (b ≡ false) × (held.holder ≡ Some r)
freed_from true held r e = absurd cc
freed_from false held r e = (refl, e)

-- who has the lock after a call or an End had it before
freed_had : (held : AppState) (run r : ℕ) → (freed run held).holder ≡ Some r → held.holder ≡ Some r
freed_had held run r e = (freed_from (has_lock run held) held r e).1

-- an End leaves no lock to its run
freed_apart : (held : AppState) (run r : ℕ) → (freed run held).holder ≡ Some r → (run == r) ≡ false
freed_apart held run r e =
    let kept = freed_from (has_lock run held) held r e in
    let without : has_lock run held ≡ false = kept.0 in
    let had : held.holder ≡ Some r = kept.1 in
    let other : (r == run) ≡ false = rw had at without in
    unequal run r (λ same. absurd (let own : (r == run) ≡ true = grind arith in cc))

abbrev holder_after : AppState × AppReply → Option ℕ
holder_after after = after.0.holder

put_had : (b : Bool) (held : AppState) (entries : List (List ℕ × Value)) (r : ℕ)
    → holder_after (if b then (held, reply.Full) else (record held { entries = entries }, reply.Done)) ≡ Some r
    → held.holder ≡ Some r
put_had true held entries r e = e
put_had false held entries r e = e

own_lock : (run r : ℕ) → Some run ≡ Some r → run ≡ r
own_lock run r e = cc

call_had : (held : AppState) (run r : ℕ) (made : AppCall) → (apply held run made).0.holder ≡ Some r
    → (run ≡ r) ⊎ (held.holder ≡ Some r)
call_had held run r (call.Get name) e = inr e
call_had held run r (call.Put name value) e =
    let entries = with_value name value held.entries in inr (put_had (is_full entries) held entries r e)
call_had held run r (call.Remove name) e = inr e
call_had held run r call.RemoveAll e = inr e
call_had held run r call.Count e = inr e
call_had held run r (call.KeyAt place) e = inr e
call_had held run r call.Names e = inr e
call_had held run r call.Lock e = inl (own_lock run r e)
call_had held run r call.Unlock e = inr (freed_had held run r e)

-- ---- the run that has it is unfinished

-- a run that is drawn is not one that is unfinished
pub drawn_apart : (m : Rules) (past : List Entry) (lane : ℕ) (what : What) (r : ℕ) → AreRight m past
    → IsRight m past (with_lane lane what) → draws what ≡ true → is_unfinished past r ≡ true
    → (run_in what == r) ≡ false
drawn_apart m past lane what r right one draws_one busy =
    let next = drawn_next m past lane what (owed m past) one.turn draws_one in
    let stage = unfinished_is (stage_of past r) busy in
    let known = numbered m past right r (ap is_drawn stage) in let high = known.1 in
    unequal (run_in what) r (λ same. omega arith)

busy_other : (past : List Entry) (lane r : ℕ) (what : What) → (run_in what == r) ≡ false → is_unfinished past r ≡ true
    → is_unfinished (with_lane lane what ∷ past) r ≡ true
busy_other past lane r what apart busy = ap is_stage_unfinished (stage_other past lane r what apart) ∙ busy

begun_busy : (past : List Entry) (lane run serial r : ℕ) → is_unfinished past r ≡ true
    → is_unfinished (with_lane lane (Begin run serial) ∷ past) r ≡ true
begun_busy past lane run serial r busy = elim (cases_Bool (run == r)) [
  | inl own ↦ rw own refl
  | inr other ↦ busy_other past lane r (Begin run serial) other busy
]

abbrev IsHeldByOne : List Entry → ℕ → Type 0
IsHeldByOne past r = (held_by past).holder ≡ Some r → is_unfinished past r ≡ true

held_more : (m : Rules) (past : List Entry) (lane : ℕ) (what : What) (r : ℕ) → AreRight m past
    → IsRight m past (with_lane lane what) → IsHeldByOne past r → IsHeldByOne (with_lane lane what ∷ past) r
held_more m past lane (Queue run work key) r right one ih h =
    let busy = ih h in let what = Queue run work key in
    busy_other past lane r what (drawn_apart m past lane what r right one refl busy) busy
held_more m past lane (Admit run key fresh job) r right one ih h =
    let busy = ih h in let what = Admit run key fresh job in
    busy_other past lane r what (drawn_apart m past lane what r right one refl busy) busy
held_more m past lane (Refuse run job) r right one ih h =
    let busy = ih h in let what = Refuse run job in
    busy_other past lane r what (drawn_apart m past lane what r right one refl busy) busy
held_more m past lane (Tick moment) r right one ih h = ih h
held_more m past lane (Begin run serial) r right one ih h = begun_busy past lane run serial r (ih h)
held_more m past lane (App run made given) r right one ih h = elim (call_had (held_by past) run r made h) [
  | inl same ↦ (let running = call_running m past lane run made given (owed m past) one.turn in
      ap (is_unfinished past) (sym same) ∙ running.unfinished)
  | inr had ↦ ih had
]
held_more m past lane (End run kind status size n1 n2) r right one ih h =
    busy_other past lane r (End run kind status size n1 n2) (freed_apart (held_by past) run r h)
    (ih (freed_had (held_by past) run r h))
held_more m past lane (Take run) r right one ih h = ih h
held_more m past lane Stop r right one ih h = ih h
held_more m past lane Halt r right one ih h = ih h

pub holder_unfinished : (m : Rules) (past : List Entry) (r : ℕ) → AreRight m past
    → (held_by past).holder ≡ Some r → is_unfinished past r ≡ true
holder_unfinished m [] r right h = absurd cc
holder_unfinished m (entry ∷ past) r right h =
    held_more m past entry.lane entry.what r right.1 right.0 (holder_unfinished m past r right.1) h
