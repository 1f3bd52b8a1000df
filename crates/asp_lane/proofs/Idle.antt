-- Where a turn comes to idle and no answer waits, no run waits.
use Rattle.std.proofs.Common.{◌≡◌, ℕ, ◌<◌, true, false, List, [], length, ap, sym, ◌∙◌, subst}
use Rattle.std.proofs.Common.{arith, inl, inr, Option, Some, None}
use Rattle.asp_job.specs.declared.answer.Answer.{Answer}
use Rattle.asp_job.specs.declared.entry.Entry.{Entry}
use Rattle.asp_job.specs.Journal.{AreRight}
use Rattle.asp_job.specs.Rules.{Rules}
use Rattle.asp_job.specs.Runs.{is_halted, unfinished, waiting}
use Rattle.asp_job.specs.Told.{Meaning, Told}
use Rattle.asp_core.specs.declared.ready.TheConstants.{MOST_BODY_BYTES}
use Rattle.asp_core.specs.Kernel.{CoreView, RunView, IsIdle, grown, past_of, rules_of}
use Rattle.asp_core.specs.Ready.{bodies_with_one, ready}
use Rattle.asp_core.proofs.Idling.{none_waits}
use Rattle.asp_lane.specs.declared.turn.TurnEnd.{TurnEnd}
use Rattle.asp_lane.specs.declared.turn.TurnEnd.TheVariants as turn
use Rattle.asp_lane.specs.Turns.{AddsBegin, Fits, IsTurn}
use Rattle.asp_lane.proofs.Turns.{grown_none}

-- the body of one more has room where none waits
light : (past : List Entry) → unfinished past ≡ [] → MOST_BODY_BYTES < bodies_with_one [] past → ⊥
light past none heavy =
    let few : length (unfinished past) ≡ 0 = ap length none in omega arith

nothing_waits : (m : Rules) (past : List Entry) → AreRight m past → unfinished past ≡ [] → IsIdle m past
    → ready m past ≡ [] → is_halted past ≡ false → waiting past ≡ []
nothing_waits m past right none (inl (inl halted)) answers going =
    absurd (let both : true ≡ false = sym halted ∙ going in cc)
nothing_waits m past right none (inl (inr (inl many))) answers going =
    absurd (let few : length (unfinished past) ≡ 0 = ap length none in omega arith)
nothing_waits m past right none (inl (inr (inr stuck))) answers going = none_waits m past right none stuck
nothing_waits m past right none (inr heavy) answers going =
    absurd (light past none
    (subst (λ (list : List (ℕ × Answer)). MOST_BODY_BYTES < bodies_with_one list past) answers heavy))

-- an idle turn had no run in hand, and changed nothing
pub idle_turn : {R Site State : Type 0} → (meaning : R → Site → Meaning)
    (stands : R → Site → State → Told → ℕ → Type 0) (lane : ℕ) (old new : CoreView R Site)
    (in_hand then_in_hand : Option (RunView State)) (t : TurnEnd) → AreRight (rules_of meaning old) (past_of old)
    → Fits meaning stands old lane in_hand → IsTurn meaning stands lane old in_hand new then_in_hand t
    → t ≡ turn.Idle → ready (rules_of meaning new) (past_of new) ≡ [] → is_halted (past_of new) ≡ false
    → waiting (past_of new) ≡ []
idle_turn meaning stands lane old new None then_in_hand t right fits is e answers going =
    let rules = rules_of meaning old in
    let past = past_of old in
    let adds : IsIdle rules past × (is.entries ≡ []) =
    subst (λ (some : TurnEnd). AddsBegin rules past lane is.entries some) e is.adds in
    let same : new ≡ old = is.new_is ∙ ap (λ entries. grown old entries) adds.1 ∙ grown_none old in
    let none_wait : ready rules past ≡ [] = rw same at answers in
    let still : is_halted past ≡ false = rw same at going in
    ap (λ core. waiting (past_of core)) same ∙ nothing_waits rules past right fits adds.0 none_wait still
idle_turn meaning stands lane old new (Some run) then_in_hand t right fits is e answers going =
    absurd (rw e at is.adds)
