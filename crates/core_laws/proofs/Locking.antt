-- While a run has the lock, no other run has a call that the lock keeps out.
use Rattle.std.proofs.Common.{◌≡◌, ℕ, ◌==◌, ◌&&◌, Bool, true, false, not, if◌then◌else◌, List, [], ◌∷◌, Option, Some, None}
use Rattle.std.proofs.Common.{refl, ap, sym, ◌∙◌, inl, inr}
use Rattle.std.proofs.lemmas.Bool.{cases_Bool, eqb-true}
use Rattle.vb_value.specs.declared.application.AppCall.{AppCall}
use Rattle.vb_value.specs.declared.application.AppCall.TheVariants as call
use Rattle.vb_value.specs.declared.application.AppReply.{AppReply}
use Rattle.vb_value.specs.declared.application.AppReply.TheVariants as reply
use Rattle.vb_value.specs.declared.value.Value.{Value}
use Rattle.asp_job.specs.declared.entry.What.{What}
use Rattle.asp_job.specs.declared.entry.What.TheVariants.{Queue, Admit, Refuse, Tick, Begin, App, End, Take, Stop, Halt}
use Rattle.asp_job.specs.declared.entry.Entry.{Entry}
use Rattle.asp_job.specs.Application.{AppState, apply, blocker_of, freed, has_lock, is_full, with_value}
use Rattle.asp_job.specs.History.{held_by, with_lane}
use Rattle.asp_job.specs.Journal.{IsRight, AreRight, past_after}
use Rattle.asp_job.specs.Rules.{Rules}
use Rattle.asp_core.specs.Laws.{NoneIs}
use Rattle.core_laws.specs.Locks.{is_release_of, is_kept_out}

-- a run that has not the lock does not let it go
freed_other : (held : AppState) (run r : ℕ) → held.holder ≡ Some r → (r == run) ≡ false → (freed run held).holder
    ≡ Some r
freed_other held run r h e = (let same : has_lock run held ≡ false = rw h e in rw same h)

-- who has the lock after a call
holder_after : AppState × AppReply → Option ℕ
holder_after pair = pair.0.holder

put_holder : (b : Bool) (held : AppState) (entries : List (List ℕ × Value))
    → holder_after (if b then (held, reply.Full) else (record held { entries = entries }, reply.Done)) ≡ held.holder
unfolding holder_after
put_holder true held entries = refl
put_holder false held entries = refl

-- a call that the lock keeps out is the holder's own
own_call : (held : AppState) (run r : ℕ) (guarded : AppCall) → held.holder ≡ Some r → (r == run) ≡ false
    → (if has_lock run held then None else held.holder) ≡ None → ⊥
own_call held run r guarded h other b = (let same : has_lock run held ≡ false = rw h other in let blocked =
    rw (same, h) at b in cc)

-- a read that the lock does not keep out is the holder's own, or the rule is the plain one
read_keeps : (strict : Bool) (held : AppState) (run r : ℕ) → held.holder ≡ Some r
    → (if has_lock run held then None else if strict then held.holder else None) ≡ None
    → (strict && not (r == run)) ≡ false
read_keeps false held run r h b = refl
read_keeps true held run r h b = elim (cases_Bool (r == run)) [
  | inl own ↦ ap not own
  | inr other ↦ absurd (own_call held run r call.Lock h other b)
]

-- one call
call_keeps : (strict : Bool) (held : AppState) (run r : ℕ) (made : AppCall) (given : AppReply) → held.holder ≡ Some r
    → blocker_of strict held run made ≡ None → is_release_of r (App run made given) ≡ false
    → (is_kept_out strict r (App run made given) ≡ false) × ((apply held run made).0.holder ≡ Some r)
unfolding holder_after
call_keeps strict held run r (call.Get name) given h b e = (read_keeps strict held run r h b, h)
call_keeps strict held run r call.Count given h b e = (read_keeps strict held run r h b, h)
call_keeps strict held run r (call.KeyAt place) given h b e = (read_keeps strict held run r h b, h)
call_keeps strict held run r call.Names given h b e = (read_keeps strict held run r h b, h)
call_keeps strict held run r call.Unlock given h b e = (refl, freed_other held run r h e)
call_keeps strict held run r (call.Put name value) given h b e = elim (cases_Bool (r == run)) [
  | inl own ↦ (
    ap not own,
    put_holder (is_full (with_value name value held.entries)) held
        (with_value name value held.entries) ∙ h,
  )
  | inr other ↦ absurd (own_call held run r call.Lock h other b)
]
call_keeps strict held run r (call.Remove name) given h b e = elim (cases_Bool (r == run)) [
  | inl own ↦ (ap not own, h)
  | inr other ↦ absurd (own_call held run r call.Lock h other b)
]
call_keeps strict held run r call.RemoveAll given h b e = elim (cases_Bool (r == run)) [
  | inl own ↦ (ap not own, h)
  | inr other ↦ absurd (own_call held run r call.Lock h other b)
]
call_keeps strict held run r call.Lock given h b e = elim (cases_Bool (r == run)) [
  | inl own ↦ (ap not own, ap (λ n. Some n) (sym (eqb-true r run own)))
  | inr other ↦ absurd (own_call held run r call.Lock h other b)
]

one_keeps : (m : Rules) (past : List Entry) (lane r : ℕ) (what : What) → IsRight m past (with_lane lane what)
    → (held_by past).holder ≡ Some r → is_release_of r what ≡ false → (is_kept_out m.strict r what ≡ false)
    × ((held_by (with_lane lane what ∷ past)).holder ≡ Some r)
one_keeps m past lane r (Queue run work key) right h e = (refl, h)
one_keeps m past lane r (Admit run key fresh job) right h e = (refl, h)
one_keeps m past lane r (Refuse run job) right h e = (refl, h)
one_keeps m past lane r (Tick moment) right h e = (refl, h)
one_keeps m past lane r (Begin run serial) right h e = (refl, h)
one_keeps m past lane r (App run made given) right h e =
    call_keeps m.strict (held_by past) run r made given h right.legal.0 e
one_keeps m past lane r (End run kind status size n1 n2) right h e = (refl, freed_other (held_by past) run r h e)
one_keeps m past lane r (Take run) right h e = (refl, h)
one_keeps m past lane r Stop right h e = (refl, h)
one_keeps m past lane r Halt right h e = (refl, h)

right_before : (m : Rules) (past entries : List Entry) → AreRight m (past_after past entries) → AreRight m past
right_before m past [] right = right
right_before m past (entry ∷ entries) right = (right_before m (entry ∷ past) entries right).1

-- between a Lock of a run and its Unlock or End no other run has a call that the lock keeps out
pub lock_holds : (m : Rules) (past entries : List Entry) (r : ℕ) → AreRight m (past_after past entries)
    → (held_by past).holder ≡ Some r → NoneIs (is_release_of r) entries → NoneIs (is_kept_out m.strict r) entries
lock_holds m past [] r right h none = tt
lock_holds m past (entry ∷ entries) r right h none =
    let one = one_keeps m past entry.lane r entry.what (right_before m (entry ∷ past) entries right).0 h none.0 in
    (one.0, lock_holds m (entry ∷ past) entries r right one.1 none.1)
