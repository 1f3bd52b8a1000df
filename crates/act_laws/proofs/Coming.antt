-- What comes of terminators, of release points and of the page's end: how the account of objects goes on.
use Rattle.std.proofs.Common.{ℕ, ◌+◌, ◌≡◌, ◌<◌, Bool, true, false, Some, None, sym, subst, arith}
use Rattle.vb_value.specs.declared.value.Value.{Value}
use Rattle.vb_meaning.specs.declared.stop.Stop.TheVariants as stop
use Rattle.vb_meaning.specs.World.{World}
use Rattle.vb_meaning.specs.Errors.{in_line}
use Rattle.vb_meaning.specs.Releases.{ended, in_world, stopped, terminated}
use Rattle.vb_meaning.specs.State.{State, Does}
use Rattle.vb_meaning.specs.Step.{Step, Returns, Ends, and_then}
use Rattle.act_laws.specs.Objects.{Account, AddsUp, IsEnding, IsLive, Kept, Onward, Settled, account_at, account_of}
use Rattle.act_laws.proofs.Accounts.{mark_onward, onward_then, settled_one, settled_then, with_end, with_mark}
use Rattle.act_laws.proofs.Marks.{ended_gone}

-- from where a terminator has begun to where its object has ended
pub record Ran (object : ℕ) (before after : Account) : Type 0 where
  pub last : Account
  pub settled : Settled before last
  pub is : after ≡ with_end object last

ended_ran : (object : ℕ) (before : World) (a : Account) (world : World) → IsEnding object a
    → Settled a (account_of world) → Ran object a (account_of (ended object before world))
ended_ran object before a world ends kept = record {
  last = account_of world;
  settled = kept;
  is = ended_gone world.store object world.finished (world.finished + 1) (kept.stays object ends);
}

-- an object has ended, and more have ended than before
abbrev pub Later : Account → Account → Type 0
Later before after = Settled before after × (before.finished < after.finished)

ran_later : (object : ℕ) (before after : Account) → AddsUp before → IsLive object before
    → Ran object (with_mark object before) after → Later before after
ran_later object before after right live ran = subst (λ account. Later before account) (sym ran.is) (
  settled_one before ran.last object right live ran.settled,
  (let more = ran.settled.onward.finished in omega (arith, more)),
)

module _ {E : Type 0} where
  -- what comes of a terminator
  abbrev pub Outcome : ℕ → Account → Step (State E) (Unit {0}) → Type 0
  Outcome object before (Returns done s) = Ran object before (account_at s)
  Outcome object before (Ends stop.Page s) = Ran object before (account_at s)
  Outcome object before (Ends (stop.Error what line) s) = ⊥
  Outcome object before (Ends (stop.Limit kind line) s) = Onward before (account_at s)
  Outcome object before (Ends (stop.Wants call) s) = Onward before (account_at s)
  Outcome object before (Ends stop.Memory s) = Onward before (account_at s)

  stopped_out : (object : ℕ) (a : Account) (page_ended : Bool) (s : State E) → Ran object a (account_at s)
      → Outcome object a (stopped E page_ended s)
  stopped_out object a true s ran = ran
  stopped_out object a false s ran = ran

  pub terminated_out : (object : ℕ) (before : World) (a : Account) → IsEnding object a → (step : Step (State E) Value)
      → Kept account_at a step → Outcome object a (terminated E object before step)
  terminated_out object before a ends (Returns value s) kept = ended_ran object before a s.world ends kept
  terminated_out object before a ends (Ends (stop.Error what line) s) kept =
      ended_ran object before a s.world ends kept
  terminated_out object before a ends (Ends stop.Page s) kept = stopped_out object a before.page_ended
      (in_world E (ended object before s.world) s) (ended_ran object before a s.world ends kept)
  terminated_out object before a ends (Ends (stop.Limit kind line) s) kept = kept
  terminated_out object before a ends (Ends (stop.Wants call) s) kept = kept
  terminated_out object before a ends (Ends stop.Memory s) kept = kept

  -- a step that no page stop ended
  abbrev pub NoStop : Step (State E) (Unit {0}) → Type 0
  NoStop (Returns done s) = Unit {0}
  NoStop (Ends stop.Page s) = ⊥
  NoStop (Ends (stop.Error what line) s) = Unit {0}
  NoStop (Ends (stop.Limit kind line) s) = Unit {0}
  NoStop (Ends (stop.Wants call) s) = Unit {0}
  NoStop (Ends stop.Memory s) = Unit {0}

  stopped_here : (page_ended : Bool) (s : State E) → page_ended ≡ true → NoStop (stopped E page_ended s)
  stopped_here true s is = tt
  stopped_here false s is = absurd (cc)

  -- a terminator behind the page's end
  pub ends_alone : (object : ℕ) (before : World) (step : Step (State E) Value) → before.page_ended ≡ true
      → NoStop (terminated E object before step)
  ends_alone object before (Returns value s) is = tt
  ends_alone object before (Ends (stop.Error what line) s) is = tt
  ends_alone object before (Ends stop.Page s) is =
      stopped_here before.page_ended (in_world E (ended object before s.world) s) is
  ends_alone object before (Ends (stop.Limit kind line) s) is = tt
  ends_alone object before (Ends (stop.Wants call) s) is = tt
  ends_alone object before (Ends stop.Memory s) is = tt

  -- what comes of a live object that ends
  abbrev pub One : Account → Step (State E) (Unit {0}) → Type 0
  One before (Returns done s) = Later before (account_at s)
  One before (Ends stop.Page s) = Later before (account_at s)
  One before (Ends (stop.Error what line) s) = ⊥
  One before (Ends (stop.Limit kind line) s) = Onward before (account_at s)
  One before (Ends (stop.Wants call) s) = Onward before (account_at s)
  One before (Ends stop.Memory s) = Onward before (account_at s)

  pub one_out : (object : ℕ) (before : Account) → AddsUp before → IsLive object before
      → (step : Step (State E) (Unit {0})) → Outcome object (with_mark object before) step → One before step
  one_out object before right live (Returns done s) out = ran_later object before (account_at s) right live out
  one_out object before right live (Ends stop.Page s) out = ran_later object before (account_at s) right live out
  one_out object before right live (Ends (stop.Error what line) s) out = out
  one_out object before right live (Ends (stop.Limit kind line) s) out =
      onward_then (mark_onward before object right live) out
  one_out object before right live (Ends (stop.Wants call) s) out =
      onward_then (mark_onward before object right live) out
  one_out object before right live (Ends stop.Memory s) out =
      onward_then (mark_onward before object right live) out

  -- What comes of a release point or of the page's end: no error, a page stop if it may come, and a fact of the state
  -- where it comes to its end.
  abbrev pub Comes : Type 0 → (State E → Type 0) → Account → Step (State E) (Unit {0}) → Type 0
  Comes stops P before (Returns done s) = Settled before (account_at s) × P s
  Comes stops P before (Ends stop.Page s) = stops × Settled before (account_at s)
  Comes stops P before (Ends (stop.Error what line) s) = ⊥
  Comes stops P before (Ends (stop.Limit kind line) s) = Onward before (account_at s)
  Comes stops P before (Ends (stop.Wants call) s) = Onward before (account_at s)
  Comes stops P before (Ends stop.Memory s) = Onward before (account_at s)

  pub comes_kept : (stops : Type 0) (P : State E → Type 0) (before : Account) (step : Step (State E) (Unit {0}))
      → Comes stops P before step → Kept account_at before step
  comes_kept stops P before (Returns done s) comes = comes.0
  comes_kept stops P before (Ends stop.Page s) comes = comes.1
  comes_kept stops P before (Ends (stop.Error what line) s) comes = absurd comes
  comes_kept stops P before (Ends (stop.Limit kind line) s) comes = comes
  comes_kept stops P before (Ends (stop.Wants call) s) comes = comes
  comes_kept stops P before (Ends stop.Memory s) comes = comes

  comes_from : (stops : Type 0) (P : State E → Type 0) {a b : Account} → Settled a b
      → (step : Step (State E) (Unit {0})) → Comes stops P b step → Comes stops P a step
  comes_from stops P before (Returns done s) comes = (settled_then before comes.0, comes.1)
  comes_from stops P before (Ends stop.Page s) comes = (comes.0, settled_then before comes.1)
  comes_from stops P before (Ends (stop.Error what line) s) comes = comes
  comes_from stops P before (Ends (stop.Limit kind line) s) comes = onward_then before.onward comes
  comes_from stops P before (Ends (stop.Wants call) s) comes = onward_then before.onward comes
  comes_from stops P before (Ends stop.Memory s) comes = onward_then before.onward comes

  -- one after the other
  pub comes_then : (stops : Type 0) (P Q : State E → Type 0) (next : Does E (Unit {0})) (before : Account)
      (step : Step (State E) (Unit {0})) → Comes stops P before step
      → ((s : State E) → Settled before (account_at s) → P s → Comes stops Q (account_at s) (next s))
      → Comes stops Q before (and_then step (λ done. next))
  comes_then stops P Q next before (Returns done s) comes after =
      comes_from stops Q comes.0 (next s) (after s comes.0 comes.1)
  comes_then stops P Q next before (Ends stop.Page s) comes after = comes
  comes_then stops P Q next before (Ends (stop.Error what line) s) comes after = absurd comes
  comes_then stops P Q next before (Ends (stop.Limit kind line) s) comes after = comes
  comes_then stops P Q next before (Ends (stop.Wants call) s) comes after = comes
  comes_then stops P Q next before (Ends stop.Memory s) comes after = comes

  -- a live object that ends
  pub one_comes : (before : Account) (step : Step (State E) (Unit {0})) → One before step
      → Comes (Unit {0}) (λ s. before.finished < s.world.finished) before step
  one_comes before (Returns done s) one = one
  one_comes before (Ends stop.Page s) one = (tt, one.0)
  one_comes before (Ends (stop.Error what line) s) one = absurd one
  one_comes before (Ends (stop.Limit kind line) s) one = one
  one_comes before (Ends (stop.Wants call) s) one = one
  one_comes before (Ends stop.Memory s) one = one

  -- the same in a line of its own, where no page stop comes
  pub one_closes : (line : ℕ) (before : Account) (step : Step (State E) (Unit {0})) → One before step → NoStop step
      → Comes ⊥ (λ s. before.finished < s.world.finished) before (in_line line step)
  one_closes line before (Returns done s) one none = one
  one_closes line before (Ends stop.Page s) one none = absurd none
  one_closes line before (Ends (stop.Error what at) s) one none = absurd one
  one_closes line before (Ends (stop.Limit kind None) s) one none = one
  one_closes line before (Ends (stop.Limit kind (Some at)) s) one none = one
  one_closes line before (Ends (stop.Wants call) s) one none = one
  one_closes line before (Ends stop.Memory s) one none = one
