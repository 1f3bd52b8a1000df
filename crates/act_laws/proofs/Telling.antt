-- Environments that note the terminators that are entered: what is done enters them as it should.
use Rattle.std.proofs.Common.{ℕ, ◌-◌, nat_lt, ◌≡◌, Bool, true, false, if◌then◌else◌, Option, None}
use Rattle.std.proofs.Common.{refl, sym, ap, subst, ◌∙◌}
use Rattle.vb_value.specs.declared.limit.LimitKind.TheVariants.{Ticks}
use Rattle.vb_syntax.specs.declared.program.Program.{Program}
use Rattle.vb_heap.specs.Store.{numbered}
use Rattle.vb_meaning.specs.declared.cause.Cause.{Cause}
use Rattle.vb_meaning.specs.declared.stop.Stop.TheVariants as stop
use Rattle.vb_meaning.specs.World.{World}
use Rattle.vb_meaning.specs.Errors.{in_line, raised_by, resumed, tick, with_err}
use Rattle.vb_meaning.specs.State.{Does, State, lifted}
use Rattle.vb_meaning.specs.Step.{Step, Returns, Ends, and_then}
use Rattle.act_laws.specs.Entries.{AreOf, EntersEach, Notes}
use Rattle.act_laws.specs.Objects.{AddsUp, Kept, Onward, Settled, account_at}
use Rattle.vb_meaning.specs.Step.{state_of}
use Rattle.act_laws.proofs.Accounts.{onward_still, settled_still}
use Rattle.act_laws.proofs.Entering.{Stay, enters_then, right_on, stay_enters, still_enters}
use Rattle.act_laws.proofs.Keeping.{Keeps, kept_onward, told}

-- where an environment keeps its notes, and the program whose terminators they are of
pub record Telling (F : Type 0) : Type 0 where
  pub notes : F → Notes
  pub program : Program

module _ {F : Type 0} (t : Telling F) where
  -- the notes of a state belong to its world
  abbrev pub Right : State F → Type 0
  Right s = AreOf s.world (t.notes s.env)

  -- from a state to a later one, terminators were entered as they should, and the same are being run
  pub record Told (before after : State F) : Type 0 where
    pub enters : EntersEach t.program before.world (t.notes before.env) after.world (t.notes after.env)
    pub running : (t.notes after.env).running ≡ (t.notes before.env).running

  abbrev pub Tells : {A : Type 0} → Does F A → Type 0
  Tells run = (s : State F) → Right s → Told s (state_of (run s))

  -- what is made of a step
  abbrev pub TellsOn : {A B : Type 0} → (Step (State F) A → Step (State F) B) → Type 0
  TellsOn {A} turn = (s : State F) (step : Step (State F) A) → Right s → Kept account_at (account_at s) step
      → Told s (state_of step) → Told s (state_of (turn step))

  pub still_told : (s : State F) → Told s s
  still_told s = record { enters = still_enters t.program s.world (t.notes s.env); running = refl }

  pub told_then : {a b c : State F} → AddsUp (account_at a) → Onward (account_at a) (account_at b)
      → Onward (account_at b) (account_at c) → Told a b → Told b c → Told a c
  told_then {a} {b} {c} right onward later one other = record {
    enters = enters_then t.program a.world b.world c.world (t.notes a.env) (t.notes b.env) (t.notes c.env) right
        onward later one.enters other.enters;
    running = other.running ∙ one.running;
  }

  -- what is said of the objects stays, and so do the notes
  pub stay_told : (s : State F) (world : World) → Stay s.world world → Told s (record s { world = world })
  stay_told s world stay =
      record { enters = stay_enters t.program s.world world (t.notes s.env) stay; running = refl }

  pub right_after : (s after : State F) → Right s → Settled (account_at s) (account_at after) → Told s after
      → Right after
  right_after s after right settled told =
      right_on s.world after.world (t.notes s.env) (t.notes after.env) right settled told.running

  -- ---- a changed world, of which the same is told

  told_stays : (world changed : World) → told changed ≡ told world → Stay world changed
  told_stays world changed same number found is = ap (λ seen. numbered number seen.1) same ∙ is

  pub changed_told : (s after : State F) (world : World) → AddsUp (account_at s)
      → Onward (account_at s) (account_at after) → told world ≡ told after.world → Told s after
      → Told s (record after { world = world })
  changed_told s after world right onward same before = told_then right onward
      (subst (λ account. Onward (account_at after) account) (sym (ap (λ seen. seen.0) same))
      (onward_still (account_at after) onward.adds_up))
      before (stay_told after world (told_stays after.world world same))

  pub moved_tells : {A : Type 0} (change : World → World) → ((world : World) → told (change world) ≡ told world)
      → (run : Does F A) → Keeps account_at run → Tells run → Tells (λ s. run (record s { world = change s.world }))
  moved_tells change same run keeps tells s right =
      let moved = record s { world = change s.world } in
      let account = ap (λ seen. seen.0) (same s.world) in
      let settled : Settled (account_at s) (account_at moved) =
      subst (λ found. Settled (account_at s) found) (sym account) (settled_still (account_at s) right.adds_up) in
      let first : Told s moved = stay_told s (change s.world) (told_stays s.world (change s.world) (same s.world)) in
      let there = right_after s moved right settled first in
      told_then right.adds_up settled.onward
      (kept_onward account_at (account_at moved) (run moved) (keeps moved there.adds_up)) first (tells moved there)

  -- ---- steps

  pub next_tells : {A B : Type 0} (next : A → Does F B) → ((value : A) → Keeps account_at (next value))
      → ((value : A) → Tells (next value)) → TellsOn (λ (step : Step (State F) A). and_then step next)
  next_tells next keeps tells s (Returns value after) right kept before =
      let there = right_after s after right kept before in
      told_then right.adds_up kept.onward
      (kept_onward account_at (account_at after) (next value after) (keeps value after there.adds_up))
      before (tells value after there)
  next_tells next keeps tells s (Ends why after) right kept before = before

  pub line_tells : {A : Type 0} (line : ℕ) → TellsOn {A = A} (in_line line)
  line_tells line s (Returns value after) right kept before = before
  line_tells line s (Ends why after) right kept before = before

  resumed_error : {A : Type 0} (instead : A) (what : Cause) (line : Option ℕ) (s after : State F) (resumes : Bool)
      → AddsUp (account_at s) → Onward (account_at s) (account_at after) → Told s after
      → Told s (state_of {S = State F} {A = A}
      (if resumes then Returns instead (record after { world = with_err (raised_by what) after.world })
      else Ends (stop.Error what line) after))
  resumed_error instead what line s after true right onward before =
      changed_told s after (with_err (raised_by what) after.world) right onward refl before
  resumed_error instead what line s after false right onward before = before

  pub resumed_tells : {A : Type 0} (instead : A) → TellsOn (resumed instead)
  resumed_tells instead s (Returns value after) right kept before = before
  resumed_tells instead s (Ends (stop.Error what line) after) right kept before =
      resumed_error instead what line s after after.world.frame.resumes right.adds_up kept.onward before
  resumed_tells instead s (Ends (stop.Limit kind line) after) right kept before = before
  resumed_tells instead s (Ends stop.Page after) right kept before = before
  resumed_tells instead s (Ends (stop.Wants call) after) right kept before = before
  resumed_tells instead s (Ends stop.Memory after) right kept before = before

  -- a step of the world, in a state
  pub lifted_tells : {A : Type 0} (s : State F) (step : Step World A) → Stay s.world (state_of step)
      → Told s (state_of (lifted s step))
  lifted_tells s (Returns value world) stay = stay_told s world stay
  lifted_tells s (Ends why world) stay = stay_told s world stay

  -- a tick
  pub tick_tells : (s : State F) → Told s (state_of (tick s))
  unfolding tick
  tick_tells s = taken (nat_lt 0 s.ticks)
    where
      taken : (left : Bool) → Told s (state_of {S = State F} {A = Unit {0}}
          (if left then Returns tt (record s { ticks = s.ticks - 1 }) else Ends (stop.Limit Ticks None) s))
      taken true = record { enters = still_enters t.program s.world (t.notes s.env); running = refl }
      taken false = still_told s
