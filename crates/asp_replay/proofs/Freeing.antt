-- A hand that has taken slices until nothing was left to do holds no run.
use Rattle.std.proofs.Common.{◌≡◌, ℕ, ◌==◌, ◌&&◌, ◌||◌, Bool, true, false, List, [], Option, Some, None, refl, ap, sym, ◌∙◌}
use Rattle.std.proofs.Common.{inl, inr, reverse, length}
use Rattle.std.proofs.lemmas.Bool.{eqb-true}
use Rattle.asp_core.specs.Kernel.{CoreView, RunView, past_of, rules_of}
use Rattle.asp_desk.specs.declared.slices.Slice.{Slice}
use Rattle.asp_desk.specs.declared.slices.Slice.TheVariants as slice
use Rattle.asp_desk.specs.declared.steps.Stepped.{Stepped}
use Rattle.asp_desk.specs.declared.steps.Stepped.TheVariants as step
use Rattle.asp_desk.specs.Calls.{looked_of}
use Rattle.asp_desk.specs.Hands.{Fixed, HandView, Holds, HostView, IsHandOf, core_at, rules_at}
use Rattle.asp_desk.specs.Loops.{HasLooped, IsLast, is_last, is_over}
use Rattle.asp_desk.specs.Slices.{HasStepped, IsSlice, Works, slice_of}
use Rattle.asp_job.specs.declared.entry.Entry.{Entry}
use Rattle.asp_job.specs.Running.{Pace}
use Rattle.asp_job.specs.Rules.{Rules}
use Rattle.asp_job.specs.Runs.{is_halted, is_stopping, unfinished, waiting}
use Rattle.asp_job.specs.Told.{Meaning, Told}
use Rattle.asp_lane.proofs.Unfinished.{not_unfinished}
use Rattle.asp_replay.proofs.OneTurn.{nothing_is}

and_right : (a b : Bool) → a && b ≡ true → b ≡ true
and_right true b e = e
and_right false b e = absurd cc

over_none : (m : Rules) (past : List Entry) → is_over (looked_of m past) ≡ true → unfinished past ≡ []
over_none m past over = nothing_is (unfinished past) (eqb-true (length (unfinished past)) 0
    (and_right (is_stopping past && length (waiting past) == 0 || is_halted past) (length (unfinished past) == 0) over))

module _ {R Site State : Type 0} (meaning : R → Site → Meaning) (stands : R → Site → State → Told → ℕ → Type 0) where
  -- where no run is unfinished none is held
  pub none_held : (core : CoreView R Site) (lane : ℕ) (held : Option (RunView State)) → Holds meaning stands core lane held
      → unfinished (past_of core) ≡ [] → held ≡ None
  none_held core lane None holds none = refl
  none_held core lane (Some run) holds none =
      absurd (let idle = not_unfinished (rules_of meaning core) (past_of core) holds.valid.entries none run.number in
      let both : true ≡ false = sym holds.run_is.running.unfinished ∙ idle in cc)

module _ {R Site State : Type 0} (pace : R → Pace) (meaning : R → Site → Meaning)
    (stands : R → Site → State → Told → ℕ → Type 0) (host : HostView R Site) (may_hold : ℕ → Type 0) where
  abbrev Hand : Type 0
  Hand = HandView Entry (Fixed R Site) (RunView State)

  not_last : (came_to : Slice) (is : Slice) → came_to ≡ is → is_last is ≡ false → is_last came_to ≡ true → ⊥
  not_last came_to is same more last = let both : true ≡ false = sym last ∙ ap is_last same ∙ more in cc

  stepped_free : (a b : Hand) (came_to : Slice) (stepped : Stepped) → came_to ≡ slice_of stepped
      → is_last came_to ≡ true → HasStepped pace meaning stands host a stepped b → b.run ≡ None
  stepped_free a b came_to step.Called is last has = absurd (not_last came_to slice.Worked is refl last)
  stepped_free a b came_to step.Ended is last has = absurd (not_last came_to slice.Worked is refl last)
  stepped_free a b came_to (step.Blocked holder) is last has =
      absurd (not_last came_to (slice.Blocked holder) is refl last)
  stepped_free a b came_to (step.JournalFull full) is last has = has.leaves

  works_free : (a b : Hand) (came_to : Slice) → is_last came_to ≡ true
      → Works pace meaning stands host may_hold a came_to b → b.run ≡ None
  works_free a b came_to last (inl held) = absurd (not_last came_to slice.Held held.1 refl last)
  works_free a b came_to last (inr (inl more)) = absurd (not_last came_to slice.Worked more.1 refl last)
  works_free a b came_to last (inr (inr (paused, stepped, gone, has, is))) =
      stepped_free paused b came_to stepped is last has

  slice_free : (a b : Hand) (came_to : Slice) → is_last came_to ≡ true
      → IsSlice pace meaning stands host may_hold a came_to b → b.run ≡ None
  slice_free a b came_to last (inl (why, refused, is)) = refused.is_free
  slice_free a b came_to last (inr (ready, is, works)) = works_free ready b came_to last works

  last_free : (a b : Hand) (came_to : Slice) → IsHandOf meaning stands host b
      → IsLast pace meaning stands host may_hold a came_to b → b.run ≡ None
  last_free a b came_to of (inl (idle, look, over)) =
      none_held meaning stands (core_at host b.lane.seen) b.lane.number b.run of.1
      (over_none (rules_at meaning host) (reverse b.lane.seen) over)
  last_free a b came_to of (inr (last, is)) = slice_free a b came_to last is

  pub looped_free : (a b : Hand) (came_to : Slice) → IsHandOf meaning stands host b
      → HasLooped pace meaning stands host may_hold a came_to b → b.run ≡ None
  looped_free a b came_to of looped = last_free looped.mid b came_to of looped.last
