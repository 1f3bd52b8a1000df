-- Slices and looks, one after another.
use Rattle.std.proofs.Common.{◌≡◌, ℕ, zero, suc, true, false, refl, ap, sym, ◌∙◌, subst, inl, inr, reverse}
use Rattle.asp_job.specs.Running.{Pace}
use Rattle.asp_job.specs.Told.{Meaning, Told}
use Rattle.asp_job.specs.declared.entry.Entry.{Entry}
use Rattle.asp_core.specs.Kernel.{RunView}
use Rattle.asp_desk.specs.declared.looking.Looked.{Looked}
use Rattle.asp_desk.specs.declared.slices.Slice.{Slice}
use Rattle.asp_desk.specs.declared.slices.Slice.TheVariants as slice
use Rattle.asp_desk.specs.Calls.{looked_of}
use Rattle.asp_desk.specs.Hands.{Fixed, HandView, HostView, rules_at}
use Rattle.asp_desk.specs.Loops.{AreRounds, HasLooped, IsLook, is_last, is_over}
use Rattle.asp_desk.specs.Slices.{IsSlice}

module _ {R Site State : Type 0} (pace : R → Pace) (meaning : R → Site → Meaning)
    (stands : R → Site → State → Told → ℕ → Type 0) (host : HostView R Site) (may_hold : ℕ → Type 0) where
  abbrev Hand : Type 0
  Hand = HandView Entry (Fixed R Site) (RunView State)

  abbrev Rounds : ℕ → Hand → Hand → Type 0
  Rounds = AreRounds pace meaning stands host may_hold

  abbrev Looped : Hand → Slice → Hand → Type 0
  Looped = HasLooped pace meaning stands host may_hold

  joined : (first mid last : Hand) (count more : ℕ) → Rounds count first mid → Rounds more mid last
      → (both : ℕ) × Rounds both first last
  joined first mid last count zero rounds rest = (count, subst (Rounds count first) (sym rest) rounds)
  joined first mid last count (suc more) rounds rest =
      let before = joined first mid rest.0 count more rounds rest.1 in
      (suc before.0, (rest.0, before.1, rest.2))

  -- more rounds come behind
  pub rounds_then : (first mid last : Hand) → ((count : ℕ) × Rounds count first mid)
      → ((count : ℕ) × Rounds count mid last) → (count : ℕ) × Rounds count first last
  rounds_then first mid last rounds rest = joined first mid last rounds.0 rest.0 rounds.1 rest.1

  -- the last ones come behind
  pub looped_then : (first mid last : Hand) (came_to : Slice) → ((count : ℕ) × Rounds count first mid)
      → Looped mid came_to last → Looped first came_to last
  looped_then first mid last came_to rounds rest =
      let all = rounds_then first mid rest.mid rounds (rest.count, rest.rounds) in
      record { count = all.0; mid = rest.mid; rounds = all.1; last = rest.last }

  pub one_slice : (old new : Hand) (came_to : Slice) → is_last came_to ≡ false
      → IsSlice pace meaning stands host may_hold old came_to new → (count : ℕ) × Rounds count old new
  one_slice old new came_to more is = (suc zero, (old, refl, inl (came_to, more, is)))

  pub slice_and_look : (old mid new : Hand) (came_to : Slice) (looked : Looked)
      → is_last came_to ≡ false → IsSlice pace meaning stands host may_hold old came_to mid
      → IsLook pace meaning stands host mid looked new → (count : ℕ) × Rounds count old new
  slice_and_look old mid new came_to looked more is look =
      (suc (suc zero), (mid, (old, refl, inl (came_to, more, is)), inr (looked, look)))

  pub ends_idle : (old mid new : Hand) (looked : Looked)
      → IsSlice pace meaning stands host may_hold old slice.Idle mid
      → IsLook pace meaning stands host mid looked new → is_over looked ≡ true → Looped old slice.Idle new
  ends_idle old mid new looked is look over = record {
    count = suc zero;
    mid = mid;
    rounds = (old, refl, inl (slice.Idle, refl, is));
    last = inl (
      refl,
      (looked, look),
      ap (λ journal. is_over (looked_of (rules_at meaning host) (reverse journal))) look.turn.done.0
          ∙ ap is_over (sym look.turn.done.1) ∙ over,
    );
  }

  pub ends_so : (old new : Hand) (came_to : Slice) → is_last came_to ≡ true
      → IsSlice pace meaning stands host may_hold old came_to new → Looped old came_to new
  ends_so old new came_to last is = record { count = zero; mid = old; rounds = refl; last = inr (last, is) }
