-- The ticks of a run in a turn of a lane. All of it is the product's own.
use Rattle.std.specs.Prelude.{◌≡◌, ◌⊎◌, ℕ, ◌+◌, [], ◌∷◌, Option, Some, None, IfSome}
use Rattle.asp_job.specs.declared.entry.EndKind.TheVariants as kind
use Rattle.asp_job.specs.Journal.{end_entry}
use Rattle.asp_job.specs.Keys.{told}
use Rattle.asp_job.specs.Running.{Pace, EndsSlice, IsWithinSlice}
use Rattle.asp_job.specs.Told.{Meaning, Told}
use Rattle.asp_core.specs.Kernel.{CoreView, RunView, grown, past_of, rules_of}
use Rattle.asp_job.specs.declared.entry.TheConstants.{QUANTUM}
use Rattle.asp_lane.specs.declared.turn.TurnEnd.{TurnEnd}
use Rattle.asp_lane.specs.declared.turn.TurnEnd.TheVariants as turn

-- Of a run that had spent so many ticks: where it has more to do after a turn, the ticks of the turn were too few for
-- what comes next, and where it made its call or ended, they were enough.
abbrev pub EndsInTurn : Pace → ℕ → ℕ → TurnEnd → Type 0
EndsInTurn pace spent needed turn.More = EndsSlice pace (spent + QUANTUM) needed
EndsInTurn pace spent needed _ = IsWithinSlice pace (spent + QUANTUM) needed

-- A run that had spent so many ticks has more to do after a turn only where those of the turn were too few, and it has
-- spent them; and they were enough where it has not, unless it ended for want of memory.
pub record IsTimely {R Site State : Type 0} (pace : R → Pace) (meaning : R → Site → Meaning)
    (stands : R → Site → State → Told → ℕ → Type 0) (lane : ℕ) (old : CoreView R Site) (run : RunView State)
    (new : CoreView R Site) (then_in_hand : Option (RunView State)) (came_to : TurnEnd) (spent : ℕ) : Type 0 where
  pub ends : (new ≡ grown old (end_entry (rules_of meaning old) (past_of old) lane run.number kind.Memory ∷ []))
      ⊎ EndsInTurn (pace old.runner) spent
      ((meaning old.runner old.site).ticks (told (rules_of meaning old) (past_of old) run.number)) came_to
  pub goes_on : came_to ≡ turn.More → IfSome then_in_hand (λ next. stands old.runner old.site next.state
      (told (rules_of meaning old) (past_of old) run.number) (spent + QUANTUM))

-- so is the run in hand, if there is one, whatever it had spent
abbrev pub SpendsTicks : {R Site State : Type 0} → (R → Pace) → (R → Site → Meaning) →
    (R → Site → State → Told → ℕ → Type 0) → ℕ → CoreView R Site → Option (RunView State) → CoreView R Site →
    Option (RunView State) → TurnEnd → Type 0
SpendsTicks pace meaning stands lane old None new then_in_hand came_to = Unit {0}
SpendsTicks pace meaning stands lane old (Some run) new then_in_hand came_to =
    (spent : ℕ) → stands old.runner old.site run.state (told (rules_of meaning old) (past_of old) run.number) spent
    → IsTimely pace meaning stands lane old run new then_in_hand came_to spent
