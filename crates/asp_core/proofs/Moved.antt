-- A run that was moved out of a core stays one of the core's while others go on.
use Rattle.std.proofs.Common.{ℕ, List, ap, sym, ◌∙◌, subst}
use Rattle.asp_job.specs.declared.entry.Entry.{Entry}
use Rattle.asp_job.specs.Journal.{AreRight, past_after}
use Rattle.asp_job.specs.Told.{Told, Meaning}
use Rattle.asp_core.specs.Kernel.{CoreView, IsRunOf, RunView, StandsFor, grown, past_of, rules_of}
use Rattle.asp_core.specs.Laws.{AreNoSteps, AreOfOthers, RunStays}
use Rattle.asp_core.specs.Standing.{stand_ins}
use Rattle.asp_core.proofs.Kept.{past_of_more}
use Rattle.asp_core.proofs.Staying.{stays, stays_lane}

module _ {R Site State : Type 0} (meaning : R → Site → Meaning) (stands : R → Site → State → Told → ℕ → Type 0)
    (core : CoreView R Site) (entries : List Entry) (lane : ℕ) (run : RunView State) where
  moved : RunStays (rules_of meaning core) (past_of core) (past_after (past_of core) entries) lane run.number
      → IsRunOf meaning stands core lane run → IsRunOf meaning stands (grown core entries) lane run
  moved later one =
      let still : RunStays (rules_of meaning core) (past_of core) (past_of (grown core entries)) lane run.number =
      rw (past_of_more core.journal entries) later in
      record {
        running = still.running;
        stands_for = subst (λ t. StandsFor (stands core.runner core.site) (meaning core.runner core.site) run t)
            (sym still.same) one.stands_for;
        stand_ins_are = one.stand_ins_are ∙ ap (λ (t : Told). stand_ins t.job.work) (sym still.same);
      }

  pub no_steps : AreRight (rules_of meaning core) (past_after (past_of core) entries)
      → IsRunOf meaning stands core lane run → AreNoSteps run.number entries
      → IsRunOf meaning stands (grown core entries) lane run
  no_steps right one none =
      moved (stays (rules_of meaning core) (past_of core) entries lane run.number right one.running none) one

  pub of_others : AreRight (rules_of meaning core) (past_after (past_of core) entries)
      → IsRunOf meaning stands core lane run → AreOfOthers lane entries
      → IsRunOf meaning stands (grown core entries) lane run
  of_others right one others =
      moved (stays_lane (rules_of meaning core) (past_of core) entries lane run.number right one.running others) one
