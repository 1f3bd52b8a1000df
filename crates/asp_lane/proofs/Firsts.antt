-- The first run of a host.
use Rattle.std.proofs.Common.{◌≡◌, ℕ, ◌<◌, ◌≤◌, List, [], Option, ap, arith, refl, reverse, subst, sym, ◌∙◌}
use Rattle.asp_core.proofs.Least.{are_numbered}
use Rattle.asp_core.specs.Kernel.{CoreView, past_of, rules_of}
use Rattle.asp_core.specs.Start.{start_fail}
use Rattle.asp_job.specs.declared.answer.Fail.{Fail}
use Rattle.asp_job.specs.declared.entry.Entry.{Entry}
use Rattle.asp_job.specs.Journal.{AreRight, IsValidJournal}
use Rattle.asp_job.specs.Rules.{Rules}
use Rattle.asp_job.specs.Runs.{unfinished}
use Rattle.asp_job.specs.Told.{Meaning}
use Rattle.asp_lane.proofs.Growing.{rules_grown}
use Rattle.asp_lane.specs.Course.{GoesThrough}
use Rattle.asp_lane.specs.declared.stop.RunStop.{RunStop}
use Rattle.asp_lane.specs.First.{HasBegun, first_past}
use Rattle.asp_lane.specs.Underway.{Grows, IsRunStop}

-- no other run is next
first_run : (rules : Rules) (lane run : ℕ) (to : List Entry) → GoesThrough rules lane (first_past lane) run to → run ≡ 1
first_run rules lane run to through =
    let right : AreRight rules (first_past lane) = (record { turn = (refl, tt); legal = tt; follows = tt }, tt) in
    let begins = through.under_way.begins.next.next.begins in
    let bounds : (0 < run) × (run ≤ 1) = are_numbered rules (first_past lane) right run begins in
    omega arith

module _ {R Site : Type 0} where
  first_is : (core : CoreView R Site) (lane : ℕ) → core.journal ≡ first_past lane → past_of core ≡ first_past lane
  first_is core lane first = ap (λ (journal : List Entry). reverse journal) first

  pub free_first : (core : CoreView R Site) (lane : ℕ) → core.journal ≡ first_past lane → unfinished (past_of core) ≡ []
  free_first core lane first = ap unfinished (first_is core lane first)

  pub begun_first : (meaning : R → Site → Meaning) (old new : CoreView R Site) (lane run : ℕ) (fail : Option Fail)
      → old.journal ≡ first_past lane → Grows old new
      → GoesThrough (rules_of meaning old) lane (past_of old) run (past_of new)
      → IsValidJournal (rules_of meaning new) (past_of new)
      → fail ≡ start_fail (rules_of meaning new) (past_of new)
      → HasBegun (rules_of meaning old) lane fail (past_of new)
  begun_first meaning old new lane run fail first grows through valid told =
      let m = rules_of meaning old in
      let same = rules_grown meaning old new grows in
      let here : GoesThrough m lane (first_past lane) run (past_of new) =
      subst (λ past. GoesThrough m lane past run (past_of new)) (first_is old lane first) through in
      record {
        through = subst (λ number. GoesThrough m lane (first_past lane) number (past_of new))
            (first_run m lane run (past_of new) here) here;
        valid = subst (λ rules. IsValidJournal rules (past_of new)) same valid;
        fail_is = sym (told ∙ ap (λ rules. start_fail rules (past_of new)) same);
      }

  pub first_stop : (meaning : R → Site → Meaning) (old : CoreView R Site) (lane : ℕ) (ended : RunStop)
      → old.journal ≡ first_past lane → IsRunStop (rules_of meaning old) lane (past_of old) ended
      → IsRunStop (rules_of meaning old) lane (first_past lane) ended
  first_stop meaning old lane ended first is =
      subst (λ past. IsRunStop (rules_of meaning old) lane past ended) (first_is old lane first) is
