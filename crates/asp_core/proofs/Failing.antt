-- Why the first run failed stays so while others come.
use Rattle.std.proofs.Common.{◌≡◌, ℕ, ◌++◌, List, [], ◌∷◌, reverse, refl, ap, ◌∙◌}
use Rattle.asp_job.specs.declared.entry.Entry.{Entry}
use Rattle.asp_job.specs.declared.entry.What.{What}
use Rattle.asp_job.specs.declared.entry.What.TheVariants.{Admit, App, Begin, End, Halt, Queue, Refuse, Stop, Take, Tick}
use Rattle.asp_job.specs.History.{with_lane}
use Rattle.asp_job.specs.Journal.{past_after}
use Rattle.asp_job.specs.Rules.{Rules}
use Rattle.asp_core.specs.Calm.{AreCalm, IsCalm}
use Rattle.asp_core.specs.Start.{start_fail}
use Rattle.asp_core.proofs.Kept.{grown_past}
use Rattle.asp_journal.proofs.Past.{past_push}

calm_fail : (m : Rules) (past : List Entry) (lane : ℕ) (what : What) → IsCalm what
    → start_fail m (with_lane lane what ∷ past) ≡ start_fail m past
calm_fail m past lane (Queue run work key) calm = refl
calm_fail m past lane (Admit run key fresh job) calm = refl
calm_fail m past lane (Refuse run job) calm = refl
calm_fail m past lane (Tick moment) calm = refl
calm_fail m past lane Stop calm = refl
calm_fail m past lane (Begin run serial) calm = absurd calm
calm_fail m past lane (App run call reply) calm = absurd calm
calm_fail m past lane (End run kind status size n1 n2) calm = absurd calm
calm_fail m past lane (Take run) calm = absurd calm
calm_fail m past lane Halt calm = absurd calm

fail_after_calm : (m : Rules) (past more : List Entry) → AreCalm more
    → start_fail m (past_after past more) ≡ start_fail m past
fail_after_calm m past [] calm = refl
fail_after_calm m past (entry ∷ more) calm =
    fail_after_calm m (entry ∷ past) more calm.1 ∙ calm_fail m past entry.lane entry.what calm.0

-- entries that begin and end no run
pub fail_calm : (m : Rules) (journal next more : List Entry) → next ≡ journal ++ more → AreCalm more
    → start_fail m (reverse next) ≡ start_fail m (reverse journal)
fail_calm m journal next more e calm = ap (start_fail m) (grown_past journal next more e)
    ∙ fail_after_calm m (reverse journal) more calm

-- one entry that changes nothing of it
pub fail_push : (m : Rules) (journal next : List Entry) (entry : Entry) → next ≡ journal ++ entry ∷ []
    → start_fail m (entry ∷ reverse journal) ≡ start_fail m (reverse journal)
    → start_fail m (reverse next) ≡ start_fail m (reverse journal)
fail_push m journal next entry e same = ap (λ j. start_fail m (reverse j)) e
    ∙ ap (start_fail m) (past_push journal entry) ∙ same
