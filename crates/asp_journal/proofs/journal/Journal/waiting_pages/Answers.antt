use Rattle.std.proofs.Common.{◌≡◌, arith, length, filter, take, reverse, ap, ◌∙◌}
use Rattle.std.proofs.lemmas.Grind.{common_steps}
use Rattle.asp_job.specs.Turns.{is_waiting_page}
use Rattle.asp_journal.proofs.Passing.{all_taken}
use Rattle.asp_journal.proofs.Open.{pages_listed}
use Rattle.asp_journal.proofs.journal.Journal.waiting_pages.Goals as goal

pub returns : goal.returns
returns c =
    let listed = c.open_runs-listed.result.now in
    let past = reverse c.args.self.now.items in
    let all : take c.loop-run.run-index listed ≡ listed =
    all_taken listed c.loop-run.run-index (grind (arith, common_steps)) in
    c.loop-run.invariant.so_far ∙ ap (λ xs. length (filter (is_waiting_page past) xs)) all
    ∙ pages_listed past listed c.open_runs-listed.ensures
