use Rattle.std.proofs.Common.{◌≡◌, arith, length, filter, take, reverse, ap, ◌∙◌}
use Rattle.std.proofs.lemmas.Grind.{common_steps}
use Rattle.asp_job.specs.Runs.{is_unfinished, unfinished}
use Rattle.asp_journal.proofs.Passing.{all_taken}
use Rattle.asp_journal.proofs.Open.{unfinished_few, unfinished_listed, unfinished_within}
use Rattle.asp_journal.proofs.journal.Journal.unfinished.Goals as goal

pub returns-clause-unfinished : goal.returns-clause-unfinished
returns-clause-unfinished c =
    let listed = c.open_runs-listed.result.now in
    let past = reverse c.args.self.now.items in
    let all : take c.loop-run.run-index listed ≡ listed =
    all_taken listed c.loop-run.run-index (grind (arith, common_steps)) in
    c.loop-run.invariant.so_far ∙ ap (λ xs. length (filter (is_unfinished past) xs)) all
    ∙ unfinished_listed past listed c.open_runs-listed.ensures

pub returns-clause-within : goal.returns-clause-within
returns-clause-within c =
    let listed = c.open_runs-listed.result.now in
    let past = reverse c.args.self.now.items in
    let all : take c.loop-run.run-index listed ≡ listed =
    all_taken listed c.loop-run.run-index (grind (arith, common_steps)) in
    let is : c.loop-run.unfinished ≡ length (unfinished past) = c.loop-run.invariant.so_far
    ∙ ap (λ xs. length (filter (is_unfinished past) xs)) all
    ∙ unfinished_listed past listed c.open_runs-listed.ensures in
    let within = unfinished_within c.args.self.now.items in
    omega arith

pub returns-clause-few : goal.returns-clause-few
returns-clause-few c =
    let listed = c.open_runs-listed.result.now in
    let past = reverse c.args.self.now.items in
    let all : take c.loop-run.run-index listed ≡ listed =
    all_taken listed c.loop-run.run-index (grind (arith, common_steps)) in
    let is : c.loop-run.unfinished ≡ length (unfinished past) = c.loop-run.invariant.so_far
    ∙ ap (λ xs. length (filter (is_unfinished past) xs)) all
    ∙ unfinished_listed past listed c.open_runs-listed.ensures in
    let few = unfinished_few past in
    omega arith
