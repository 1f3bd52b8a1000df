use Rattle.std.proofs.Common.{◌≡◌, ◌<◌, arith, false, length, reverse}
use Rattle.std.proofs.lemmas.Grind.{common_steps}
use Rattle.asp_job.specs.Runs.{is_halted, unfinished}
use Rattle.asp_job.specs.declared.entry.TheConstants.{MOST_UNFINISHED}
use Rattle.asp_core.proofs.Least.{none_may, least_may}
use Rattle.asp_core.proofs.keys.least_run.Goals as goal

pub returns-clause-none : goal.returns-clause-none
returns-clause-none c = none_may (reverse c.args.journal.now.items) c.next_run.result c.requires c.next_run.ensures.none

pub returns-clause-next : goal.returns-clause-next
returns-clause-next c =
    let past = reverse c.args.journal.now.items in
    let few : length (unfinished past) < MOST_UNFINISHED = grind (arith, common_steps) in
    let going : is_halted past ≡ false = grind (arith, common_steps) in
    least_may past c.next_run.result c.requires few going c.next_run.ensures.next c.next_run.ensures.least
