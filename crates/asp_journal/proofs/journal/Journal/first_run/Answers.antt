use Rattle.std.proofs.Common.{◌≡◌, arith, take, reverse, ap, sym, ◌∙◌}
use Rattle.std.proofs.lemmas.Grind.{common_steps}
use Rattle.std.specs.List.{find}
use Rattle.asp_job.specs.Turns.{may_begin}
use Rattle.asp_journal.proofs.Passing.{all_taken, find_here, find_next}
use Rattle.asp_journal.proofs.Open.{first_listed}
use Rattle.asp_journal.proofs.journal.Journal.first_run.Goals as goal

pub returns-then-may_begin : goal.returns-then-may_begin
returns-then-may_begin c =
    let listed = c.open_runs-listed.result.now in
    let past = reverse c.args.self.now.items in
    sym (find_here (may_begin past) listed c.loop-run.run-index 0 (grind (arith, common_steps)) c.loop-run.invariant
    (sym c.may_begin.ensures ∙ c.if-may_begin.true)) ∙ first_listed past listed c.open_runs-listed.ensures

pub loop-run-preserved : goal.loop-run-preserved
loop-run-preserved c = find_next (may_begin (reverse c.args.self.now.items)) c.open_runs-listed.result.now
    c.loop-run.run-index 0 (grind (arith, common_steps)) c.loop-run.invariant
    (sym c.may_begin.ensures ∙ c.if-may_begin.false)

pub returns : goal.returns
returns c =
    let listed = c.open_runs-listed.result.now in
    let past = reverse c.args.self.now.items in
    let all : take c.loop-run.run-index listed ≡ listed =
    all_taken listed c.loop-run.run-index (grind (arith, common_steps)) in
    sym c.loop-run.invariant ∙ ap (find (may_begin past)) all ∙ first_listed past listed c.open_runs-listed.ensures
