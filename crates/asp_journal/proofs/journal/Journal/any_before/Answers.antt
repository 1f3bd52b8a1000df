use Rattle.std.proofs.Common.{◌≡◌, ◌∙◌, ap, arith, reverse, sym, take}
use Rattle.std.proofs.lemmas.Grind.{common_steps}
use Rattle.std.specs.List.{list_any}
use Rattle.asp_job.specs.Turns.{goes_before}
use Rattle.asp_journal.proofs.Open.{before_listed}
use Rattle.asp_journal.proofs.Passing.{all_taken, any_here, any_next}
use Rattle.asp_journal.proofs.journal.Journal.any_before.Goals as goal

pub returns-then-goes_before : goal.returns-then-goes_before
returns-then-goes_before c =
    let listed = c.open_runs-listed.result.now in
    let past = reverse c.args.self.now.items in
    sym (any_here (goes_before past c.args.run) listed c.loop-other.other-index 0 (grind (arith, common_steps))
    (sym c.goes_before.ensures ∙ c.if-goes_before.true))
    ∙ before_listed past c.args.run listed c.open_runs-listed.ensures

pub loop-other-preserved : goal.loop-other-preserved
loop-other-preserved c = any_next (goes_before (reverse c.args.self.now.items) c.args.run) c.open_runs-listed.result.now
    c.loop-other.other-index 0 (grind (arith, common_steps)) c.loop-other.invariant
    (sym c.goes_before.ensures ∙ c.if-goes_before.false)

pub returns : goal.returns
returns c =
    let listed = c.open_runs-listed.result.now in
    let past = reverse c.args.self.now.items in
    let all : take c.loop-other.other-index listed ≡ listed =
    all_taken listed c.loop-other.other-index (grind (arith, common_steps)) in
    sym c.loop-other.invariant ∙ ap (list_any (goes_before past c.args.run)) all
    ∙ before_listed past c.args.run listed c.open_runs-listed.ensures
