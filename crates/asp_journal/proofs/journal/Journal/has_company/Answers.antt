use Rattle.std.proofs.Common.{◌≡◌, ◌∙◌, ap, arith, reverse, sym, take}
use Rattle.std.proofs.lemmas.Grind.{common_steps}
use Rattle.std.specs.List.{list_any}
use Rattle.asp_job.specs.Turns.{is_other_open}
use Rattle.asp_journal.proofs.Open.{company_listed}
use Rattle.asp_journal.proofs.Passing.{all_taken, any_here, any_next}
use Rattle.asp_journal.proofs.journal.Journal.has_company.Goals as goal

pub returns-then-is_other_open : goal.returns-then-is_other_open
returns-then-is_other_open c =
    let listed = c.open_runs-listed.result.now in
    let past = reverse c.args.self.now.items in
    sym (any_here (is_other_open past c.args.run) listed c.loop-other.other-index 0 (grind (arith, common_steps))
    (sym c.is_other_open.ensures ∙ c.if-is_other_open.true))
    ∙ company_listed past c.args.run listed c.open_runs-listed.ensures

pub loop-other-preserved : goal.loop-other-preserved
loop-other-preserved c = any_next (is_other_open (reverse c.args.self.now.items) c.args.run)
    c.open_runs-listed.result.now c.loop-other.other-index 0 (grind (arith, common_steps)) c.loop-other.invariant
    (sym c.is_other_open.ensures ∙ c.if-is_other_open.false)

pub returns : goal.returns
returns c =
    let listed = c.open_runs-listed.result.now in
    let past = reverse c.args.self.now.items in
    let all : take c.loop-other.other-index listed ≡ listed =
    all_taken listed c.loop-other.other-index (grind (arith, common_steps)) in
    sym c.loop-other.invariant ∙ ap (list_any (is_other_open past c.args.run)) all
    ∙ company_listed past c.args.run listed c.open_runs-listed.ensures
