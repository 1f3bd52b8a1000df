use Rattle.std.proofs.Common.{subst, ◌∙◌}
use Rattle.asp_job.specs.Journal.{past_after}
use Rattle.asp_core.specs.Book.{past_in}
use Rattle.asp_core.specs.Kernel.{IsTooMuch, rules_by}
use Rattle.asp_core.proofs.Kept.{stopped_grown, stopped_is}
use Rattle.asp_core.proofs.Same.{on_ok}
use Rattle.asp_core.proofs.events.with_stop.Goals as goal

pub returns-in-Ok-clause-full : goal.returns-in-Ok-clause-full
returns-in-Ok-clause-full g c full e =
    let m = rules_by (g.R.Runner.meaning c.args.house.now.runner.value c.args.house.now.site.value) c.args.house.now.setting in
    let past = past_in c.args.book.now in
    subst (λ more. IsTooMuch (past_after past more) full)
    ((rw c.journal-2.ensures at c.in-Ok.ensures) ∙ stopped_is m past c.args.sessions.now.account c.args.lane c.requires.account)
    (c.add_calm.ensures.full full e)

pub returns-in-Ok-clause-account : goal.returns-in-Ok-clause-account
returns-in-Ok-clause-account g c =
    let m = rules_by (g.R.Runner.meaning c.args.house.now.runner.value c.args.house.now.site.value) c.args.house.now.setting in
    on_ok c.add_calm.result _ _ (λ closed. closed
    ∙ stopped_grown m (past_in c.args.book.now) c.in-Ok.more c.args.sessions.now.account c.args.lane
    c.requires.account (rw c.journal-2.ensures at c.in-Ok.ensures)) c.add_calm.ensures.account
