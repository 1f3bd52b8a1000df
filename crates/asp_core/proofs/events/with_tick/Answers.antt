use Rattle.std.proofs.Common.{◌≡◌, ◌∙◌, Err, List, ap, subst, sym}
use Rattle.std.proofs.lemmas.Result.{err_from_is_err_and}
use Rattle.asp_job.specs.declared.entry.Entry.{Entry}
use Rattle.asp_job.specs.Journal.{past_after}
use Rattle.asp_core.specs.declared.stop.EventStop.TheVariants.{JournalFull}
use Rattle.asp_core.specs.Book.{past_in}
use Rattle.asp_core.specs.Kernel.{IsTooMuch, expired_by, rules_by}
use Rattle.asp_core.proofs.Growing.{account_tells}
use Rattle.asp_core.proofs.Kept.{ticked_grown, ticked_is}
use Rattle.asp_core.proofs.events.with_tick.Goals as goal

pub returns-clause-count : goal.returns-clause-count
returns-clause-count g c =
    let m = rules_by (g.R.Runner.meaning c.args.house.now.runner.value c.args.house.now.site.value)
    c.args.house.now.setting in
    let past = past_in c.args.book.now in
    (rw c.journal-2.ensures at c.in-Ok.ensures.count) ∙ ap (λ sessions. expired_by sessions past c.args.moment)
    (account_tells m past c.args.sessions.now.account c.requires.account).1

pub returns-clause-account : goal.returns-clause-account
returns-clause-account g c =
    let m = rules_by (g.R.Runner.meaning c.args.house.now.runner.value c.args.house.now.site.value)
    c.args.house.now.setting in
    c.in_ok-add_calm.ensures.account
    ∙ ticked_grown m (past_in c.args.book.now) c.in-Ok.made.0 c.args.sessions.now.account c.args.lane
    c.args.moment c.requires.account (rw c.journal-2.ensures at c.in-Ok.ensures.entries)

pub returns-in_err-add_calm-clause-full : goal.returns-in_err-add_calm-clause-full
returns-in_err-add_calm-clause-full g c full e =
    let p = err_from_is_err_and c.from_residual.result c.from_residual.ensures.1 in
    let told : p.0 ≡ JournalFull full = cc (p.1, e) in
    let m = rules_by (g.R.Runner.meaning c.args.house.now.runner.value c.args.house.now.site.value)
    c.args.house.now.setting in
    let past = past_in c.args.book.now in
    subst (λ (more : List Entry). IsTooMuch (past_after past more) full)
    ((rw c.journal-2.ensures at c.in-Ok.ensures.entries)
    ∙ ticked_is m past c.args.sessions.now.account c.args.lane c.args.moment c.requires.account)
    (c.in_err-add_calm.ensures.full full (ap Err (sym p.2 ∙ told)))
