use Rattle.std.proofs.Common.{◌≡◌, ◌∙◌, IfOk, List, OnOk, ap, subst}
use Rattle.asp_job.specs.declared.entry.Entry.{Entry}
use Rattle.asp_job.specs.Journal.{admit_entries, past_after}
use Rattle.asp_core.specs.Book.{Grows, past_in}
use Rattle.asp_core.specs.Drawing.{IsDrawn, entry_then}
use Rattle.asp_core.specs.Kernel.{IsTooMuch, rules_by}
use Rattle.asp_core.specs.Sessions.{account_grown, sessions_in}
use Rattle.asp_core.proofs.Admitting.{job_entry, job_made}
use Rattle.asp_core.proofs.Growing.{account_tells}
use Rattle.asp_core.proofs.events.with_job.Goals as goal

pub tick_entries-requires-clause-tells : goal.tick_entries-requires-clause-tells
tick_entries-requires-clause-tells g c =
    let m = rules_by (g.R.Runner.meaning c.args.lent.now.runner.now c.args.lent.now.site.now) c.args.lent.now.setting in
    rw c.journal-2.ensures (account_tells m (past_in c.args.book.now) c.args.sessions.now.account c.requires.account).0

pub returns-in-Ok-prepared-clause-grows : goal.returns-in-Ok-prepared-clause-grows
returns-in-Ok-prepared-clause-grows g c =
    let m = rules_by (g.R.Runner.meaning c.args.lent.now.runner.now c.args.lent.now.site.now) c.args.lent.now.setting in
    let past = past_in c.args.book.now in
    let made = job_made m past (sessions_in c.args.sessions.now.account) c.args.lane c.in-Ok-prepared.job
    (account_tells m past c.args.sessions.now.account c.requires.account).1
    ∙ ap (admit_entries m past c.args.lane) c.in-Ok-prepared.ensures.job in
    subst (λ (more : List Entry). OnOk c.add_job.result (Grows c.args.book.now more c.add_job.new.book)) made
    c.add_job.ensures.grows

pub returns-in-Ok-prepared-clause-drawn : goal.returns-in-Ok-prepared-clause-drawn
returns-in-Ok-prepared-clause-drawn g c =
    let m = rules_by (g.R.Runner.meaning c.args.lent.now.runner.now c.args.lent.now.site.now) c.args.lent.now.setting in
    let past = past_in c.args.book.now in
    let made = job_entry m past (sessions_in c.args.sessions.now.account) c.args.lane c.in-Ok-prepared.job
    (account_tells m past c.args.sessions.now.account c.requires.account).1
    ∙ ap (entry_then m past c.args.lane) c.in-Ok-prepared.ensures.job in
    subst (λ (entry : Entry). IfOk c.add_job.result (IsDrawn entry.what)) made c.add_job.ensures.drawn

pub returns-in-Ok-prepared-clause-full : goal.returns-in-Ok-prepared-clause-full
returns-in-Ok-prepared-clause-full g c full e =
    let m = rules_by (g.R.Runner.meaning c.args.lent.now.runner.now c.args.lent.now.site.now) c.args.lent.now.setting in
    let past = past_in c.args.book.now in
    let made = job_made m past (sessions_in c.args.sessions.now.account) c.args.lane c.in-Ok-prepared.job
    (account_tells m past c.args.sessions.now.account c.requires.account).1
    ∙ ap (admit_entries m past c.args.lane) c.in-Ok-prepared.ensures.job in
    subst (λ (more : List Entry). IsTooMuch (past_after past more) full) made
    (c.add_job.ensures.full full e)

pub returns-in-Ok-prepared-clause-account : goal.returns-in-Ok-prepared-clause-account
returns-in-Ok-prepared-clause-account g c =
    let m = rules_by (g.R.Runner.meaning c.args.lent.now.runner.now c.args.lent.now.site.now) c.args.lent.now.setting in
    let past = past_in c.args.book.now in
    let account = c.args.sessions.now.account in
    let made = job_made m past (sessions_in account) c.args.lane c.in-Ok-prepared.job
    (account_tells m past account c.requires.account).1
    ∙ ap (admit_entries m past c.args.lane) c.in-Ok-prepared.ensures.job in
    subst (λ (more : List Entry). OnOk c.add_job.result
    (c.add_job.new.sessions.account ≡ account_grown m past more account)) made c.add_job.ensures.account
