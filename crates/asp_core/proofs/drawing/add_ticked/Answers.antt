use Rattle.std.proofs.Common.{◌≡◌, ◌++◌, ◌∷◌, [], ℕ, Option, arith, ap, reverse, subst, ◌∙◌}
use Rattle.std.proofs.lemmas.Grind.{common_steps}
use Rattle.asp_job.specs.declared.entry.Entry.{Entry}
use Rattle.asp_job.specs.declared.session.SessionState.{SessionState}
use Rattle.asp_core.specs.Book.{past_in}
use Rattle.asp_core.specs.Drawing.{IsDrawn, drawn_by, tick_before}
use Rattle.asp_core.specs.Kernel.{rules_by}
use Rattle.asp_core.specs.Sessions.{account_closed, sessions_in}
use Rattle.asp_core.proofs.Asking.{asked_account, ticked_tells}
use Rattle.asp_core.proofs.Coming.{tick_added}
use Rattle.asp_core.proofs.Fits.{tick_calm, tick_fit}
use Rattle.asp_core.proofs.Ticking.{few_after_tick, job_added, then_drawn}
use Rattle.asp_core.proofs.drawing.add_ticked.Goals as goal

pub add-requires-clause-fit : goal.add-requires-clause-fit
add-requires-clause-fit g c =
    tick_fit (sessions_in c.args.sessions.now.account) (past_in c.args.book.now) c.args.coming.more c.args.lane
    c.args.coming.job.moment c.requires.tick

pub add-requires-clause-calm : goal.add-requires-clause-calm
add-requires-clause-calm g c =
    tick_calm (sessions_in c.args.sessions.now.account) (past_in c.args.book.now) c.args.coming.more c.args.lane
    c.args.coming.job.moment c.requires.tick

pub add_admission-requires-clause-few : goal.add_admission-requires-clause-few
add_admission-requires-clause-few g c =
    let sessions = sessions_in c.args.sessions.now.account in
    let mid = tick_added c.args.book.now.items c.add.new.self.items c.args.coming.more
    (tick_before sessions (past_in c.args.book.now) c.args.lane c.args.coming.job)
    c.add.ensures.adds.0 c.requires.tick in
    few_after_tick sessions c.args.book.now.items c.add.new.self.items c.args.lane c.args.coming.job.moment mid
    c.requires.few

pub add_admission-requires-clause-tells : goal.add_admission-requires-clause-tells
add_admission-requires-clause-tells g c =
    let m = rules_by (g.R.Runner.meaning c.args.lent.now.runner.now c.args.lent.now.site.now) c.args.lent.now.setting in
    let account = c.args.sessions.now.account in
    let mid = tick_added c.args.book.now.items c.add.new.self.items c.args.coming.more
    (tick_before (sessions_in account) (past_in c.args.book.now) c.args.lane c.args.coming.job)
    c.add.ensures.adds.0 c.requires.tick in
    let closed : c.queue_runs.new.sessions.account ≡ account_closed c.args.coming.more account = grind (arith, common_steps) in
    (ticked_tells m c.args.book.now.items c.add.new.self.items c.args.coming.more account
    c.queue_runs.new.sessions.account c.args.lane c.args.coming.job c.requires.account c.requires.tick mid closed).0

pub returns-clause-adds : goal.returns-clause-adds
returns-clause-adds g c =
    let m = rules_by (g.R.Runner.meaning c.args.lent.now.runner.now c.args.lent.now.site.now) c.args.lent.now.setting in
    let account = c.args.sessions.now.account in
    let mid = tick_added c.args.book.now.items c.add.new.self.items c.args.coming.more
    (tick_before (sessions_in account) (past_in c.args.book.now) c.args.lane c.args.coming.job)
    c.add.ensures.adds.0 c.requires.tick in
    let closed : c.queue_runs.new.sessions.account ≡ account_closed c.args.coming.more account = grind (arith, common_steps) in
    let tells = ticked_tells m c.args.book.now.items c.add.new.self.items c.args.coming.more account
    c.queue_runs.new.sessions.account c.args.lane c.args.coming.job c.requires.account c.requires.tick mid closed in
    let adds = c.add_admission.ensures.adds in (
      job_added m (sessions_in account) c.args.book.now.items c.add.new.self.items c.add_admission.new.book.items
          c.args.lane c.args.coming.job mid (adds.0 ∙ ap (λ (sessions : ℕ → Option SessionState). c.add.new.self.items
          ++ drawn_by m sessions (past_in c.add.new.self) c.args.lane c.args.coming.job ∷ []) tells.1),
      adds.1 ∙ c.add.ensures.adds.1,
    )

pub returns-clause-drawn : goal.returns-clause-drawn
returns-clause-drawn g c =
    let m = rules_by (g.R.Runner.meaning c.args.lent.now.runner.now c.args.lent.now.site.now) c.args.lent.now.setting in
    let account = c.args.sessions.now.account in
    let mid = tick_added c.args.book.now.items c.add.new.self.items c.args.coming.more
    (tick_before (sessions_in account) (past_in c.args.book.now) c.args.lane c.args.coming.job)
    c.add.ensures.adds.0 c.requires.tick in
    let closed : c.queue_runs.new.sessions.account ≡ account_closed c.args.coming.more account = grind (arith, common_steps) in
    let tells = ticked_tells m c.args.book.now.items c.add.new.self.items c.args.coming.more account
    c.queue_runs.new.sessions.account c.args.lane c.args.coming.job c.requires.account c.requires.tick mid closed in
    subst (λ (entry : Entry). IsDrawn entry.what c.add_admission.result)
    (then_drawn m (sessions_in account) c.args.book.now.items c.add.new.self.items c.args.lane
    c.args.coming.job mid)
    (subst (λ (sessions : ℕ → Option SessionState). IsDrawn (drawn_by m sessions
    (reverse c.add.new.self.items) c.args.lane c.args.coming.job).what c.add_admission.result) tells.1
    c.add_admission.ensures.drawn)

pub returns-clause-account : goal.returns-clause-account
returns-clause-account g c =
    let m = rules_by (g.R.Runner.meaning c.args.lent.now.runner.now c.args.lent.now.site.now) c.args.lent.now.setting in
    let account = c.args.sessions.now.account in
    let mid = tick_added c.args.book.now.items c.add.new.self.items c.args.coming.more
    (tick_before (sessions_in account) (past_in c.args.book.now) c.args.lane c.args.coming.job)
    c.add.ensures.adds.0 c.requires.tick in
    let closed : c.queue_runs.new.sessions.account ≡ account_closed c.args.coming.more account = grind (arith, common_steps) in
    let tells = ticked_tells m c.args.book.now.items c.add.new.self.items c.args.coming.more account
    c.queue_runs.new.sessions.account c.args.lane c.args.coming.job c.requires.account c.requires.tick mid closed in
    asked_account m c.args.book.now.items c.add.new.self.items c.args.coming.more account
    c.queue_runs.new.sessions.account c.add_admission.new.sessions.account c.args.lane c.args.coming.job c.requires.tick mid
    closed tells.1 c.add_admission.ensures.account
