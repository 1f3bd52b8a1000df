use Rattle.std.proofs.Common.{◌≡◌, ◌∷◌, ◌↔◌, ◌≤◌, [], ℕ, ap, sym, subst, ◌∙◌}
use Rattle.std.proofs.Common.{List, IfErr, OnOk, refl}
use Rattle.asp_core.specs.Kernel.{CoreView, IsBeginTooMuch, IsIdle, NextFits}
use Rattle.asp_core.specs.Kernel.{rules_by, rules_of, past_of, grown}
use Rattle.asp_core.specs.Book.{past_in}
use Rattle.asp_core.specs.Opening.{IsIdleWith}
use Rattle.asp_core.specs.Ready.{HasBodyRoom, bodies_with_one}
use Rattle.asp_core.specs.declared.ready.TheConstants.{MOST_BODY_BYTES}
use Rattle.asp_core.specs.declared.stop.BeginStop.TheVariants as begin
use Rattle.asp_job.specs.Journal.{begin_entry}
use Rattle.asp_job.specs.Rules.{Rules}
use Rattle.asp_job.specs.Turns.{IsBegin, serial_of}
use Rattle.asp_job.specs.declared.answer.Answer.{Answer}
use Rattle.asp_core.proofs.Beginning.{begun_run, on_each_ok, rules_same, sound_begun}
use Rattle.asp_core.proofs.Same.{on_each, on_err, sound_either, view_of}
use Rattle.asp_core.proofs.begin.Core+R.begin.Goals as goal

pub begin_run-requires : goal.begin_run-requires
begin_run-requires g c =
    let core = c.self.inside.kept in
    let house = c.self.inside.house in
    let runner : c.args.runner.now ≡ house.runner.value =
    c.requires.host.runner_is ∙ sym (ap (λ v. v.runner) c.self.view_is) in
    let site : c.args.site.now ≡ house.site.value =
    c.requires.host.site_is ∙ sym (ap (λ v. v.site) c.self.view_is) in
    rw (runner, site) (record { held = core.application; kept = c.self.invariant.0; within = c.self.invariant.1 })

pub invariant_of-self : goal.invariant_of-self
invariant_of-self g c =
    let core = c.self.inside.kept in
    let house = c.self.inside.house in
    let m = rules_by (g.R.Runner.meaning house.runner.value house.site.value) house.setting in
    let runner : c.args.runner.now ≡ house.runner.value =
    c.requires.host.runner_is ∙ sym (ap (λ v. v.runner) c.self.view_is) in
    let site : c.args.site.now ≡ house.site.value =
    c.requires.host.site_is ∙ sym (ap (λ v. v.site) c.self.view_is) in
    let ok = rw (runner, site) at c.begin_run.ensures.ok in
    let account = core.sessions.account in
    let then_account = c.begin_run.new.sessions.account in
    sound_either c.begin_run.result m core.book c.begin_run.new.book account then_account core.application
    core.application core.start_fail c.self.invariant
    (on_each_ok c.begin_run.result _ _ (λ run has. sound_begun m (g.R.Runner.stands house.runner.value house.site.value)
    c.args.lane core.book c.begin_run.new.book account then_account core.application core.start_fail run c.self.invariant
    has) ok)
    (on_err c.begin_run.result _ _ (λ same. (same.0, same.1, refl)) c.begin_run.ensures.err)

pub returns-clause-next : goal.returns-clause-next
returns-clause-next g c =
    let core = c.self.inside.kept in
    let house = c.self.inside.house in
    let runner : c.args.runner.now ≡ house.runner.value =
    c.requires.host.runner_is ∙ sym (ap (λ v. v.runner) c.self.view_is) in
    let site : c.args.site.now ≡ house.site.value =
    c.requires.host.site_is ∙ sym (ap (λ v. v.site) c.self.view_is) in
    let ok = rw (runner, site) at c.begin_run.ensures.ok in
    on_each c.begin_run.result _ _ (λ run has.
    subst (λ (v : CoreView g.row.R.Denot g.row.R-Site.Denot). IsBegin (rules_of g.R.Runner.meaning v) (past_of v)
    run.number (serial_of (rules_of g.R.Runner.meaning v) (past_of v) run.number)) c.self.view_is
    (record { next = has.next.first; few = has.next.few; going = has.next.going; session = refl })) ok

pub returns-clause-light : goal.returns-clause-light
returns-clause-light g c =
    let core = c.self.inside.kept in
    let house = c.self.inside.house in
    let m = rules_by (g.R.Runner.meaning house.runner.value house.site.value) house.setting in
    let past = past_in core.book in
    let runner : c.args.runner.now ≡ house.runner.value =
    c.requires.host.runner_is ∙ sym (ap (λ v. v.runner) c.self.view_is) in
    let site : c.args.site.now ≡ house.site.value =
    c.requires.host.site_is ∙ sym (ap (λ v. v.site) c.self.view_is) in
    let ok = rw (runner, site) at c.begin_run.ensures.ok in
    subst (λ (v : CoreView g.row.R.Denot g.row.R-Site.Denot).
    OnOk c.begin_run.result (HasBodyRoom (rules_of g.R.Runner.meaning v) (past_of v))) c.self.view_is
    (on_each_ok c.begin_run.result _ (HasBodyRoom m past) (λ run has.
    subst (λ (answers : List (ℕ × Answer)). bodies_with_one answers past ≤ MOST_BODY_BYTES)
    c.self.invariant.0.answers_are has.light) ok)

pub returns-clause-begun : goal.returns-clause-begun
returns-clause-begun g c =
    let core = c.self.inside.kept in
    let house = c.self.inside.house in
    let runner : c.args.runner.now ≡ house.runner.value =
    c.requires.host.runner_is ∙ sym (ap (λ v. v.runner) c.self.view_is) in
    let site : c.args.site.now ≡ house.site.value =
    c.requires.host.site_is ∙ sym (ap (λ v. v.site) c.self.view_is) in
    let ok = rw (runner, site) at c.begin_run.ensures.ok in
    on_each c.begin_run.result _ _ (λ run has.
    ap (view_of house.runner.value house.site.value house.setting) has.grows.0.0
    ∙ ap (λ (v : CoreView g.row.R.Denot g.row.R-Site.Denot). grown v
    (begin_entry (rules_of g.R.Runner.meaning v) (past_of v) c.args.lane run.number ∷ [])) c.self.view_is) ok

pub returns-clause-run : goal.returns-clause-run
returns-clause-run g c =
    let core = c.self.inside.kept in
    let house = c.self.inside.house in
    let runner : c.args.runner.now ≡ house.runner.value =
    c.requires.host.runner_is ∙ sym (ap (λ v. v.runner) c.self.view_is) in
    let site : c.args.site.now ≡ house.site.value =
    c.requires.host.site_is ∙ sym (ap (λ v. v.site) c.self.view_is) in
    let ok = rw (runner, site) at c.begin_run.ensures.ok in
    on_each c.begin_run.result _ _ (λ run has. begun_run g.R.Runner.meaning g.R.Runner.stands house.runner.value
    house.site.value house.setting c.args.lane core.book c.begin_run.new.book core.sessions.account
    c.begin_run.new.sessions.account run has) ok

pub returns-clause-idle : goal.returns-clause-idle
returns-clause-idle g c =
    let core = c.self.inside.kept in
    let past = past_in core.book in
    subst (λ (v : CoreView g.row.R.Denot g.row.R-Site.Denot). IfErr c.begin_run.result
    (λ stop. stop.1 ≡ begin.Idle ↔ IsIdle (rules_of g.R.Runner.meaning v) (past_of v))) c.self.view_is
    (subst (λ (answers : List (ℕ × Answer)). IfErr c.begin_run.result
    (λ stop. stop.1 ≡ begin.Idle ↔ IsIdleWith answers past))
    c.self.invariant.0.answers_are c.begin_run.ensures.idle)

pub returns-clause-full : goal.returns-clause-full
returns-clause-full g c full =
    let core = c.self.inside.kept in
    let house = c.self.inside.house in
    let past = past_in core.book in
    let runner : c.args.runner.now ≡ house.runner.value =
    c.requires.host.runner_is ∙ sym (ap (λ v. v.runner) c.self.view_is) in
    let site : c.args.site.now ≡ house.site.value =
    c.requires.host.site_is ∙ sym (ap (λ v. v.site) c.self.view_is) in
    let same = rules_same g.R.Runner.meaning c.args.runner.now house.runner.value c.args.site.now house.site.value
    house.setting runner site in
    subst (λ (v : CoreView g.row.R.Denot g.row.R-Site.Denot). IfErr c.begin_run.result
    (λ stop. stop.1 ≡ begin.JournalFull full →
    IsBeginTooMuch (rules_of g.R.Runner.meaning v) (past_of v) c.args.lane full)) c.self.view_is
    (subst (λ (m : Rules). IfErr c.begin_run.result
    (λ stop. stop.1 ≡ begin.JournalFull full → IsBeginTooMuch m past c.args.lane full)) same
    (c.begin_run.ensures.full full))

pub returns-clause-fits : goal.returns-clause-fits
returns-clause-fits g c =
    let core = c.self.inside.kept in
    let house = c.self.inside.house in
    let past = past_in core.book in
    let runner : c.args.runner.now ≡ house.runner.value =
    c.requires.host.runner_is ∙ sym (ap (λ v. v.runner) c.self.view_is) in
    let site : c.args.site.now ≡ house.site.value =
    c.requires.host.site_is ∙ sym (ap (λ v. v.site) c.self.view_is) in
    let same = rules_same g.R.Runner.meaning c.args.runner.now house.runner.value c.args.site.now house.site.value
    house.setting runner site in
    subst (λ (v : CoreView g.row.R.Denot g.row.R-Site.Denot). IfErr c.begin_run.result
    (λ stop. stop.1 ≡ begin.Memory → NextFits (rules_of g.R.Runner.meaning v) (past_of v) c.args.lane))
    c.self.view_is
    (subst (λ (m : Rules). IfErr c.begin_run.result (λ stop. stop.1 ≡ begin.Memory → NextFits m past c.args.lane)) same
    c.begin_run.ensures.fits)
