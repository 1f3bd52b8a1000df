use Rattle.std.proofs.Common.{◌≡◌, ◌↔◌, Some, None, Err, OnOk, ap, refl, sym, subst, ◌∙◌}
use Rattle.asp_app.specs.View.{AppView}
use Rattle.asp_job.specs.Journal.{past_after}
use Rattle.asp_core.specs.Calling.{blocker_by}
use Rattle.asp_core.specs.Kernel.{CoreView, HasNotFitFor, IsRunOf, IsTooMuch, blocker, called, grown, past_of, rules_by}
use Rattle.asp_core.specs.declared.stop.AppStepStop.TheVariants as step
use Rattle.asp_core.proofs.Called.{core_called, free_called, full_called, run_of_called}
use Rattle.asp_core.proofs.Calling.{run_wants, sound_called}
use Rattle.asp_core.proofs.Same.{on_err, on_ok, sound_either, view_of}
use Rattle.asp_core.proofs.calls.Core+R.app_step.Goals as goal

pub invariant_of-self : goal.invariant_of-self
invariant_of-self g c =
    let core = c.self.inside.kept in
    let house = c.self.inside.house in
    let view = view_of house.runner.value house.site.value house.setting core.book.items in
    let m = rules_by (g.R.Runner.meaning house.runner.value house.site.value) house.setting in
    let run = c.args.run.now in
    let runner : c.args.runner.now ≡ house.runner.value = c.requires.host ∙ sym (ap (λ v. v.runner) c.self.view_is) in
    let is : IsRunOf g.R.Runner.meaning g.R.Runner.stands view c.args.lane run =
    subst (λ (v : CoreView g.row.R.Denot g.row.R-Site.Denot).
    IsRunOf g.R.Runner.meaning g.R.Runner.stands v c.args.lane run) (sym c.self.view_is) c.requires.run in
    let ok = rw runner at c.make_call.ensures.ok in
    let account = core.sessions.account in
    sound_either c.make_call.result m core.book c.make_call.new.book account account core.application
    c.make_call.new.application core.start_fail c.self.invariant
    (on_ok c.make_call.result _ _ (λ has. sound_called m (g.R.Runner.stands house.runner.value) c.args.lane core.book
    c.make_call.new.book account core.application c.make_call.new.application core.start_fail run c.make_call.new.run
    c.self.invariant is.running
    (λ call wants. run_wants g.R.Runner.meaning g.R.Runner.stands view c.args.lane run call is wants) has) ok)
    (on_err c.make_call.result _ _ (λ same. (same.0, refl, same.1)) c.make_call.ensures.err)

pub returns-clause-ok : goal.returns-clause-ok
returns-clause-ok g c =
    let core = c.self.inside.kept in
    let house = c.self.inside.house in
    let run = c.args.run.now in
    let runner : c.args.runner.now ≡ house.runner.value = c.requires.host ∙ sym (ap (λ v. v.runner) c.self.view_is) in
    let ok = rw runner at c.make_call.ensures.ok in
    let old = ap (λ (v : CoreView g.row.R.Denot g.row.R-Site.Denot). grown v (called v c.args.lane run))
    c.self.view_is in
    on_ok c.make_call.result _ _ (λ has. core_called house.runner.value house.site.value house.setting
    (g.R.Runner.stands house.runner.value) c.args.lane core.book core.application run c.make_call.new.book
    c.make_call.new.application c.make_call.new.run (ap (λ (h : AppView). h.state) c.self.invariant.0.held_is) has ∙ old) ok

pub returns-clause-run : goal.returns-clause-run
returns-clause-run g c =
    let core = c.self.inside.kept in
    let house = c.self.inside.house in
    let view = view_of house.runner.value house.site.value house.setting core.book.items in
    let run = c.args.run.now in
    let runner : c.args.runner.now ≡ house.runner.value = c.requires.host ∙ sym (ap (λ v. v.runner) c.self.view_is) in
    let is : IsRunOf g.R.Runner.meaning g.R.Runner.stands view c.args.lane run =
    subst (λ (v : CoreView g.row.R.Denot g.row.R-Site.Denot).
    IsRunOf g.R.Runner.meaning g.R.Runner.stands v c.args.lane run) (sym c.self.view_is) c.requires.run in
    let ok = rw runner at c.make_call.ensures.ok in
    on_ok c.make_call.result _ _ (λ has. run_of_called g.R.Runner.meaning g.R.Runner.stands house.runner.value
    house.site.value house.setting c.args.lane core.book core.application run c.make_call.new.book
    c.make_call.new.application c.make_call.new.run (ap (λ (h : AppView). h.state) c.self.invariant.0.held_is) is has) ok

pub returns-clause-going : goal.returns-clause-going
returns-clause-going g c =
    on_ok c.make_call.result _ _ (λ has. (has.number_is, has.progress_is)) c.make_call.ensures.ok

pub returns-clause-free : goal.returns-clause-free
returns-clause-free g c =
    let core = c.self.inside.kept in
    let run = c.args.run.now in
    subst (λ (v : CoreView g.row.R.Denot g.row.R-Site.Denot). OnOk c.make_call.result (blocker v run ≡ None))
    c.self.view_is (on_ok c.make_call.result _ _ (λ has. subst (λ (h : AppView). blocker_by h run ≡ None)
    c.self.invariant.0.held_is (free_called (g.R.Runner.stands c.args.runner.now) c.args.lane core.book
    core.application run c.make_call.new.book c.make_call.new.application c.make_call.new.run has))
    c.make_call.ensures.ok)

pub returns-clause-blocked : goal.returns-clause-blocked
returns-clause-blocked g c holder =
    let run = c.args.run.now in
    subst (λ (v : CoreView g.row.R.Denot g.row.R-Site.Denot).
    (c.make_call.result ≡ Err (step.Blocked holder)) ↔ (blocker v run ≡ Some holder)) c.self.view_is
    (subst (λ (h : AppView). (c.make_call.result ≡ Err (step.Blocked holder)) ↔ (blocker_by h run ≡ Some holder))
    c.self.invariant.0.held_is (c.make_call.ensures.blocked holder))

pub returns-clause-full : goal.returns-clause-full
returns-clause-full g c full e =
    let core = c.self.inside.kept in
    let house = c.self.inside.house in
    let view = view_of house.runner.value house.site.value house.setting core.book.items in
    let m = rules_by (g.R.Runner.meaning house.runner.value house.site.value) house.setting in
    let run = c.args.run.now in
    subst (λ (v : CoreView g.row.R.Denot g.row.R-Site.Denot).
    IsTooMuch (past_after (past_of v) (called v c.args.lane run)) full) c.self.view_is
    (full_called m view core.sessions.account core.application core.book.answers c.args.lane run full
    c.self.invariant.0 (c.make_call.ensures.full full e)).0

pub returns-clause-not_fit : goal.returns-clause-not_fit
returns-clause-not_fit g c full e =
    let core = c.self.inside.kept in
    let house = c.self.inside.house in
    let view = view_of house.runner.value house.site.value house.setting core.book.items in
    let m = rules_by (g.R.Runner.meaning house.runner.value house.site.value) house.setting in
    let run = c.args.run.now in
    subst (λ (v : CoreView g.row.R.Denot g.row.R-Site.Denot). HasNotFitFor v.setting.strict (past_of v) c.args.lane run)
    c.self.view_is
    (full_called m view core.sessions.account core.application core.book.answers c.args.lane run full
    c.self.invariant.0 (c.make_call.ensures.full full e)).1
