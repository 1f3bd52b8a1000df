use Rattle.std.proofs.Common.{◌≡◌, ap, refl, sym, subst, ◌∙◌, arith, None}
use Rattle.std.proofs.Common.{Err}
use Rattle.asp_core.specs.declared.stop.AdmitStop.TheVariants as admit
use Rattle.std.proofs.lemmas.Grind.{common_steps}
use Rattle.asp_core.specs.Book.{past_in}
use Rattle.asp_core.specs.Drawing.{entry_then, told_of}
use Rattle.asp_core.specs.Kernel.{CoreView, IsTooMuch, rules_by, rules_of, past_of, grown}
use Rattle.asp_core.specs.Taking.{refused_before}
use Rattle.asp_job.specs.Journal.{admit_entries, past_after}
use Rattle.asp_core.proofs.Admitting.{sound_taken}
use Rattle.asp_core.proofs.Refusing.{full_back}
use Rattle.asp_core.proofs.Same.{on_err, on_ok, sound_either, view_of}
use Rattle.asp_core.proofs.admit.Core+R.admit.Goals as goal

pub invariant_of-self : goal.invariant_of-self
invariant_of-self g c =
    let core = c.self.inside.kept in
    let house = c.self.inside.house in
    let m = g.R.Runner.meaning house.runner.value house.site.value in
    let runner : c.args.runner.now ≡ house.runner.value = c.requires.host.runner_is
    ∙ sym (ap (λ v. v.runner) c.self.view_is) in
    let site : c.args.site.now ≡ house.site.value = c.requires.host.site_is ∙ sym (ap (λ v. v.site) c.self.view_is) in
    let none : refused_before (past_in core.book) ≡ None = grind (arith, common_steps) in
    let ok = rw (runner, site) at c.take_job-made.ensures.ok in
    let account = core.sessions.account in
    let then_account = c.take_job-made.new.sessions.account in
    sound_either c.take_job-made.result (rules_by m house.setting) core.book c.take_job-made.new.book account then_account
    core.application core.application core.start_fail c.self.invariant
    (on_ok c.take_job-made.result _ _ (λ taken. sound_taken m house.setting core.book c.take_job-made.new.book account
    then_account core.application core.start_fail c.args.lane c.args.job.now c.self.invariant none c.requires.page
    c.requires.small taken) ok)
    (on_err c.take_job-made.result _ _ (λ same. (same.0, same.1, refl)) c.take_job-made.ensures.err)

pub returns-clause-ok : goal.returns-clause-ok
returns-clause-ok g c =
    let core = c.self.inside.kept in
    let house = c.self.inside.house in
    let runner : c.args.runner.now ≡ house.runner.value = c.requires.host.runner_is
    ∙ sym (ap (λ v. v.runner) c.self.view_is) in
    let site : c.args.site.now ≡ house.site.value = c.requires.host.site_is ∙ sym (ap (λ v. v.site) c.self.view_is) in
    let old = ap (λ (v : CoreView g.row.R.Denot g.row.R-Site.Denot). grown v
    (admit_entries (rules_of g.R.Runner.meaning v) (past_of v) c.args.lane c.args.job.now)) c.self.view_is in
    elim c.match-made.branch [
      | goal.in-Ok w ↦ rw w.result-is (
          ap (λ items. view_of house.runner.value house.site.value house.setting items)
          (rw (runner, site) at w.in-Ok.ensures.ok).items_are ∙ old)
      | goal.in-Err w ↦ rw w.result-is tt
    ]

pub returns-clause-told : goal.returns-clause-told
returns-clause-told g c =
    let core = c.self.inside.kept in
    let house = c.self.inside.house in
    let runner : c.args.runner.now ≡ house.runner.value = c.requires.host.runner_is
    ∙ sym (ap (λ v. v.runner) c.self.view_is) in
    let site : c.args.site.now ≡ house.site.value = c.requires.host.site_is ∙ sym (ap (λ v. v.site) c.self.view_is) in
    let old = ap (λ (v : CoreView g.row.R.Denot g.row.R-Site.Denot). told_of
    (entry_then (rules_of g.R.Runner.meaning v) (past_of v) c.args.lane c.args.job.now).what) c.self.view_is in
    elim c.match-made.branch [
      | goal.in-Ok w ↦ rw w.result-is ((rw (runner, site) at w.in-Ok.ensures.told) ∙ old)
      | goal.in-Err w ↦ rw w.result-is tt
    ]

pub returns-clause-full : goal.returns-clause-full
returns-clause-full g c full e =
    let core = c.self.inside.kept in
    let house = c.self.inside.house in
    let runner : c.args.runner.now ≡ house.runner.value = c.requires.host.runner_is
    ∙ sym (ap (λ v. v.runner) c.self.view_is) in
    let site : c.args.site.now ≡ house.site.value = c.requires.host.site_is ∙ sym (ap (λ v. v.site) c.self.view_is) in
    elim c.match-made.branch [
      | goal.in-Ok w ↦ let is = w.result-is in absurd cc
      | goal.in-Err w ↦
          let is = w.result-is in
          let told : w.from.result ≡ admit.JournalFull full = cc in
          let same = full_back w.in-Err.stop full (sym w.from.ensures ∙ told) in
          let much = rw (runner, site) at (w.in-Err.ensures.full full (ap Err same)) in
          subst (λ (v : CoreView g.row.R.Denot g.row.R-Site.Denot). IsTooMuch (past_after (past_of v)
          (admit_entries (rules_of g.R.Runner.meaning v) (past_of v) c.args.lane c.args.job.now)) full)
          c.self.view_is much
    ]
