use Rattle.std.proofs.Common.{◌≡◌, IfOk, ap, refl, subst, ◌∙◌}
use Rattle.asp_job.specs.Journal.{tick_entries, past_after}
use Rattle.asp_core.specs.Book.{Grows, past_in}
use Rattle.asp_core.specs.Kernel.{CoreView, rules_by, rules_of, past_of, grown, expired, IsTooMuch}
use Rattle.asp_job.specs.Keys.{session_of}
use Rattle.asp_core.proofs.Failing.{fail_calm}
use Rattle.asp_core.proofs.Fits.{tick_calm}
use Rattle.asp_core.proofs.Kept.{kept_after_tick}
use Rattle.asp_core.specs.Sessions.{account_grown}
use Rattle.asp_core.proofs.Same.{on_both, on_err, on_ok, sound_either, sound_grown, view_of}
use Rattle.asp_core.proofs.kernel.Core+R.tick.Goals as goal

pub invariant_of-self : goal.invariant_of-self
invariant_of-self g c =
    let core = c.self.inside.kept in
    let house = c.self.inside.house in
    let m = rules_by (g.R.Runner.meaning house.runner.value house.site.value) house.setting in
    let old = core.book in
    let new = c.with_tick.new.book in
    let past = past_in old in
    let more = tick_entries m past c.args.lane c.args.moment in
    let account = core.sessions.account in
    let then_account = c.with_tick.new.sessions.account in
    sound_either c.with_tick.result m old new account then_account core.application core.application core.start_fail
    c.self.invariant
    (on_both c.with_tick.result (Grows old more new) (then_account ≡ account_grown m past more account) _
    (λ grows made. sound_grown m old new more then_account core.application core.start_fail grows
    (kept_after_tick m old.items new.items account then_account core.application old.answers c.args.lane c.args.moment
    c.self.invariant.0 grows.0.0 made)
    (fail_calm m old.items new.items more grows.0.0
    (tick_calm (session_of m past) past more c.args.lane c.args.moment refl)) c.self.invariant.2)
    c.with_tick.ensures.grows c.with_tick.ensures.account)
    (on_err c.with_tick.result _ _ (λ same. (same.0, same.1, refl)) c.with_tick.ensures.err)

pub returns-clause-ok : goal.returns-clause-ok
returns-clause-ok g c =
    let house = c.self.inside.house in
    let old = ap (λ (v : CoreView g.row.R.Denot g.row.R-Site.Denot). grown v
    (tick_entries (rules_of g.R.Runner.meaning v) (past_of v) c.args.lane c.args.moment)) c.self.view_is in
    on_ok c.with_tick.result _ _ (λ grows. ap (view_of house.runner.value house.site.value house.setting) grows.0.0 ∙ old)
    c.with_tick.ensures.grows

pub returns-clause-full : goal.returns-clause-full
returns-clause-full g c full e =
    subst (λ (v : CoreView g.row.R.Denot g.row.R-Site.Denot). IsTooMuch
    (past_after (past_of v) (tick_entries (rules_of g.R.Runner.meaning v) (past_of v) c.args.lane c.args.moment))
    full) c.self.view_is
    (c.with_tick.ensures.full full e)

pub returns-clause-count : goal.returns-clause-count
returns-clause-count g c =
    subst (λ (v : CoreView g.row.R.Denot g.row.R-Site.Denot). IfOk c.with_tick.result
    (λ count. count ≡ expired (rules_of g.R.Runner.meaning v) (past_of v) c.args.moment)) c.self.view_is
    c.with_tick.ensures.count
