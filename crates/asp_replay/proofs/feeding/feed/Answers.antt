use Rattle.std.specs.Prelude.{false}
use Rattle.std.proofs.Common.{sym, subst, ◌∙◌}
use Rattle.asp_core.specs.Kernel.{past_of, rules_by, rules_of, setting_of}
use Rattle.asp_core.specs.Ready.{IsAnswered}
use Rattle.asp_job.specs.Journal.{IsValidJournal}
use Rattle.asp_replay.specs.Underway.{IsCoreOf}
use Rattle.asp_replay.proofs.FedBack.{core_handed, core_still, fed_handed, rules_here, stop_handed}
use Rattle.asp_replay.proofs.Starting.{rules_grown}
use Rattle.asp_replay.proofs.feeding.feed.Goals as goal

pub returns-clause-core : goal.returns-clause-core
returns-clause-core g c =
    let still = core_still c.in-Ok.core c.feed_core-fed.new.core c.args.runner.now c.args.site.now
    (setting_of c.args.recording.now.seed c.args.recording.now.strict) c.in-Ok.ensures.host c.in-Ok.ensures.setting
    c.feed_core-fed.ensures.grows in
    core_handed c.feed_core-fed.result c.feed_core-fed.new.core c.core_back.result
    (IsCoreOf c.args.runner.now c.args.site.now (setting_of c.args.recording.now.seed c.args.recording.now.strict)) c.core_back.ensures still

pub returns-clause-ok : goal.returns-clause-ok
returns-clause-ok g c =
    let meaning = g.R.Runner.meaning in
    let setting = setting_of c.args.recording.now.seed c.args.recording.now.strict in
    let here : IsCoreOf c.args.runner.now c.args.site.now setting c.in-Ok.core = record {
      runner_is = sym c.in-Ok.ensures.host.runner_is;
      site_is = sym c.in-Ok.ensures.host.site_is;
      setting_is = c.in-Ok.ensures.setting;
    } in
    fed_handed (rules_of meaning c.in-Ok.core) (rules_by (meaning c.args.runner.now c.args.site.now) setting)
    c.args.recording.now.items (λ core. past_of core) (g.K.Sink.held c.args.sink.now)
    (g.K.Sink.held c.feed_core-fed.new.sink) c.feed_core-fed.result c.feed_core-fed.new.core c.core_back.result
    (rules_here meaning c.in-Ok.core c.args.runner.now c.args.site.now setting here) c.core_back.ensures
    c.feed_core-fed.ensures.after

pub returns-clause-err : goal.returns-clause-err
returns-clause-err g c =
    let meaning = g.R.Runner.meaning in
    let setting = setting_of c.args.recording.now.seed c.args.recording.now.strict in
    let still = core_still c.in-Ok.core c.feed_core-fed.new.core c.args.runner.now c.args.site.now setting
    c.in-Ok.ensures.host c.in-Ok.ensures.setting c.feed_core-fed.ensures.grows in
    let grows = c.feed_core-fed.ensures.grows in
    let same = rules_grown meaning c.in-Ok.core c.feed_core-fed.new.core grows.0 grows.1 in
    stop_handed (rules_of meaning c.in-Ok.core) (rules_by (meaning c.args.runner.now c.args.site.now) setting)
    c.args.recording.now.items (past_of c.feed_core-fed.new.core) (g.K.Sink.held c.args.sink.now)
    (g.K.Sink.held c.feed_core-fed.new.sink) c.feed_core-fed.result c.feed_core-fed.new.core c.core_back.result
    (sym same ∙ rules_here meaning c.feed_core-fed.new.core c.args.runner.now c.args.site.now setting still)
    (subst (λ m. IsValidJournal m (past_of c.feed_core-fed.new.core)) same c.journal.ensures.valid)
    (subst (λ m. IsAnswered m (past_of c.feed_core-fed.new.core)) same c.journal.ensures.answered)
    c.core_back.ensures c.feed_core-fed.ensures.after c.feed_core-fed.ensures.passed c.feed_core-fed.ensures.wound_up
