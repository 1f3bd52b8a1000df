use Rattle.std.proofs.Common.{◌≡◌, ◌++◌, ◌∷◌, [], ℕ, ap, ◌∙◌}
use Rattle.asp_core.specs.Book.{past_in}
use Rattle.asp_core.specs.Ends.{end_what, left_of}
use Rattle.asp_core.specs.Kernel.{CoreView, grown, past_of, rules_by, rules_of}
use Rattle.asp_core.specs.Ready.{with_answer}
use Rattle.asp_core.specs.Sessions.{account_ended, after_of}
use Rattle.asp_core.specs.declared.run.Progress.TheVariants as progress
use Rattle.asp_job.specs.History.{with_lane}
use Rattle.asp_job.specs.Journal.{end_entry}
use Rattle.asp_job.specs.Runs.{key_of}
use Rattle.asp_job.specs.Told.{Told}
use Rattle.asp_core.specs.Start.{fail_after}
use Rattle.asp_core.proofs.Ending.{can_end, end_grown, ending_of, sound_end}
use Rattle.asp_core.proofs.Same.{view_of}
use Rattle.asp_core.proofs.ends.Core+R.end.Goals as goal

pub end_run-requires : goal.end_run-requires
end_run-requires g c =
    let core = c.self.inside.kept in
    let house = c.self.inside.house in
    let run = c.args.run.number in
    let lane = c.args.lane in
    let kind = c.args.kind in
    let told = c.finish-told.result.0 in
    let left = c.left_of-left.result in
    let finish = λ (e : c.args.run.progress ≡ progress.Ended) (t : Told) (spent : ℕ).
    rw c.requires.host at (c.finish-told.ensures.finish e c.args.self.now.site t spent) in
    let leaves : left ≡ left_of kind told c.args.run.stand_ins =
    c.left_of-left.ensures ∙ ap (left_of kind told) c.finish-told.ensures.stand_ins in
    let ends = ending_of g.R.Runner.meaning g.R.Runner.stands c.args.self.now
    (view_of house.runner.value house.site.value house.setting core.book.items) lane c.args.run kind told left
    c.self.view_is c.requires.run c.requires.kind finish leaves in
    let rules = rules_by (g.R.Runner.meaning house.runner.value house.site.value) house.setting in
    let number : c.number-number.result ≡ run = c.number-number.ensures in
    rw number (can_end rules (past_in core.book) lane run kind left c.self.invariant.0.sessions.journal.entries ends.0 ends.1)

pub invariant_of-self : goal.invariant_of-self
invariant_of-self g c =
    let core = c.self.inside.kept in
    let house = c.self.inside.house in
    let run = c.args.run.number in
    let lane = c.args.lane in
    let kind = c.args.kind in
    let told = c.finish-told.result.0 in
    let left = c.left_of-left.result in
    let finish = λ (e : c.args.run.progress ≡ progress.Ended) (t : Told) (spent : ℕ).
    rw c.requires.host at (c.finish-told.ensures.finish e c.args.self.now.site t spent) in
    let leaves : left ≡ left_of kind told c.args.run.stand_ins =
    c.left_of-left.ensures ∙ ap (left_of kind told) c.finish-told.ensures.stand_ins in
    let ends = ending_of g.R.Runner.meaning g.R.Runner.stands c.args.self.now
    (view_of house.runner.value house.site.value house.setting core.book.items) lane c.args.run kind told left
    c.self.view_is c.requires.run c.requires.kind finish leaves in
    let rules = rules_by (g.R.Runner.meaning house.runner.value house.site.value) house.setting in
    let number : c.number-number.result ≡ run = c.number-number.ensures in
    let ended = c.end_run.ensures in
    let new = c.end_run.new.kept in
    let all = sound_end rules core.book new.book core.sessions.account new.sessions.account core.application
    core.start_fail new.start_fail lane run kind left c.self.invariant ends.0 ends.1
    (ended.items ∙ ap (λ n. core.book.items ++ with_lane lane (end_what n kind left) ∷ []) number)
    (ended.answers ∙ ap (λ n. with_answer core.book.answers n left.answer) number)
    (ended.account ∙ ap (λ n. account_ended (key_of (past_in core.book) n) (after_of kind left.session)
    core.sessions.account) number) (ended.start ∙ ap (λ n. fail_after core.start_fail n left.fail) number) in
    rw (ended.application, c.free.ensures, number) all

pub returns : goal.returns
returns g c =
    let core = c.self.inside.kept in
    let house = c.self.inside.house in
    let run = c.args.run.number in
    let lane = c.args.lane in
    let kind = c.args.kind in
    let told = c.finish-told.result.0 in
    let left = c.left_of-left.result in
    let finish = λ (e : c.args.run.progress ≡ progress.Ended) (t : Told) (spent : ℕ).
    rw c.requires.host at (c.finish-told.ensures.finish e c.args.self.now.site t spent) in
    let leaves : left ≡ left_of kind told c.args.run.stand_ins =
    c.left_of-left.ensures ∙ ap (left_of kind told) c.finish-told.ensures.stand_ins in
    let ends = ending_of g.R.Runner.meaning g.R.Runner.stands c.args.self.now
    (view_of house.runner.value house.site.value house.setting core.book.items) lane c.args.run kind told left
    c.self.view_is c.requires.run c.requires.kind finish leaves in
    let rules = rules_by (g.R.Runner.meaning house.runner.value house.site.value) house.setting in
    let number : c.number-number.result ≡ run = c.number-number.ensures in
    let made : c.end_run.new.kept.book.items ≡ core.book.items ++ with_lane lane (end_what run kind left) ∷ [] =
    c.end_run.ensures.items ∙ ap (λ n. core.book.items ++ with_lane lane (end_what n kind left) ∷ []) number in
    let grows = end_grown rules core.book.items c.end_run.new.kept.book.items lane run kind left ends.1 made in
    ap (view_of house.runner.value house.site.value house.setting) grows
    ∙ ap (λ (v : CoreView g.row.R.Denot g.row.R-Site.Denot). grown v
    (end_entry (rules_of g.R.Runner.meaning v) (past_of v) lane run kind ∷ [])) c.self.view_is
