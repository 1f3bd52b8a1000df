use Rattle.std.proofs.Common.{◌≡◌, reverse, nat_eq, Some, IsSome, ap, sym}
use Rattle.std.proofs.Common.{subst, ◌∙◌, arith}
use Rattle.std.specs.Map.{lookup}
use Rattle.std.proofs.lemmas.Grind.{common_steps}
use Rattle.asp_job.specs.Output.{answer_of_run}
use Rattle.asp_core.specs.Kernel.{CoreView, past_of, rules_by, rules_of}
use Rattle.asp_core.specs.Ready.{first_for, ready}
use Rattle.asp_core.proofs.Fits.{take_fit}
use Rattle.asp_core.proofs.Handing.{IsFirst, can_take_run, first_is, sound_take}
use Rattle.asp_core.proofs.hands.Core+R.collect_first.Goals as goal

pub take_run-answer-requires : goal.take_run-answer-requires
take_run-answer-requires g c =
    let core = c.self.inside.kept in
    let house = c.self.inside.house in
    let past = reverse core.book.items in
    let rules = rules_by (g.R.Runner.meaning house.runner.value house.site.value) house.setting in
    let run = c.in-Some.run' in
    let kept = c.self.invariant.0 in
    let first : IsFirst past c.args.lane core.book.answers run = grind (arith, common_steps) in
    let can = can_take_run rules past c.args.lane run core.book.answers kept.sessions.journal.entries kept.answered
    kept.answers_are first in
    let some : IsSome (lookup (nat_eq run) core.book.answers) =
    subst (λ list. IsSome (lookup (nat_eq run) list)) (sym kept.answers_are) can.some in
    record {
      waits = some;
      fit = take_fit rules past c.args.lane run c.self.invariant.0.sessions.journal.entries can;
    }

pub invariant_of-self : goal.invariant_of-self
invariant_of-self g c =
    let core = c.self.inside.kept in
    let house = c.self.inside.house in
    let past = reverse core.book.items in
    let rules = rules_by (g.R.Runner.meaning house.runner.value house.site.value) house.setting in
    let run = c.in-Some.run' in
    let kept = c.self.invariant.0 in
    let first : IsFirst past c.args.lane core.book.answers run = grind (arith, common_steps) in
    let can = can_take_run rules past c.args.lane run core.book.answers kept.sessions.journal.entries kept.answered
    kept.answers_are first in
    let taken = c.take_run-answer in
    sound_take rules core.book taken.new.book core.sessions.account core.application core.start_fail c.args.lane run
    c.self.invariant can taken.ensures.items taken.ensures.answers

pub returns-clause-first : goal.returns-clause-first
returns-clause-first g c =
    let core = c.self.inside.kept in
    let house = c.self.inside.house in
    let past = reverse core.book.items in
    let rules = rules_by (g.R.Runner.meaning house.runner.value house.site.value) house.setting in
    let run = c.in-Some.run' in
    let kept = c.self.invariant.0 in
    let first : IsFirst past c.args.lane core.book.answers run = grind (arith, common_steps) in
    let is = first_is rules past c.args.lane run c.take_run-answer.result core.book.answers kept.sessions.journal.entries
    kept.answered kept.answers_are first c.take_run-answer.ensures.answer in
    subst (λ (v : CoreView g.row.R.Denot g.row.R-Site.Denot). Some (run, c.take_run-answer.result)
    ≡ first_for (past_of v) c.args.lane (ready (rules_of g.R.Runner.meaning v) (past_of v))) c.self.view_is is

pub returns-clause-answer : goal.returns-clause-answer
returns-clause-answer g c =
    let core = c.self.inside.kept in
    let house = c.self.inside.house in
    let past = reverse core.book.items in
    let rules = rules_by (g.R.Runner.meaning house.runner.value house.site.value) house.setting in
    let run = c.in-Some.run' in
    let kept = c.self.invariant.0 in
    let first : IsFirst past c.args.lane core.book.answers run = grind (arith, common_steps) in
    let can = can_take_run rules past c.args.lane run core.book.answers kept.sessions.journal.entries kept.answered
    kept.answers_are first in
    let given = sym can.found ∙ ap (lookup (nat_eq run)) (sym kept.answers_are) ∙ c.take_run-answer.ensures.answer in
    subst (λ (v : CoreView g.row.R.Denot g.row.R-Site.Denot). answer_of_run (rules_of g.R.Runner.meaning v) (past_of v)
    run ≡ Some c.take_run-answer.result) c.self.view_is given
