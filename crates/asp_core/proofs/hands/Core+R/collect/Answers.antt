use Rattle.std.proofs.Common.{◌≡◌, reverse, nat_eq, None, Some, IsSome, ap, sym}
use Rattle.std.proofs.Common.{subst, ◌∙◌, arith}
use Rattle.std.specs.Map.{lookup}
use Rattle.std.proofs.lemmas.Grind.{common_steps}
use Rattle.asp_core.specs.Kernel.{CoreView, past_of, rules_by, rules_of}
use Rattle.asp_core.specs.Ready.{collect_stop}
use Rattle.asp_job.specs.Output.{answer_of_run}
use Rattle.asp_core.proofs.Fits.{take_fit}
use Rattle.asp_core.proofs.Handing.{can_take, sound_take}
use Rattle.asp_core.proofs.hands.Core+R.collect.Goals as goal

pub take_run-requires : goal.take_run-requires
take_run-requires g c =
    let core = c.self.inside.kept in
    let house = c.self.inside.house in
    let past = reverse core.book.items in
    let rules = rules_by (g.R.Runner.meaning house.runner.value house.site.value) house.setting in
    let none : collect_stop past c.args.lane c.args.run ≡ None = grind (arith, common_steps) in
    let can = can_take rules past c.args.lane c.args.run c.self.invariant.0.sessions.journal.entries c.self.invariant.0.answered
    none in
    let some : IsSome (lookup (nat_eq c.args.run) core.book.answers) =
    subst (λ list. IsSome (lookup (nat_eq c.args.run) list)) (sym c.self.invariant.0.answers_are) can.some in
    record {
      waits = some;
      fit = take_fit rules past c.args.lane c.args.run c.self.invariant.0.sessions.journal.entries can;
    }

pub invariant_of-self : goal.invariant_of-self
invariant_of-self g c =
    let core = c.self.inside.kept in
    let house = c.self.inside.house in
    let past = reverse core.book.items in
    let rules = rules_by (g.R.Runner.meaning house.runner.value house.site.value) house.setting in
    let none : collect_stop past c.args.lane c.args.run ≡ None = grind (arith, common_steps) in
    let can = can_take rules past c.args.lane c.args.run c.self.invariant.0.sessions.journal.entries c.self.invariant.0.answered
    none in
    sound_take rules core.book c.take_run.new.book core.sessions.account core.application core.start_fail c.args.lane
    c.args.run c.self.invariant can c.take_run.ensures.items c.take_run.ensures.answers

pub returns-clause-answer : goal.returns-clause-answer
returns-clause-answer g c =
    let core = c.self.inside.kept in
    let house = c.self.inside.house in
    let past = reverse core.book.items in
    let rules = rules_by (g.R.Runner.meaning house.runner.value house.site.value) house.setting in
    let none : collect_stop past c.args.lane c.args.run ≡ None = grind (arith, common_steps) in
    let can = can_take rules past c.args.lane c.args.run c.self.invariant.0.sessions.journal.entries c.self.invariant.0.answered
    none in
    let given = sym can.found ∙ ap (lookup (nat_eq c.args.run)) (sym c.self.invariant.0.answers_are)
    ∙ c.take_run.ensures.answer in
    subst (λ (v : CoreView g.row.R.Denot g.row.R-Site.Denot). answer_of_run (rules_of g.R.Runner.meaning v) (past_of v)
    c.args.run ≡ Some c.take_run.result) c.self.view_is given
