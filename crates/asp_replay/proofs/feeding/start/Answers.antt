use Rattle.std.proofs.Common.{◌≡◌, ◌∙◌, [], OnOk, arith, subst, sym, true}
use Rattle.asp_core.specs.Kernel.{past_of, rules_of}
use Rattle.asp_lane.specs.Started.{HasStarted}
use Rattle.asp_replay.specs.declared.stop.FeedStop.TheVariants as stop
use Rattle.asp_replay.specs.Underway.{After, EndsSo, IsOfOneLane, is_starting}
use Rattle.asp_replay.proofs.Grown.{ends_here}
use Rattle.asp_replay.proofs.Starting.{grown_more, grown_none, host_grown, none_still, rules_grown, start_ends}
use Rattle.asp_replay.proofs.Starting.{start_no_fault, starting_busy, starting_parts, told_no_fault, under_rules}
use Rattle.asp_replay.proofs.feeding.start.Goals as goal

pub loop-init : goal.loop-init
loop-init g c = record {
  grows = ([], grown_none c.args.core.now);
  fits = c.requires.hand;
  none_came = c.requires.none_came;
  under = λ items left clients before is. is;
  later = omega arith;
  within = λ below. below;
}

pub returns-then-not-is_starting-clause-grows : goal.returns-then-not-is_starting-clause-grows
returns-then-not-is_starting-clause-grows g c = c.loop.invariant.grows

pub returns-then-not-is_starting-clause-fits : goal.returns-then-not-is_starting-clause-fits
returns-then-not-is_starting-clause-fits g c = c.loop.invariant.fits

pub returns-then-not-is_starting-clause-started : goal.returns-then-not-is_starting-clause-started
returns-then-not-is_starting-clause-started g c =
    let same = rules_grown g.R.Runner.meaning c.args.core.now c.loop.core c.loop.invariant.grows.0
    c.loop.invariant.grows.1 in
    subst (λ m. OnOk c.started.result (HasStarted m (past_of c.loop.core))) same c.started.ensures.ok

pub returns-then-not-is_starting-clause-none_came : goal.returns-then-not-is_starting-clause-none_came
returns-then-not-is_starting-clause-none_came g c = c.loop.invariant.none_came

pub returns-then-not-is_starting-clause-no_fault : goal.returns-then-not-is_starting-clause-no_fault
returns-then-not-is_starting-clause-no_fault g c =
    told_no_fault (rules_of g.R.Runner.meaning c.loop.core) (past_of c.loop.core) c.started.result c.started.ensures.err

pub returns-then-not-is_starting-clause-after : goal.returns-then-not-is_starting-clause-after
returns-then-not-is_starting-clause-after g c = λ items left clients before is.
    let meaning = g.R.Runner.meaning in
    let same = rules_grown meaning c.args.core.now c.loop.core c.loop.invariant.grows.0 c.loop.invariant.grows.1 in
    start_ends (rules_of meaning c.args.core.now) (rules_of meaning c.loop.core) items (past_of c.loop.core) clients left
    before (g.K.Sink.held c.loop.sink) c.started.result same c.started.ensures.err c.loop.invariant.none_came
    (c.loop.invariant.under items left clients before is)

pub returns-then-not-is_starting-clause-cause : goal.returns-then-not-is_starting-clause-cause
returns-then-not-is_starting-clause-cause g c =
    start_no_fault (rules_of g.R.Runner.meaning c.loop.core) (past_of c.loop.core) (g.K.Sink.faults c.args.sink.now)
    (g.K.Sink.faults c.loop.sink) c.started.result c.loop.invariant.later c.loop.invariant.within c.started.ensures.err

pub work_turn-next-requires-clause-host : goal.work_turn-next-requires-clause-host
work_turn-next-requires-clause-host g c =
    host_grown c.args.core.now c.loop.core c.loop.invariant.grows.0 c.args.runner.now c.args.site.now
    c.loop.invariant.grows.1 c.requires.host

pub work_turn-next-requires-clause-hand : goal.work_turn-next-requires-clause-hand
work_turn-next-requires-clause-hand g c = c.loop.invariant.fits

pub work_turn-next-requires-clause-busy : goal.work_turn-next-requires-clause-busy
work_turn-next-requires-clause-busy g c =
    let starting : is_starting (past_of c.loop.core) ≡ true = (let told = c.is_starting.ensures in
    let test = c.if-not-is_starting.false in let one = c.if-not-is_starting.ensures in cc) in
    (starting_parts (past_of c.loop.core) starting).1

pub work_turn-next-requires-clause-lane : goal.work_turn-next-requires-clause-lane
work_turn-next-requires-clause-lane g c =
    let meaning = g.R.Runner.meaning in
    let between = c.requires.between in
    let is = c.loop.invariant.under between.0 between.1 between.2 between.3 between.4 in
    subst (λ m. IsOfOneLane m (past_of c.loop.core))
    (sym (rules_grown meaning c.args.core.now c.loop.core c.loop.invariant.grows.0 c.loop.invariant.grows.1)) is.lane

pub returns-in-Err-clause-grows : goal.returns-in-Err-clause-grows
returns-in-Err-clause-grows g c =
    grown_more c.args.core.now c.loop.core c.work_turn-next.new.core c.loop.invariant.grows
    c.work_turn-next.ensures.grows

pub returns-in-Err-clause-none_came : goal.returns-in-Err-clause-none_came
returns-in-Err-clause-none_came g c =
    none_still (past_of c.loop.core) (past_of c.work_turn-next.new.core) c.work_turn-next.ensures.quiet
    c.loop.invariant.none_came

pub returns-in-Err-clause-no_fault : goal.returns-in-Err-clause-no_fault
returns-in-Err-clause-no_fault g c = λ e. c.work_turn-next.ensures.no_fault c.loop.invariant.none_came (c.in-Err.is ∙ e)

pub returns-in-Err-clause-after : goal.returns-in-Err-clause-after
returns-in-Err-clause-after g c = λ items left clients before is.
    let meaning = g.R.Runner.meaning in
    let starting : is_starting (past_of c.loop.core) ≡ true = (let told = c.is_starting.ensures in
    let test = c.if-not-is_starting.false in let one = c.if-not-is_starting.ensures in cc) in
    let same = rules_grown meaning c.args.core.now c.loop.core c.loop.invariant.grows.0 c.loop.invariant.grows.1 in
    let now = under_rules (rules_of meaning c.args.core.now) (rules_of meaning c.loop.core) items left
    (past_of c.loop.core) clients before (g.K.Sink.held c.loop.sink) (sym same)
    (c.loop.invariant.under items left clients before is) in
    let ends = subst (λ came. After came (rules_of meaning c.loop.core) items (past_of c.work_turn-next.new.core) clients
    left before (g.K.Sink.held c.work_turn-next.new.sink)) c.in-Err.is
    (c.work_turn-next.ensures.after items left clients before now
    (starting_busy (past_of c.loop.core) left starting)) in
    subst (λ m. EndsSo m items (past_of c.work_turn-next.new.core) c.in-Err.stop before
    (g.K.Sink.held c.work_turn-next.new.sink)) same ends

pub loop-preserved : goal.loop-preserved
loop-preserved g c =
    let meaning = g.R.Runner.meaning in
    let starting : is_starting (past_of c.loop.core) ≡ true = (let told = c.is_starting.ensures in
    let test = c.if-not-is_starting.false in let one = c.if-not-is_starting.ensures in cc) in
    let same = rules_grown meaning c.args.core.now c.loop.core c.loop.invariant.grows.0 c.loop.invariant.grows.1 in
    let cause = c.work_turn-next.ensures.cause in
    let later = c.loop.invariant.later in
    record {
      grows = grown_more c.args.core.now c.loop.core c.work_turn-next.new.core c.loop.invariant.grows
          c.work_turn-next.ensures.grows;
      fits = c.work_turn-next.ensures.fits;
      none_came = none_still (past_of c.loop.core) (past_of c.work_turn-next.new.core) c.work_turn-next.ensures.quiet
          c.loop.invariant.none_came;
      under = λ items left clients before is.
          let now = under_rules (rules_of meaning c.args.core.now) (rules_of meaning c.loop.core) items left
          (past_of c.loop.core) clients before (g.K.Sink.held c.loop.sink) (sym same)
          (c.loop.invariant.under items left clients before is) in
          under_rules (rules_of meaning c.loop.core) (rules_of meaning c.args.core.now) items left
          (past_of c.work_turn-next.new.core) clients before (g.K.Sink.held c.work_turn-next.new.sink) same
          (subst (λ came. After came (rules_of meaning c.loop.core) items (past_of c.work_turn-next.new.core) clients
          left before (g.K.Sink.held c.work_turn-next.new.sink)) c.in-Ok.is
          (c.work_turn-next.ensures.after items left clients before now (starting_busy (past_of c.loop.core) left
          starting)));
      later = omega (arith, later, cause.later);
      within = λ below. cause.within (c.loop.invariant.within below);
    }

pub returns-clause-grows : goal.returns-clause-grows
returns-clause-grows g c = c.loop.invariant.grows

pub returns-clause-none_came : goal.returns-clause-none_came
returns-clause-none_came g c = c.loop.invariant.none_came

pub returns-clause-after : goal.returns-clause-after
returns-clause-after g c = λ items left clients before is.
    ends_here (rules_of g.R.Runner.meaning c.args.core.now) items (past_of c.loop.core) clients left before
    (g.K.Sink.held c.loop.sink) stop.Memory (c.loop.invariant.under items left clients before is) tt
