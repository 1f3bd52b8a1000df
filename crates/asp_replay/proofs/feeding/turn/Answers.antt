use Rattle.std.proofs.Common.{◌≡◌, ◌∷◌, [], false, ap, is_some, subst, sym}
use Rattle.asp_core.specs.Kernel.{past_of, rules_of}
use Rattle.asp_record.specs.Recorded as recorded
use Rattle.asp_feed.specs.Feeding.{is_calm}
use Rattle.asp_replay.specs.Sequential.{IsBusy, may_come}
use Rattle.asp_replay.specs.Underway.{After, IsUnderWay}
use Rattle.asp_replay.proofs.OneTurn.{kept_out_busy, nothing_is, turn_back}
use Rattle.asp_replay.proofs.feeding.turn.Goals as goal
use Rattle.asp_replay.proofs.feeding.turn.Goals.{in_default-via-in-None+else-is_calm}
use Rattle.asp_replay.proofs.feeding.turn.Goals.{in_default-via-in-Some+else-may_come}

pub work_turn-hand-requires-clause-busy : goal.work_turn-hand-requires-clause-busy
work_turn-hand-requires-clause-busy g c = elim c.in_default.branch [
  | in_default-via-in-Some+else-may_come w ↦ (let kept : may_come (past_of c.args.core.now)
      (recorded.moment_of w.in-Some.next.now) ≡ false = (let told = w.may_come.ensures in let at = w.moment_of.ensures
      in
      let test = w.if-may_come.false in cc) in
      kept_out_busy (past_of c.args.core.now) (recorded.moment_of w.in-Some.next.now) (ap is_some c.requires.started.ended) kept)
  | in_default-via-in-None+else-is_calm w ↦ (let told = w.is_calm.ensures in let test = w.if-is_calm.false in cc)
]

pub returns-in-Some-clause-after : goal.returns-in-Some-clause-after
returns-in-Some-clause-after g c = λ all before is.
    let m = rules_of g.R.Runner.meaning c.args.core.now in
    let items : c.args.items.now ≡ c.in-Some.next.now ∷ c.in-Some.rest.now = c.in-Some.ensures.cases.0 in
    let at : IsUnderWay m all (past_of c.args.core.now) c.args.clients.now.entries
    (c.in-Some.next.now ∷ c.in-Some.rest.now) before (g.K.Sink.held c.args.sink.now) =
    subst (λ left. IsUnderWay m all (past_of c.args.core.now) c.args.clients.now.entries left before
    (g.K.Sink.held c.args.sink.now)) items is in
    turn_back m all (past_of c.come_turn-came.new.core) c.come_turn-came.new.clients.entries c.in-Some.rest before
    (g.K.Sink.held c.come_turn-came.new.sink) c.come_turn-came.result c.left_where.result c.left_where.ensures
    (c.come_turn-came.ensures.after all c.in-Some.rest.now before at)

pub returns-in-None-clause-after : goal.returns-in-None-clause-after
returns-in-None-clause-after g c = λ all before is.
    let m = rules_of g.R.Runner.meaning c.args.core.now in
    let none : c.args.items.now ≡ [] = nothing_is c.args.items.now c.in-None.ensures.cases in
    let at : IsUnderWay m all (past_of c.args.core.now) c.args.clients.now.entries [] before
    (g.K.Sink.held c.args.sink.now) =
    subst (λ left. IsUnderWay m all (past_of c.args.core.now) c.args.clients.now.entries left before
    (g.K.Sink.held c.args.sink.now)) none is in
    let then_at : After c.stop_turn-stopped.result m all (past_of c.stop_turn-stopped.new.core)
    c.args.clients.now.entries c.args.items.now before (g.K.Sink.held c.stop_turn-stopped.new.sink) =
    subst (λ left. After c.stop_turn-stopped.result m all (past_of c.stop_turn-stopped.new.core)
    c.args.clients.now.entries left before (g.K.Sink.held c.stop_turn-stopped.new.sink)) (sym none)
    (c.stop_turn-stopped.ensures.after all c.args.clients.now.entries before at) in
    turn_back m all (past_of c.stop_turn-stopped.new.core) c.args.clients.now.entries c.args.items before
    (g.K.Sink.held c.stop_turn-stopped.new.sink) c.stop_turn-stopped.result c.left_where-in-None.result
    c.left_where-in-None.ensures then_at

pub returns-in_default-clause-after : goal.returns-in_default-clause-after
returns-in_default-clause-after g c = λ all before is.
    let m = rules_of g.R.Runner.meaning c.args.core.now in
    let busy : IsBusy (past_of c.args.core.now) c.args.items.now = elim c.in_default.branch [
      | in_default-via-in-Some+else-may_come w ↦ (let kept : may_come (past_of c.args.core.now)
          (recorded.moment_of w.in-Some.next.now) ≡ false = (let told = w.may_come.ensures in
          let at = w.moment_of.ensures in let test = w.if-may_come.false in cc) in
          subst (IsBusy (past_of c.args.core.now)) (sym w.in-Some.ensures.cases.0) kept)
      | in_default-via-in-None+else-is_calm w ↦ (let calm : is_calm (past_of c.args.core.now) ≡ false =
          (let told = w.is_calm.ensures in let test = w.if-is_calm.false in cc) in
          subst (IsBusy (past_of c.args.core.now)) (sym (nothing_is c.args.items.now w.in-None.ensures.cases)) calm)
    ] in
    turn_back m all (past_of c.work_turn-hand.new.core) c.args.clients.now.entries c.args.items before
    (g.K.Sink.held c.work_turn-hand.new.sink) c.work_turn-hand.result.1 c.left_where-in_default.result
    c.left_where-in_default.ensures
    (c.work_turn-hand.ensures.after all c.args.items.now c.args.clients.now.entries before is busy)
