use Rattle.std.proofs.Common.{◌≡◌, refl, subst}
use Rattle.asp_core.specs.declared.stop.AdmitStop.TheVariants as admit
use Rattle.asp_desk.specs.Calls.{Admits, IsTurn}
use Rattle.asp_desk.specs.Hands.{rules_at}
use Rattle.std.proofs.Common.{Ok, Err}
use Rattle.asp_serve.proofs.Asking.{fills_it, lacks_memory, stops_it, told_is, too_many}
use Rattle.asp_serve.proofs.admitting.ask.Goals as goal

pub returns-in-Ok-clause-comes : goal.returns-in-Ok-clause-comes
returns-in-Ok-clause-comes g c = λ request same.
    let m = rules_at g.R.Runner.meaning c.args.host.now in
    let a = c.args.hand.now.lane in
    let b = c.admit.new.hand.lane in
    told_is m (λ second. second ≡ c.args.job.now.moment) request c.args.job.now.moment a b c.in-Ok.told refl
    (subst (λ job. IsTurn (Admits m a.number job) a (Ok c.in-Ok.told) b) same c.in-Ok.ensures.turn)

pub returns-in-Err-WaitingFull-clause-again : goal.returns-in-Err-WaitingFull-clause-again
returns-in-Err-WaitingFull-clause-again g c =
    too_many (rules_at g.R.Runner.meaning c.args.host.now) c.args.job.now c.args.hand.now.lane c.admit.new.hand.lane
    (rw c.in-Err-WaitingFull.field-0-is at c.in-Err-WaitingFull.ensures.turn)

pub returns-in-Err-Stopping-clause-comes : goal.returns-in-Err-Stopping-clause-comes
returns-in-Err-Stopping-clause-comes g c = λ request same.
    stops_it (rules_at g.R.Runner.meaning c.args.host.now) (λ asked. asked ≡ request) c.args.job.now
    c.args.hand.now.lane c.admit.new.hand.lane
    (rw c.in-Err-Stopping.field-0-is at c.in-Err-Stopping.ensures.turn)

pub returns-in-Err-JournalFull-clause-comes : goal.returns-in-Err-JournalFull-clause-comes
returns-in-Err-JournalFull-clause-comes g c = λ request same.
    let m = rules_at g.R.Runner.meaning c.args.host.now in
    let a = c.args.hand.now.lane in
    let b = c.admit.new.hand.lane in
    let turn = rw c.in-Err-JournalFull.field-0-is at c.in-Err-JournalFull.ensures.turn in
    fills_it m request c.args.job.now.moment a b c.in-Err-JournalFull.full
    (subst (λ job. IsTurn (Admits m a.number job) a
    (Err (admit.JournalFull c.in-Err-JournalFull.full)) b) same turn)

pub returns-in-Err-Memory-clause-comes : goal.returns-in-Err-Memory-clause-comes
returns-in-Err-Memory-clause-comes g c = λ request same.
    lacks_memory (rules_at g.R.Runner.meaning c.args.host.now) (λ asked. asked ≡ request) c.args.job.now
    c.args.hand.now.lane c.admit.new.hand.lane
    (rw c.in-Err-Memory.field-0-is at c.in-Err-Memory.ensures.turn)
