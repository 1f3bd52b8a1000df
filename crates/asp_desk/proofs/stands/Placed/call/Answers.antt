use Rattle.std.proofs.Common.{◌≡◌, ◌∙◌, ap, Err, refl}
use Rattle.asp_job.specs.declared.entry.EndKind.TheVariants as kind
use Rattle.asp_core.specs.declared.stop.AppStepStop.TheVariants as stop
use Rattle.asp_core.specs.Kernel.{rules_of}
use Rattle.asp_desk.proofs.Stepping.{call_blocked, call_dead, call_made, call_too_much, ended_same}
use Rattle.asp_desk.proofs.stands.Placed.call.Goals as goal

pub returns-in-Ok-clause-turn : goal.returns-in-Ok-clause-turn
returns-in-Ok-clause-turn g c =
    let e = c.app_step.ensures in
    let core = c.args.self.now.core in
    call_made (rules_of g.R.Runner.meaning core) c.args.lane core c.app_step.new.self c.args.run c.requires.wants
    refl (rw c.in-Ok.is at e.ok) (rw c.in-Ok.is at e.free)

pub returns-in-Err-Blocked-clause-turn : goal.returns-in-Err-Blocked-clause-turn
returns-in-Err-Blocked-clause-turn g c =
    let e = c.app_step.ensures in
    let core = c.args.self.now.core in
    let is : c.app_step.result ≡ Err (stop.Blocked c.in-Err-Blocked.holder) =
    c.in-Err-Blocked.is ∙ ap Err c.in-Err-Blocked.field-0-is in
    let err = rw is at e.err in
    call_blocked (rules_of g.R.Runner.meaning core) c.args.lane core c.app_step.new.self c.args.run c.requires.wants
    refl c.in-Err-Blocked.holder err.0 ((e.blocked c.in-Err-Blocked.holder).0 is)

pub returns-in-Err-JournalFull-clause-turn : goal.returns-in-Err-JournalFull-clause-turn
returns-in-Err-JournalFull-clause-turn g c =
    let e = c.app_step.ensures in
    let core = c.args.self.now.core in
    let full = c.in-Err-JournalFull.full in
    let is : c.app_step.result ≡ Err (stop.JournalFull full) =
    c.in-Err-JournalFull.is ∙ ap Err c.in-Err-JournalFull.field-0-is in
    let err = rw is at e.err in
    call_too_much (rules_of g.R.Runner.meaning core) c.args.lane core c.end-store.new.self c.args.run c.requires.wants
    refl c.app_step.result full e.blocked is (e.full full is)
    (ended_same g.R.Runner.meaning c.args.lane core c.app_step.new.self c.end-store.new.self c.args.run
    c.app_step.new.run kind.JournalFull err.0 err.1 c.end-store.ensures)

pub returns-in-Err-Memory-clause-turn : goal.returns-in-Err-Memory-clause-turn
returns-in-Err-Memory-clause-turn g c =
    let e = c.app_step.ensures in
    let core = c.args.self.now.core in
    let dead = c.in-Err-Memory in
    let is : c.app_step.result ≡ Err stop.Memory = dead.is ∙ ap Err dead.field-0-is in
    let err = rw is at e.err in
    call_dead (rules_of g.R.Runner.meaning core) c.args.lane core c.end-store-in-Err-Memory.new.self c.args.run
    c.requires.wants refl
    (ended_same g.R.Runner.meaning c.args.lane core c.app_step.new.self c.end-store-in-Err-Memory.new.self c.args.run
    c.app_step.new.run kind.Memory err.0 err.1 c.end-store-in-Err-Memory.ensures)

pub returns-in-Ok-clause-leaves : goal.returns-in-Ok-clause-leaves
returns-in-Ok-clause-leaves g c =
    let going = rw c.in-Ok.is at c.app_step.ensures.going in (c.app_step.new.run, refl, going.0, going.1)
