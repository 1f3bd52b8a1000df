use Rattle.std.proofs.Common.{◌∙◌, Err, [], ap, subst, sym}
use Rattle.asp_core.specs.Kernel.{past_of, rules_of}
use Rattle.asp_get.proofs.Coming.{admit_get, asked_back, free_still, grows_job, stop_back}
use Rattle.asp_lane.proofs.Growing.{grows_more, host_grown}
use Rattle.asp_get.specs.Answered.{IsGetStop}
use Rattle.asp_lane.proofs.Turns.{grown_none}
use Rattle.asp_get.proofs.asking.ask.Goals as goal

pub go_through-gone-requires-clause-host : goal.go_through-gone-requires-clause-host
go_through-gone-requires-clause-host g c =
    let old = c.args.core.now in
    host_grown old c.admit.new.self c.args.runner.now c.args.site.now
    (grows_job g.R.Runner.meaning old c.admit.new.self c.args.job.now c.requires.ready c.in-Ok.ensures.ok)
    c.requires.host

pub go_through-gone-requires-clause-free : goal.go_through-gone-requires-clause-free
go_through-gone-requires-clause-free g c =
    free_still g.R.Runner.meaning c.args.core.now c.admit.new.self c.args.job.now c.requires.ready c.in-Ok.ensures.ok

pub returns-in-Ok-clause-grows : goal.returns-in-Ok-clause-grows
returns-in-Ok-clause-grows g c =
    let old = c.args.core.now in
    grows_more old c.admit.new.self c.go_through-gone.new.core
    (grows_job g.R.Runner.meaning old c.admit.new.self c.args.job.now c.requires.ready c.in-Ok.ensures.ok)
    c.go_through-gone.ensures.grows

pub returns-in-Ok-clause-ok : goal.returns-in-Ok-clause-ok
returns-in-Ok-clause-ok g c =
    let meaning = g.R.Runner.meaning in
    let old = c.args.core.now in
    let mid = c.admit.new.self in
    let new = c.go_through-gone.new.core in
    let job = c.args.job.now in
    rw c.number_back.ensures (asked_back meaning old mid job c.requires.ready c.in-Ok.ensures.ok c.in-Ok.told new
    c.go_through-gone.result c.in-Ok.ensures.told c.journal.ensures.within c.go_through-gone.ensures.grows
    c.journal-in-Ok.ensures.valid c.go_through-gone.ensures.ok)

pub returns-in-Ok-clause-err : goal.returns-in-Ok-clause-err
returns-in-Ok-clause-err g c =
    let m = rules_of g.R.Runner.meaning c.args.core.now in
    rw c.number_back.ensures (stop_back g.R.Runner.meaning c.args.core.now c.admit.new.self c.args.job.now
    c.requires.ready c.in-Ok.ensures.ok c.in-Ok.told.run c.go_through-gone.result c.journal.ensures.within
    c.go_through-gone.ensures.err)

pub returns-in-Err-clause-grows : goal.returns-in-Err-clause-grows
returns-in-Err-clause-grows g c = ([], c.in-Err.ensures.err ∙ sym (grown_none c.args.core.now))

pub returns-in-Err-clause-err : goal.returns-in-Err-clause-err
returns-in-Err-clause-err g c =
    let m = rules_of g.R.Runner.meaning c.args.core.now in
    subst (λ ended. IsGetStop m c.args.job.now ended) (sym c.from.ensures)
    (admit_get m (past_of c.args.core.now) c.args.job.now c.in-Err.stop c.requires.ready
    (λ full same. c.in-Err.ensures.full full (ap Err same)))
