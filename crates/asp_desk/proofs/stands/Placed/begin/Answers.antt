use Rattle.asp_core.specs.Kernel.{rules_of}
use Rattle.asp_desk.proofs.Stepping.{begin_holds, begins_grow, begins_turn}
use Rattle.asp_desk.proofs.stands.Placed.begin.Goals as goal

pub returns-clause-turn : goal.returns-clause-turn
returns-clause-turn g c =
    let e = c.begin-done.ensures in
    let core = c.args.self.now.core in
    begins_turn c.args.lane core c.begin-done.new.self (rules_of g.R.Runner.meaning core) c.begin-done.result e.next
    e.light e.begun e.idle e.full e.fits e.err

pub returns-clause-grows : goal.returns-clause-grows
returns-clause-grows g c =
    let e = c.begin-done.ensures in
    let core = c.args.self.now.core in
    let rules = rules_of g.R.Runner.meaning core in
    begins_grow c.args.lane core c.begin-done.new.self rules c.begin-done.result
    (begins_turn c.args.lane core c.begin-done.new.self rules c.begin-done.result e.next e.light e.begun e.idle e.full
    e.fits e.err)

pub returns-clause-holds : goal.returns-clause-holds
returns-clause-holds g c holds =
    let e = c.begin-done.ensures in
    let core = c.args.self.now.core in
    let rules = rules_of g.R.Runner.meaning core in
    begin_holds g.R.Runner.meaning g.R.Runner.stands c.args.lane core c.begin-done.new.self rules c.begin-done.result
    (begins_turn c.args.lane core c.begin-done.new.self rules c.begin-done.result e.next e.light e.begun e.idle e.full
    e.fits e.err) e.run e.err c.check.ensures.valid holds
