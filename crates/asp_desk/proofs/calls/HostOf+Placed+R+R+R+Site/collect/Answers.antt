use Rattle.std.proofs.Common.{◌∙◌}
use Rattle.asp_desk.specs.Calls.{Collects}
use Rattle.asp_desk.proofs.Adding.{adds_grow}
use Rattle.asp_desk.proofs.Turning.{leaves_runs, one_turn}
use Rattle.asp_desk.proofs.calls.HostOf+Placed+R+R+R+Site.collect.Goals as goal

pub shut_event-requires : goal.shut_event-requires
shut_event-requires g c =
    let opened = c.open-number.ensures in
    let core = c.state-placed.result.now.core in
    let next = c.collect-done.new.self.core in
    let done = c.collect-done.ensures in
    let hand = c.requires in
    record {
      desk = (opened.lane.0 ∙ hand.0.0, opened.lane.1 ∙ hand.0.1);
      leaves = leaves_runs g.R.Runner.meaning g.R.Runner.stands c.args.self.now c.open-number.result.1.number
          c.open-number.result.0 c.args.hand.now.lane.number c.open-number.result.1.seen core next c.args.hand.now.run
          c.open-number.new.hand.run (rw c.state-placed.ensures.state opened.core) opened.number done.adds done.house
          done.valid done.short opened.holds hand.2 opened.run;
    }

pub returns-clause-turn : goal.returns-clause-turn
returns-clause-turn g c =
    let opened = c.open-number.ensures in
    let core = c.state-placed.result.now.core in
    let next = c.collect-done.new.self.core in
    let shut = c.shut_event.ensures in
    one_turn g.R.Runner.meaning c.args.self.now c.args.hand.now.lane c.shut_event.new.hand.lane c.open-number.result.1
    core next c.open-number.result.0 (λ rules lane. Collects rules lane c.args.run) c.collect-done.result
    (rw c.state-placed.ensures.state opened.core) opened.number opened.lane opened.fits c.collect-done.ensures.turn
    (adds_grow c.open-number.result.0 core.journal next.journal c.collect-done.ensures.adds) shut.seen shut.own
    shut.lane
