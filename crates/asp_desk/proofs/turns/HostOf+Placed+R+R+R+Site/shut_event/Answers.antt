use Rattle.std.proofs.Common.{◌∙◌}
use Rattle.asp_desk.proofs.Adding.{adds_grow}
use Rattle.asp_desk.proofs.Turning.{hand_after}
use Rattle.asp_desk.proofs.turns.HostOf+Placed+R+R+R+Site.shut_event.Goals as goal

pub shut-requires : goal.shut-requires
shut-requires g c =
    let leaves = c.requires.leaves in
    record {
      fixed = c.requires.desk.1;
      house = leaves.house;
      grows = adds_grow c.args.turn.number c.args.turn.seen c.args.turn.state.core.journal leaves.adds;
      short = leaves.short;
    }

pub returns-clause-hand : goal.returns-clause-hand
returns-clause-hand g c =
    let shut = c.shut.ensures in
    let turn = c.args.turn in
    hand_after g.R.Runner.meaning g.R.Runner.stands c.args.self.now c.shut.new.hand turn.seen turn.state.core
    turn.number
    c.args.hand.now.run c.requires.leaves (shut.lane.0 ∙ c.requires.desk.0, shut.lane.2 ∙ c.requires.desk.1) shut.seen
    shut.lane.1 shut.run
