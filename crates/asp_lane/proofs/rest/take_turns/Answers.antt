use Rattle.std.proofs.Common.{arith}
use Rattle.asp_lane.specs.Turns.{run_in}
use Rattle.asp_lane.proofs.Many.{host_stays, one_more}
use Rattle.asp_lane.proofs.rest.take_turns.Goals as goal

pub returns-then-not-goes_on-clause-turns : goal.returns-then-not-goes_on-clause-turns
returns-then-not-goes_on-clause-turns g c = record {
  count = c.loop.counter;
  mid = c.loop.core;
  held = run_in c.loop.load;
  before = c.loop.invariant.turned;
  last_turn = c.take_turn-next.ensures.turn;
  many = λ more. absurd (let told = c.goes_on.ensures in
      let test = c.if-not-goes_on.true in let one = c.if-not-goes_on.ensures in cc);
}

pub loop-preserved : goal.loop-preserved
loop-preserved g c =
    let is = c.take_turn-next.ensures.turn in record {
      host = host_stays g.R.Runner.meaning g.R.Runner.stands c.args.lane c.loop.core c.take_turn-next.new.core
          (run_in c.loop.load) (run_in c.take_turn-next.result.0) c.take_turn-next.result.1 c.args.runner.now
          c.args.site.now c.loop.invariant.host is;
      fits = is.fits;
      turned = one_more g.R.Runner.meaning g.R.Runner.stands c.args.lane c.args.core.now c.loop.core
          c.take_turn-next.new.core (run_in c.args.load) (run_in c.loop.load) (run_in c.take_turn-next.result.0)
          c.loop.counter c.take_turn-next.result.1 c.loop.invariant.turned is;
    }

pub returns-clause-turns : goal.returns-clause-turns
returns-clause-turns g c = record {
  count = c.loop.counter;
  mid = c.loop.core;
  held = run_in c.loop.load;
  before = c.loop.invariant.turned;
  last_turn = c.take_turn.ensures.turn;
  many = λ more. (let end = c.loop-test.false in omega arith);
}
