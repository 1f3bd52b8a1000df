use Rattle.std.proofs.Common.{◌≡◌, None, Option, Some, sym, subst}
use Rattle.asp_desk.specs.Calls.{Halts}
use Rattle.asp_desk.specs.Hands.{rules_at}
use Rattle.asp_serve.specs.declared.visits.Early.{Early}
use Rattle.asp_serve.specs.Visits.{Ends, MayFail, early_slice}
use Rattle.asp_serve.proofs.Visiting.{idle_then, later_turn, loop_ends, met_then}
use Rattle.asp_serve.proofs.visits.Visits.finish.Goals as goal

pub loop-preserved-in-Some-early_slice : goal.loop-preserved-in-Some-early_slice
loop-preserved-in-Some-early_slice g c =
    let fails = MayFail g.W.Wire.faults in
    let rules = rules_at g.R.Runner.meaning c.args.host.now in
    let met : early_slice c.work_loop.result ≡ Some c.in-Some-early_slice.met =
    cc (c.early_slice.ensures, c.in-Some-early_slice.is) in
    let looped = loop_ends g.R.Runner.pace g.R.Runner.meaning g.R.Runner.stands c.args.host.now
    (g.G.Gate.may_hold c.args.self.now.gate.now) fails c.loop.hand c.work_loop.new.hand c.work_loop.result
    c.work_loop.ensures.slices in
    let ends = subst (λ (made : Option Early). Ends fails rules c.loop.hand.lane made c.work_loop.new.hand.lane) met
    looped in
    let halted = later_turn (Halts c.work_loop.new.hand.lane.number) c.work_loop.new.hand.lane c.halt.new.hand.lane tt
    c.halt.ensures.turn in (
      c.halt.ensures.hand,
      subst (λ (one : Early). Ends fails rules c.args.hand.now.lane (Some one) c.halt.new.hand.lane)
          (sym c.unwrap_or.ensures)
          (met_then fails rules c.args.hand.now.lane c.loop.hand.lane c.work_loop.new.hand.lane c.halt.new.hand.lane
          c.loop.early c.in-Some-early_slice.met c.loop.invariant.1 ends halted),
    )

pub returns-in-None-early_slice-clause-ends : goal.returns-in-None-early_slice-clause-ends
returns-in-None-early_slice-clause-ends g c =
    let fails = MayFail g.W.Wire.faults in
    let rules = rules_at g.R.Runner.meaning c.args.host.now in
    let met : early_slice c.work_loop.result ≡ None = cc (c.early_slice.ensures, c.in-None-early_slice.is) in
    let looped = loop_ends g.R.Runner.pace g.R.Runner.meaning g.R.Runner.stands c.args.host.now
    (g.G.Gate.may_hold c.args.self.now.gate.now) fails c.loop.hand c.work_loop.new.hand c.work_loop.result
    c.work_loop.ensures.slices in
    idle_then fails rules c.args.hand.now.lane c.loop.hand.lane c.work_loop.new.hand.lane c.loop.early
    c.loop.invariant.1
    (subst (λ (made : Option Early). Ends fails rules c.loop.hand.lane made c.work_loop.new.hand.lane) met looped)

pub loop-preserved : goal.loop-preserved
loop-preserved g c =
    let fails = MayFail g.W.Wire.faults in
    let rules = rules_at g.R.Runner.meaning c.args.host.now in
    let met : early_slice c.work_loop.result ≡ None = cc (c.early_slice.ensures, c.in-None-early_slice.is) in
    let looped = loop_ends g.R.Runner.pace g.R.Runner.meaning g.R.Runner.stands c.args.host.now
    (g.G.Gate.may_hold c.args.self.now.gate.now) fails c.loop.hand c.work_loop.new.hand c.work_loop.result
    c.work_loop.ensures.slices in (
      c.work_loop.ensures.hand,
      idle_then fails rules c.args.hand.now.lane c.loop.hand.lane c.work_loop.new.hand.lane c.loop.early
          c.loop.invariant.1
          (subst (λ (made : Option Early). Ends fails rules c.loop.hand.lane made c.work_loop.new.hand.lane) met looped),
    )
