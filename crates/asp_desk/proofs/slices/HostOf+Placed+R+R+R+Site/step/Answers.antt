use Rattle.std.proofs.Common.{◌≡◌, ◌∙◌, ap, sym, subst, IfSome, Option, Some}
use Rattle.asp_core.specs.Kernel.{CoreView, IsRunOf, RunView, rules_of}
use Rattle.asp_desk.specs.Hands.{HandView, core_at, load_run, run_in}
use Rattle.asp_desk.specs.Steps.{Leaves, Steps}
use Rattle.asp_desk.proofs.Slicing.{leaves_rest}
use Rattle.asp_desk.proofs.Turning.{core_next, hand_is, house_found, one_turn}
use Rattle.asp_desk.proofs.slices.HostOf+Placed+R+R+R+Site.step.Goals as goal

pub returns-clause-hand : goal.returns-clause-hand
returns-clause-hand g c =
    let opened = c.open-number.ensures in
    let host = c.args.self.now in
    let core = c.state-placed.result.now.core in
    let next = c.step-load.new.self.core in
    let done = c.step-load.ensures in
    let found = c.open-number.result.1.seen in
    let shut = c.shut.ensures in
    let held = load_run c.step-load.result.0 in
    let is : core ≡ core_at host found = rw c.state-placed.ensures.state opened.core in
    hand_is g.R.Runner.meaning g.R.Runner.stands host c.shut.new.hand next c.open-number.result.0 held
    (shut.lane.0 ∙ opened.lane.0 ∙ c.requires.lane.0, shut.lane.2 ∙ opened.lane.1 ∙ c.requires.lane.1)
    (core_next host found c.shut.new.hand.lane.seen next (house_found host found core next is done.house) shut.seen)
    (shut.lane.1 ∙ opened.number.1 ∙ sym opened.number.0) (shut.run ∙ ap run_in c.put.ensures) done.holds
    (leaves_rest (rules_of g.R.Runner.meaning core) c.open-number.result.0 c.in-Runs.run' core.journal next.journal
    c.step-load.result.1 held done.turn done.leaves)

pub returns-clause-steps : goal.returns-clause-steps
returns-clause-steps g c =
    let opened = c.open-number.ensures in
    let core = c.state-placed.result.now.core in
    let next = c.step-load.new.self.core in
    let done = c.step-load.ensures in
    let shut = c.shut.ensures in
    let run = c.in-Runs.run' in
    let host = c.args.self.now in
    let meaning = g.R.Runner.meaning in
    let stands = g.R.Runner.stands in
    let found = c.open-number.result.1.seen in
    let number = c.open-number.result.0 in
    let was : c.args.hand.now.run ≡ Some run = sym opened.run ∙ (ap (λ (h : HandView _ _ _). h.run) (sym c.hand.view_is)
    ∙ ap run_in (sym c.take.ensures.value ∙ c.in-Some.is ∙ ap Some c.in-Runs.is)) in
    let is : core ≡ core_at host found = rw c.state-placed.ensures.state opened.core in
    let at_found : IsRunOf meaning stands (core_at host found) c.args.hand.now.lane.number run =
    subst (λ (held : Option (RunView g.row.R-State.Denot)). IfSome held
    (IsRunOf meaning stands (core_at host found) c.args.hand.now.lane.number)) was opened.holds.run_is in
    let at_number : IsRunOf meaning stands (core_at host found) number run =
    subst (λ n. IsRunOf meaning stands (core_at host found) n run) (sym opened.number.0) at_found in
    let is_of : IsRunOf meaning stands (core_at host core.journal) number run =
    subst (λ journal. IsRunOf meaning stands (core_at host journal) number run)
    (sym (ap (λ (one : CoreView _ _). one.journal) is)) at_number in
    record {
      run = run;
      was = was;
      turn = one_turn meaning host c.args.hand.now.lane c.shut.new.hand.lane c.open-number.result.1 core next number
          (λ rules lane before stepped after. Steps rules lane run before stepped after
          × IsRunOf meaning stands (core_at host before) lane run)
          c.step-load.result.1 is opened.number opened.lane opened.fits (done.turn, is_of) done.grows shut.seen shut.own
          shut.lane;
      leaves = subst (Leaves run c.step-load.result.1) (sym (shut.run ∙ ap run_in c.put.ensures)) done.leaves;
    }
