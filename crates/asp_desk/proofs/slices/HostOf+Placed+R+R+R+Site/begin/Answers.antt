use Rattle.std.proofs.Common.{◌≡◌, ◌∙◌, ap, sym, subst, None, IfOk, OnErr}
use Rattle.asp_core.specs.Kernel.{rules_of}
use Rattle.asp_desk.specs.Hands.{core_at, run_in}
use Rattle.asp_desk.specs.Slices.{HasBegun}
use Rattle.asp_desk.specs.Steps.{Begins, run_of}
use Rattle.asp_desk.proofs.Slicing.{begun_rests, has_begun, none_begun}
use Rattle.asp_desk.proofs.Turning.{core_next, grows_found, hand_is, holds_at, house_found, one_turn}
use Rattle.asp_desk.proofs.slices.HostOf+Placed+R+R+R+Site.begin.Goals as goal

pub shut-requires : goal.shut-requires
shut-requires g c =
    let opened = c.open-number.ensures in
    let host = c.args.self.now in
    let core = c.state-placed.result.now.core in
    let next = c.begin-done.new.self.core in
    let done = c.begin-done.ensures in
    let found = c.open-number.result.1.seen in
    let is : core ≡ core_at host found = rw c.state-placed.ensures.state opened.core in
    record {
      fixed = opened.lane.1 ∙ c.requires.hand.0.1;
      house = house_found host found core next is done.house;
      grows = grows_found g.R.Runner.meaning g.R.Runner.stands host c.open-number.result.1.number
          c.open-number.result.0 c.args.hand.now.lane.number found core next is opened.number done.grows;
      short = done.short;
    }

pub returns-clause-hand : goal.returns-clause-hand
returns-clause-hand g c =
    let opened = c.open-number.ensures in
    let host = c.args.self.now in
    let core = c.state-placed.result.now.core in
    let next = c.begin-done.new.self.core in
    let done = c.begin-done.ensures in
    let found = c.open-number.result.1.seen in
    let shut = c.shut.ensures in
    let hand = c.requires.hand in
    let is : core ≡ core_at host found = rw c.state-placed.ensures.state opened.core in
    hand_is g.R.Runner.meaning g.R.Runner.stands host c.shut.new.hand next c.open-number.result.0
    (run_of c.begin-done.result) (shut.lane.0 ∙ opened.lane.0 ∙ hand.0.0, shut.lane.2 ∙ opened.lane.1 ∙ hand.0.1)
    (core_next host found c.shut.new.hand.lane.seen next (house_found host found core next is done.house) shut.seen)
    (shut.lane.1 ∙ opened.number.1 ∙ sym opened.number.0) (shut.run ∙ ap run_in c.put.ensures ∙
    c.loaded-load.ensures.load)
    (done.holds (holds_at g.R.Runner.meaning g.R.Runner.stands host core found c.open-number.result.0
    c.args.hand.now.lane.number c.args.hand.now.run None is opened.number.0 c.requires.free opened.holds))
    (begun_rests c.begin-done.result done.going)

pub returns-clause-turn : goal.returns-clause-turn
returns-clause-turn g c =
    let opened = c.open-number.ensures in
    let core = c.state-placed.result.now.core in
    let next = c.begin-done.new.self.core in
    let done = c.begin-done.ensures in
    let shut = c.shut.ensures in
    one_turn g.R.Runner.meaning c.args.self.now c.args.hand.now.lane c.shut.new.hand.lane c.open-number.result.1 core
    next c.open-number.result.0 Begins c.loaded-load.result.1 (rw c.state-placed.ensures.state opened.core)
    opened.number
    opened.lane opened.fits
    (subst (λ b. Begins (rules_of g.R.Runner.meaning core) c.open-number.result.0 core.journal b next.journal)
    (sym c.loaded-load.ensures.begun) done.turn) done.grows shut.seen shut.own shut.lane

pub returns-clause-ok : goal.returns-clause-ok
returns-clause-ok g c =
    let held = c.shut.ensures.run ∙ ap run_in c.put.ensures ∙ c.loaded-load.ensures.load in
    subst (λ b. IfOk b (λ number. HasBegun c.shut.new.hand.run number)) (sym c.loaded-load.ensures.begun)
    (has_begun c.begin-done.result c.shut.new.hand.run held c.begin-done.ensures.going)

pub returns-clause-err : goal.returns-clause-err
returns-clause-err g c =
    let held = c.shut.ensures.run ∙ ap run_in c.put.ensures ∙ c.loaded-load.ensures.load in
    subst (λ b. OnErr b (c.shut.new.hand.run ≡ None)) (sym c.loaded-load.ensures.begun)
    (none_begun c.begin-done.result c.shut.new.hand.run held)
