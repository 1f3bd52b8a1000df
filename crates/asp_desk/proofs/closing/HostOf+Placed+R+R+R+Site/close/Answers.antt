use Rattle.std.proofs.Common.{◌≡◌, ◌∙◌, All, None, ap, map, subst, sym}
use Rattle.turn_desk.specs.Histories.{AreOfLanes}
use Rattle.turn_desk.specs.Shown.{AreAll, HasOwn, IsLaneOf, LaneFits}
use Rattle.asp_job.specs.declared.entry.Entry.{Entry}
use Rattle.asp_desk.specs.Hands.{HandView, HostView}
use Rattle.asp_desk.proofs.Ending.{all_ended}
use Rattle.asp_desk.proofs.Turning.{each_hand, lanes_are}
use Rattle.asp_desk.proofs.closing.HostOf+Placed+R+R+R+Site.close.Goals as goal

pub close-requires : goal.close-requires
close-requires g c =
    let is = c.from_vec.ensures ∙ c.lanes_of-lanes.ensures ∙ ap (map (λ (hand : HandView _ _ _). hand.lane))
    c.into_vec.ensures in
    subst (λ lanes. All (IsLaneOf c.self.inside.desk) lanes) (sym is)
    (lanes_are g.R.Runner.meaning g.R.Runner.stands c.self.inside.desk c.args.self c.args.hands
    (ap (λ (h : HostView g.row.R.Denot g.row.R-Site.Denot). h.desk) c.self.view_is) c.requires)

pub returns-clause-fits : goal.returns-clause-fits
returns-clause-fits g c =
    let is = c.from_vec.ensures ∙ c.lanes_of-lanes.ensures ∙ ap (map (λ (hand : HandView _ _ _). hand.lane))
    c.into_vec.ensures in
    each_hand (LaneFits (λ (entry : Entry). entry.lane) c.in-Ok.placed.core.journal) c.args.hands
    (subst (λ lanes. All (LaneFits (λ (entry : Entry). entry.lane) c.in-Ok.placed.core.journal) lanes) is
    c.in-Ok.ensures.fits)

pub returns-clause-of_lanes : goal.returns-clause-of_lanes
returns-clause-of_lanes g c =
    subst (λ n. AreOfLanes (λ (entry : Entry). entry.lane) n c.in-Ok.placed.core.journal)
    (ap (λ (h : HostView g.row.R.Denot g.row.R-Site.Denot). h.desk.lanes) c.self.view_is) c.in-Ok.ensures.of_lanes

pub returns-clause-free : goal.returns-clause-free
returns-clause-free g c =
    let are = (c.are_free.ensures).0 c.if-not-are_free.false in
    subst (λ hands. All (λ (hand : HandView _ _ _). hand.run ≡ None) hands) c.as_slice.ensures are

pub returns-clause-ended : goal.returns-clause-ended
returns-clause-ended g c =
    let is = c.from_vec.ensures ∙ c.lanes_of-lanes.ensures ∙ ap (map (λ (hand : HandView _ _ _). hand.lane))
    c.into_vec.ensures in
    let journal = c.in-Ok.placed.core.journal in
    let free = (c.are_free.ensures).0 c.if-not-are_free.false in
    all_ended g.R.Runner.meaning g.R.Runner.stands c.args.self journal c.args.hands c.self.inside.desk.lanes c.requires
    (subst (λ hands. All (λ (hand : HandView _ _ _). hand.run ≡ None) hands) c.as_slice.ensures free)
    (each_hand (HasOwn (λ (entry : Entry). entry.lane)) c.args.hands
    (subst (λ lanes. All (HasOwn (λ (entry : Entry). entry.lane)) lanes) is c.in-Ok.ensures.own))
    (each_hand (LaneFits (λ (entry : Entry). entry.lane) journal) c.args.hands
    (subst (λ lanes. All (LaneFits (λ (entry : Entry). entry.lane) journal) lanes) is c.in-Ok.ensures.fits))
    (subst (λ lanes. AreAll c.self.inside.desk.lanes lanes) is c.in-Ok.ensures.numbers) c.in-Ok.ensures.of_lanes
