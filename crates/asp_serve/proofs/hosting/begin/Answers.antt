use Rattle.std.proofs.Common.{Some, ◌++◌, ◌∷◌, []}
use Rattle.std.proofs.lemmas.List.Elements.{All-pop, All-push, All-same}
use Rattle.asp_serve.specs.Visits.{IsFreeHand}
use Rattle.asp_serve.proofs.hosting.begin.Goals as goal

pub start-requires : goal.start-requires
start-requires g c =
    (All-pop (IsFreeHand g.R.Runner.meaning g.R.Runner.stands c.args.host.now) c.args.hands.items c.pop.new.self.items
    (Some c.in-Some.hand) c.in-Some.ensures.items c.requires).1.0

pub returns-clause-hands : goal.returns-clause-hands
returns-clause-hands g c =
    let Free = IsFreeHand g.R.Runner.meaning g.R.Runner.stands c.args.host.now in
    let rest = (All-pop Free c.args.hands.items c.pop.new.self.items (Some c.in-Some.hand) c.in-Some.ensures.items
    c.requires).0 in
    All-same Free c.push_reserved.new.self.items (c.pop.new.self.items ++ c.start.new.hand ∷ [])
    c.push_reserved.ensures.items
    (All-push Free c.pop.new.self.items c.start.new.hand rest c.in_ok-start.ensures.hand)
