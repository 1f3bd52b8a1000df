use Rattle.front_cases.proofs.requests.feed.Goals as goal

pub loop-piece-preserved : goal.loop-piece-preserved
loop-piece-preserved c = (rw c.in-More.is at c.in_ok-take_requests.ensures).2.gives
