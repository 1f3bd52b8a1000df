use Rattle.run_cases.proofs.requests.feed_singly.Goals as goal

pub loop-place-preserved : goal.loop-place-preserved
loop-place-preserved c = (rw c.in-More.is at c.in_ok-take_requests.ensures).2.gives
