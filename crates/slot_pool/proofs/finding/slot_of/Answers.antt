use Rattle.std.proofs.Common.{sym}
use Rattle.slot_pool.proofs.Entries.{found_there}
use Rattle.slot_pool.proofs.finding.slot_of.Goals as goal

pub returns-then-holds-clause-value : goal.returns-then-holds-clause-value
returns-then-holds-clause-value g c =
    found_there c.args.slots.now c.args.keys.now c.args.next c.args.key c.requires.rising c.requires.listed
    (sym c.if-holds.ensures)

pub returns-in-Some-clause-value : goal.returns-in-Some-clause-value
returns-in-Some-clause-value g c =
    rw (← c.in-Some.ensures.found.0) (found_there c.args.slots.now c.args.keys.now c.args.next c.in-Some.there c.requires.rising
    c.requires.listed c.in-Some.ensures.there)
