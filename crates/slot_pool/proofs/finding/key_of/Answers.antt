use Rattle.std.proofs.Common.{sym}
use Rattle.slot_pool.proofs.Entries.{missed, lacks, found_held}
use Rattle.slot_pool.proofs.finding.key_of.Goals as goal

pub returns-then-holds-clause-found : goal.returns-then-holds-clause-found
returns-then-holds-clause-found g c = (
  c.in-Some.ensures.0,
  rw (← c.in-Some.ensures.0) (found_held c.args.slots.now c.args.keys.now c.args.next c.in-Some.key c.requires
      c.in-Some.ensures.1 (sym c.if-holds.ensures)),
)

pub returns-else-holds-clause-found : goal.returns-else-holds-clause-found
returns-else-holds-clause-found g c =
    rw (← c.in-Some.ensures.0) (missed c.args.slots.now c.args.keys.now c.args.next c.in-Some.key c.requires
    c.in-Some.ensures.1 (sym c.if-holds.ensures))

pub returns-in-None-clause-found : goal.returns-in-None-clause-found
returns-in-None-clause-found g c = lacks c.args.slots.now c.args.keys.now c.args.number c.in-None.ensures
