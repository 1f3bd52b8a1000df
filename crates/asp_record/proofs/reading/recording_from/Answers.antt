use Rattle.asp_record.proofs.Refusals.{opened}
use Rattle.asp_record.proofs.reading.recording_from.Goals as goal

pub ended-requires-clause-text : goal.ended-requires-clause-text
ended-requires-clause-text c =
    opened c.args.bytes.now c.args.begun.now c.in_ok-items.rest.now c.args.seed c.args.strict c.in_ok-items.items
    c.requires c.in_ok-items.ensures.text
