use Rattle.asp_record.proofs.Refusals.{refused_first}
use Rattle.asp_record.proofs.reading.recording_at.Goals as goal

pub returns-in-None-clause-refused : goal.returns-in-None-clause-refused
returns-in-None-clause-refused c = refused_first c.args.bytes.now c.in_default.ensures c.in-None.ensures
