use Rattle.std.proofs.Common.{rules}
use Rattle.asp_record.proofs.Refusals.{refused_rule, ruled_head}
use Rattle.asp_record.proofs.reading.ruled.Goals as goal

pub returns-in-None-clause-refused : goal.returns-in-None-clause-refused
returns-in-None-clause-refused c =
    refused_rule c.args.bytes.now c.args.seeded.now c.args.seed c.requires
    (record { size = search rules; bytes = search rules }) c.in-None.ensures

pub recording_from-requires : goal.recording_from-requires
recording_from-requires c =
    ruled_head c.args.bytes.now c.args.seeded.now c.in-Some.found.1.now c.args.seed c.in-Some.found.0 c.requires
    c.in-Some.ensures
