use Rattle.asp_record.specs.Recording.{First}
use Rattle.asp_record.proofs.Refusals.{plain_head, refused_seed}
use Rattle.asp_record.proofs.reading.first_version.Goals as goal

pub returns-in-None-clause-refused : goal.returns-in-None-clause-refused
returns-in-None-clause-refused c = refused_seed c.args.bytes.now c.args.named.now First c.requires c.in-None.ensures

pub recording_from-requires : goal.recording_from-requires
recording_from-requires c =
    plain_head c.args.bytes.now c.args.named.now c.in-Some.found.1.now c.in-Some.found.0 c.requires c.in-Some.ensures
