use Rattle.asp_record.specs.Recording.{Second}
use Rattle.asp_record.proofs.Refusals.{refused_seed, seeded}
use Rattle.asp_record.proofs.reading.second_version.Goals as goal

pub returns-in-None-clause-refused : goal.returns-in-None-clause-refused
returns-in-None-clause-refused c = refused_seed c.args.bytes.now c.args.named.now Second c.requires c.in-None.ensures

pub ruled-requires : goal.ruled-requires
ruled-requires c =
    seeded c.args.bytes.now c.args.named.now c.in-Some.found.1.now c.in-Some.found.0 c.requires c.in-Some.ensures
