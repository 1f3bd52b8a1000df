use Rattle.asp_io.proofs.Reading.{kept_rest}
use Rattle.asp_io.proofs.std_in.read_some.Goals as goal

pub returns-clause-kept : goal.returns-clause-kept
returns-clause-kept g c = kept_rest _ _ _ _ c.copy_start.ensures.count c.copy_start.ensures.into
