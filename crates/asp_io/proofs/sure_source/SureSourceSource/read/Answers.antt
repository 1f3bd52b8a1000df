use Rattle.asp_io.proofs.Reading.{reads_from}
use Rattle.asp_io.proofs.sure_source.SureSourceSource.read.Goals as goal

pub returns-clause-ok : goal.returns-clause-ok
returns-clause-ok c =
    let count = rw c.as_slice.ensures at c.copy_start-count.ensures.count in
    let into = rw c.as_slice.ensures at c.copy_start-count.ensures.into in
    reads_from c.self.inside.bytes _ _ _ c.self.inside.place _ c.self.view_is count into
