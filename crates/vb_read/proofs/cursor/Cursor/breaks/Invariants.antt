use Rattle.std.proofs.Common.{◌≡◌, length}
use Rattle.vb_syntax.specs.grammar.Statements.{break_of}
use Rattle.vb_read.specs.Reader as reader
use Rattle.vb_read.specs.ReadLines as spec
use Rattle.vb_read.proofs.cursor.Cursor.breaks.Given as goal

abbrev pub invariant-loop-self : goal.invariant-loop-self
invariant-loop-self l = reader.◌>>◌ (reader.many spec.breaks (reader.one break_of)) (reader.pure (tt {0}))
    l.fn.self.rest.now
    ≡ reader.◌>>◌ (reader.many spec.breaks (reader.one break_of)) (reader.pure (tt {0})) l.self.rest.now

abbrev pub decreases-loop-self : goal.decreases-loop-self
decreases-loop-self l = length l.self.rest.now
