use Rattle.std.proofs.Common.{◌≡◌, ◌++◌, length}
use Rattle.vb_syntax.specs.grammar.Words.{name_of}
use Rattle.vb_read.specs.Reader as reader
use Rattle.vb_read.specs.ReadExpressions.{list_of, more_of}
use Rattle.vb_read.proofs.simple.names.Given as goal

abbrev pub invariant-loop-cursor : goal.invariant-loop-cursor
invariant-loop-cursor l = list_of (reader.one name_of) l.fn.cursor.rest.now
    ≡ reader.and_then (more_of (reader.one name_of) l.cursor.rest.now) (λ more. reader.pure (l.found ++ more))

abbrev pub decreases-loop-cursor : goal.decreases-loop-cursor
decreases-loop-cursor l = length l.cursor.rest.now
