use Rattle.std.proofs.Common.{◌≡◌, ◌-◌, length, drop}
use Rattle.vb_meaning.specs.Objects.{procedure_named, is_read}
use Rattle.vb_objects.proofs.classes.read_number.Given as goal

abbrev pub invariant-loop-procedure : goal.invariant-loop-procedure
invariant-loop-procedure l = procedure_named l.name is_read l.procedures
    ≡ procedure_named l.name is_read (drop l.number l.procedures)

abbrev pub decreases-loop-procedure : goal.decreases-loop-procedure
decreases-loop-procedure l = length l.procedures - l.number
