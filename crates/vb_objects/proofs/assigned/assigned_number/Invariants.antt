use Rattle.std.proofs.Common.{◌≡◌, ◌-◌, length, drop}
use Rattle.vb_meaning.specs.Objects.{procedure_named, takes_assigned}
use Rattle.vb_objects.proofs.assigned.assigned_number.Given as goal

abbrev pub invariant-loop-procedure : goal.invariant-loop-procedure
invariant-loop-procedure l = procedure_named l.name (takes_assigned l.how) l.procedures
    ≡ procedure_named l.name (takes_assigned l.how) (drop l.number l.procedures)

abbrev pub decreases-loop-procedure : goal.decreases-loop-procedure
decreases-loop-procedure l = length l.procedures - l.number
