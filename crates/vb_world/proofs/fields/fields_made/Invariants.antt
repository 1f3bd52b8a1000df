use Rattle.std.proofs.Common.{◌≡◌, length}
use Rattle.vb_meaning.specs.Making.{fields_made}
use Rattle.vb_meaning.specs.Shown.{shown}
use Rattle.vb_world.proofs.fields.fields_made.Given as goal

abbrev pub invariant-loop-fields : goal.invariant-loop-fields
invariant-loop-fields l =
    fields_made l.object 0 l.fn.fields (shown l.fn.world) ≡ fields_made l.object l.number l.fields (shown l.world)

abbrev pub decreases-loop-fields : goal.decreases-loop-fields
decreases-loop-fields l = length l.fields
