use Rattle.std.proofs.Common.{length}
use Rattle.vb_names.proofs.members.+groups_in.Given as goal

abbrev pub decreases-groups_in : goal.decreases-groups_in
decreases-groups_in l = length l.pattern.now
