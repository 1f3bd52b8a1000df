use Rattle.std.proofs.Common.{length}
use Rattle.vb_objects.proofs.asking.+answering.Given as goal

abbrev pub decreases-answered : goal.decreases-answered
decreases-answered g l = length l.playing.now.replies.now
