use Rattle.std.proofs.Common.{length}
use Rattle.asp_command.proofs.options.+further.Given as goal

abbrev pub decreases-further : goal.decreases-further
decreases-further l = length l.words.now
