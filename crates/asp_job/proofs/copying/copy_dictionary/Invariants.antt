use Rattle.std.proofs.Common.{◌≡◌, take}
use Rattle.asp_job.proofs.copying.copy_dictionary.Given as goal

abbrev pub invariant-loop-pair : goal.invariant-loop-pair
invariant-loop-pair l = l.pairs ≡ take l.pair-index l.dictionary.pairs
