use Rattle.std.proofs.Common.{◌≡◌, take}
use Rattle.asp_job.proofs.copying.copy_dictionaries.Given as goal

abbrev pub invariant-loop-dictionary : goal.invariant-loop-dictionary
invariant-loop-dictionary l = l.copies ≡ take l.dictionary-index l.dictionaries
