use Rattle.std.proofs.Common.{◌≡◌, take}
use Rattle.asp_objects.specs.Entries.{names_of}
use Rattle.asp_objects.proofs.entries.names_of.Given as goal

abbrev pub invariant-loop-entry : goal.invariant-loop-entry
invariant-loop-entry l = l.names ≡ names_of (take l.entry-index l.entries)
