use Rattle.std.proofs.Common.{◌≡◌, take}
use Rattle.vb_names.proofs.Hashing.{hashed_so_far}
use Rattle.vb_names.proofs.key.hash_of.Given as goal

abbrev pub invariant-loop-letter : goal.invariant-loop-letter
invariant-loop-letter l = l.hash ≡ hashed_so_far (take l.letter-index l.name)
