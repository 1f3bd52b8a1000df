use Rattle.std.proofs.Common.{arith, ap, sym, ◌∙◌}
use Rattle.std.proofs.lemmas.List.{take_all}
use Rattle.vb_names.proofs.Hashing.{hashed_folded, hashed_so_far}
use Rattle.vb_names.proofs.key.hash_of.Goals as goal

pub returns : goal.returns
returns c = c.loop-letter.invariant
    ∙ ap hashed_so_far (take_all c.loop-letter.letter-index c.args.name.now (omega arith))
    ∙ sym (hashed_folded c.args.name.now)
