use Rattle.std.proofs.Common.{◌≡◌, ◌++◌, take}
use Rattle.std.specs.List.{flat_map}
use Rattle.asp_response.specs.Finish.{next_pair}
use Rattle.asp_response.proofs.cookie_text.push_next_pairs.Given as goal

abbrev pub invariant-loop-pair : goal.invariant-loop-pair
invariant-loop-pair l = l.text ≡ l.initial.text ++ flat_map next_pair (take l.pair-index l.pairs)
