use Rattle.std.proofs.Common.{◌≡◌, filter, map}
use Rattle.std.specs.Map.{keys_of}
use Rattle.std.specs.Map.Iter.{deref_pair}
use Rattle.asp_session.specs.Account.{is_due}
use Rattle.asp_session.proofs.keys.due.Given as goal

abbrev pub invariant-loop-key : goal.invariant-loop-key
invariant-loop-key l = l.due ≡ keys_of (filter (is_due l.moment l.waiting) (map deref_pair l.yielded))
