use Rattle.std.proofs.Common.{◌≡◌, ◌≤◌, vec_len, vec_capacity}
use Rattle.asp_desk.proofs.opening.stores.Given as goal

abbrev pub invariant-loop-made : goal.invariant-loop-made
invariant-loop-made g l = (vec_len l.stores ≡ l.made) × (l.count ≤ vec_capacity l.stores)
