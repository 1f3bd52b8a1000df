use Rattle.std.proofs.Common.{◌≡◌, ◌<◌, ◌≤◌, ◌+◌, ◌-◌, ◌*◌, true, length}
use Rattle.vb_strings.specs.Searching.{stands}
use Rattle.vb_strings.proofs.Searched.{Searched}
use Rattle.vb_strings.proofs.places.last_place_in.Given as goal

abbrev pub invariant-loop-start : goal.invariant-loop-start
invariant-loop-start l = record {
  searched : Searched l.comparison l.text l.pattern l.last l.start l.matched;
  within : l.last ≤ length l.text;
  last : 0 < l.last → stands l.comparison l.text l.pattern (l.last - 1) ≡ true;
}

abbrev pub decreases-loop-start : goal.decreases-loop-start
decreases-loop-start l = 2 * length l.text - (2 * l.start + l.matched)
