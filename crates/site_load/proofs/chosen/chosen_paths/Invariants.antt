use Rattle.std.proofs.Common.{take}
use Rattle.site_load.specs.Picking.{HasPicked}
use Rattle.site_load.proofs.chosen.chosen_paths.Given as goal

abbrev pub invariant-loop-name : goal.invariant-loop-name
invariant-loop-name l = HasPicked (take l.name-index l.names) l.picked
