use Rattle.std.proofs.Common.{◌≡◌, take}
use Rattle.std.specs.List.{list_all}
use Rattle.vb_value.specs.Sound.{is_sound}
use Rattle.asp_objects.proofs.choosing.+sounding.Given as goal

abbrev pub invariant-are_sound-loop-item : goal.invariant-are_sound-loop-item
invariant-are_sound-loop-item l = l.sound ≡ list_all is_sound (take l.item-index l.items)
