use Rattle.std.proofs.Common.{rules, ◌≡◌, ◌-◌, ◌^◌, ◌<◌, ◌≤◌, min, length, Ok}
use Rattle.vb_value.specs.Sound.{item_count}
use Rattle.vb_heap.specs.Cells.{read_of}
use Rattle.vb_meaning.specs.Shown.{shown}
use Rattle.vb_world.proofs.Resized.{into_heavy}
use Rattle.vb_world.proofs.resizing.array_into.Goals as goal

pub returns-then-len : goal.returns-then-len
returns-then-len c =
    let there : read_of c.args.place.now (shown c.args.world.now).store ≡ Ok c.in_ok-look.field-0.now
    = search rules in
    let heavy : 524288 ≤ min (item_count c.args.bounds) (2 ^ 64 - 1) = search rules in
    let flat : length c.args.place.now.steps < 64 = search rules in
    λ apart. into_heavy c.args.place.now c.args.bounds c.in_ok-look.field-0.now (shown c.args.world.now) there heavy flat
