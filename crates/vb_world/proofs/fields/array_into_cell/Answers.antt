use Rattle.std.proofs.Common.{rules, ◌≡◌, ◌+◌, ◌*◌, ◌-◌, ◌^◌, min, nat_lt, true, Ok}
use Rattle.vb_value.specs.Sound.{item_count}
use Rattle.vb_heap.specs.Cells.{read_of}
use Rattle.vb_heap.specs.Limits.{most_weight}
use Rattle.vb_meaning.specs.Places.{cell_place}
use Rattle.vb_meaning.specs.Shown.{shown}
use Rattle.vb_world.proofs.FieldArrays.{array_refused}
use Rattle.vb_world.proofs.fields.array_into_cell.Goals as goal

pub returns-then-is_more_than_a_page : goal.returns-then-is_more_than_a_page
returns-then-is_more_than_a_page c =
    let reads : Ok c.in_ok-look.field-0.now ≡ read_of (cell_place c.args.cell) (shown c.args.world.now).store
    = search rules in
    let heavy : nat_lt most_weight (32 + 32 * min (item_count c.args.bounds.now) (2 ^ 64 - 1)) ≡ true
    = search rules in
    λ apart. array_refused c.args.cell c.args.is_fixed c.args.bounds.now (shown c.args.world.now)
    c.in_ok-look.field-0.now reads heavy
