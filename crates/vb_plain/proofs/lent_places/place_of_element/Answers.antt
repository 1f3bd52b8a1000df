use Rattle.std.proofs.Common.{rules, ◌≡◌, ◌<◌, Ok, refl}
use Rattle.vb_heap.specs.Cells.{read_of}
use Rattle.vb_meaning.specs.Places.{indices_of}
use Rattle.vb_meaning.specs.Step.{raising}
use Rattle.vb_objects.specs.Seen.{seen, host}
use Rattle.vb_plain.proofs.Lending.{element_reaches}
use Rattle.vb_plain.proofs.lent_places.place_of_element.Goals as goal

pub returns-in-Ok : goal.returns-in-Ok
returns-in-Ok g c =
    let some : 0 < c.args.levels = search rules in
    let holds : read_of c.in_ok-place.place c.args.playing.now.world.heap ≡ Ok c.in-Ok.whole.now = search rules in
    let are : raising (indices_of c.in_ok-found.found) ≡ Ok c.in_ok-numbers-in-Ok.numbers = search rules in
    element_reaches (g.row.I.Denot) (host g.I.Intrinsics.asked g.I.Intrinsics.answered) c.args.p.now c.args.levels
    c.args.expression.now c.in_ok-slot.slot c.in_ok-slot.step.now c.in_ok-indices.indices.now c.in_ok-place.place
    c.in-Ok.whole.now c.in_ok-found.found c.in_ok-numbers-in-Ok.numbers c.in_ok-element-in-Ok.element
    (seen c.args.playing.now c.args.env.now) some c.in_ok-slot.ensures c.in_ok-indices.ensures c.in_ok-place.ensures
    c.in_ok-found.ensures holds (c.if-is_array.ensures refl) are c.in_ok-element-in-Ok.ensures
    c.requires
