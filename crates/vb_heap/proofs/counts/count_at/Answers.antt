use Rattle.std.proofs.Common.{ap, sym, ◌∙◌}
use Rattle.std.specs.Option.{option_map}
use Rattle.vb_heap.proofs.Parts.{parts_numbered}
use Rattle.vb_heap.proofs.counts.count_at.Goals as goal

pub returns-in-Some : goal.returns-in-Some
returns-in-Some c =
    rw (sym c.counts.view_is)
    (sym (parts_numbered (λ count. count.count) c.args.number c.counts.inside.pool.entries
    ∙ ap (option_map (λ count. count.count)) (rw c.by_number.ensures at (sym c.in-Some.ensures))))

pub returns-in-None : goal.returns-in-None
returns-in-None c =
    rw (sym c.counts.view_is)
    (sym (parts_numbered (λ count. count.count) c.args.number c.counts.inside.pool.entries
    ∙ ap (option_map (λ count. count.count)) (rw c.by_number.ensures at (sym c.in-None.ensures))))
