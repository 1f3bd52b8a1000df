use Rattle.std.proofs.Common.{◌∙◌, ◌++◌, List, ap}
use Rattle.asp_site.specs.Spots.{spots, spots_of}
use Rattle.asp_site.specs.declared.site.LineSpot.{LineSpot}
use Rattle.asp_site.proofs.SpotPlaces.{grown, length-grown}
use Rattle.asp_site.proofs.lines.Lines.add.Goals as goal

pub invariant_of-self-2 : goal.invariant_of-self-2
invariant_of-self-2 c = length-grown (spots_of c.self.inside.stretches) (spots_of c.push.new.self) c.args.path.now
    c.args.first c.args.count c.self.inside.len c.in_ok-len.len c.self.invariant c.in_ok-len.ensures
    (grown c.self.inside.stretches c.push.new.self _ c.args.path.now c.in_ok-copy.ensures c.in_ok-push.ensures)

pub returns : goal.returns
returns c =
    grown c.self.inside.stretches c.push.new.self _ c.args.path.now c.in_ok-copy.ensures c.in_ok-push.ensures
    ∙ ap (λ (lines : List LineSpot). lines ++ spots c.args.path.now c.args.first c.args.count) c.self.view_is
