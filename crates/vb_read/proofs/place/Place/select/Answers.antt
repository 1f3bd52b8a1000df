use Rattle.std.proofs.Common.{◌<◌, arith}
use Rattle.vb_read.specs.Depths.{rules}
use Rattle.vb_read.specs.ReadStatements.{blocks_inside}
use Rattle.vb_read.proofs.Cases.{opens_some, select_from}
use Rattle.vb_read.proofs.place.Place.select.Goals as goal

pub returns : goal.returns
returns g c =
    let some : 0 < c.args.self.now.depth = omega arith in
    rw (select_from (rules c.args.self.now.looser) c.args.self.now.depth
    (blocks_inside (rules c.args.self.now.looser) c.args.self.now.depth) c.args.cursor.now.rest.now _ _ _ _ _ _ _ _ _ _
    (opens_some c.args.self.now.depth some) c.in_ok-line.ensures c.in_ok-keyword.ensures c.in_ok-subject.ensures
    c.in_ok-end.ensures c.in_ok-passed_texts.ensures c.in_ok-cases.ensures) c.with_last.ensures
