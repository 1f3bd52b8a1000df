use Rattle.std.proofs.Common.{subst, sym}
use Rattle.std.specs.List.{All}
use Rattle.asp_io.specs.Folder.{AreSitePaths, IsRooted}
use Rattle.asp_io.proofs.Sorting.{kept_paths}
use Rattle.asp_io.proofs.tree.in_order.Goals as goal

pub returns : goal.returns
returns c =
    let sorted = c.in_ok-sort.ensures in
    let rooted = subst (All IsRooted) (sym c.into_vec-paths.ensures) c.requires in
    let kept = kept_paths _ _ _ rooted sorted.permutation sorted.sorted c.dedup.ensures.filtered in
    subst AreSitePaths (sym c.from_vec.ensures) kept
