use Rattle.std.proofs.Common.{map, take}
use Rattle.asp_io.specs.Folder.{AreSitePaths, path_of}
use Rattle.asp_io.proofs.sure_folder.are_site_paths.Given as goal

abbrev pub invariant-loop-at : goal.invariant-loop-at
invariant-loop-at l = AreSitePaths (map path_of (take l.at l.files))
