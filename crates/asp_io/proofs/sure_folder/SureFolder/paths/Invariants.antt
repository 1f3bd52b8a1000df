use Rattle.std.proofs.Common.{◌≡◌, map, take}
use Rattle.asp_io.specs.Folder.{path_of}
use Rattle.asp_io.proofs.sure_folder.SureFolder.paths.Given as goal

abbrev pub invariant-loop-file : goal.invariant-loop-file
invariant-loop-file l = l.paths ≡ map path_of (take l.file-index l.file-items)
