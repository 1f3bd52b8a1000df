use Rattle.std.proofs.Common.{◌≡◌, ◌<◌, ◌≤◌, ◌^◌, IfSome, take}
use Rattle.std.specs.List.{sum_by}
use Rattle.site_load.specs.Files.{AreSmall, size_of}
use Rattle.site_load.specs.Reading.{AreRead}
use Rattle.site_load.proofs.files.read_files.Given as goal

abbrev pub invariant-loop-path : goal.invariant-loop-path
invariant-loop-path g l = record {
  same : g.F.Folder.files l.folder ≡ g.F.Folder.files l.fn.folder;
  read : IfSome (g.F.Folder.files l.fn.folder) (λ all. AreRead all (take l.path-index l.paths) l.files);
  small : AreSmall l.files;
  total : l.total ≡ sum_by size_of l.files;
  later : g.F.Folder.faults l.fn.folder ≤ g.F.Folder.faults l.folder;
  within : g.F.Folder.faults l.fn.folder < 2 ^ 64 → g.F.Folder.faults l.folder < 2 ^ 64;
}
