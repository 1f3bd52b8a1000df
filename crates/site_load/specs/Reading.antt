-- This crate's own: what was read of a folder, and why it stopped.
use Rattle.std.specs.Prelude.{◌≡◌, ℕ, ◌+◌, ◌<◌, ◌≤◌, Option, IfSome, List, map, take}
use Rattle.std.specs.List.{All, Contains}
use Rattle.vb_value.specs.declared.site_file.FaultKind.TheVariants.{TooLarge}
use Rattle.vb_value.specs.declared.site_file.SiteFault.{SiteFault}
use Rattle.vb_value.specs.declared.site_file.SiteFile.{SiteFile}
use Rattle.asp_io.specs.Folder.{path_of}
use Rattle.asp_io.specs.declared.fault.IoStop.{IoStop}
use Rattle.asp_io.specs.declared.fault.IoStop.TheVariants.{Failed, Memory as NoMemory}
use Rattle.site_load.specs.declared.stop.LoadStop.{LoadStop}
use Rattle.site_load.specs.declared.stop.LoadStop.TheVariants.{ReadFault, Refused, Memory}
use Rattle.site_load.specs.Files.{IsTooLargeAt, most_files, most_of_file, most_of_site}

-- what the stop of a folder is to a call that reads its site
abbrev pub stop_of_folder : IoStop → LoadStop
stop_of_folder Failed = ReadFault
stop_of_folder NoMemory = Memory

-- what was read of the file at a path: its first bytes, one more than it may have
pub record IsReadAt (all : List SiteFile) (path : List ℕ) (read : SiteFile) : Type 0 where
  pub file : SiteFile
  pub there : Contains all file
  pub at_path : file.path ≡ path
  pub same_path : read.path ≡ path
  pub front : read.bytes ≡ take (most_of_file + 1) file.bytes

-- these are the files of the folder at the paths
pub record AreRead (all : List SiteFile) (paths : List (List ℕ)) (files : List SiteFile) : Type 0 where
  pub at_paths : map path_of files ≡ paths
  pub there : All (Contains all) files

-- a file more of this size fits behind so many files of so many bytes
abbrev pub HasRoom : ℕ → ℕ → ℕ → Type 0
HasRoom count total size = (count < most_files) × (size ≤ most_of_file) × (total + size ≤ most_of_site)

-- the fault is TooLarge, of a file as a whole
pub record IsTooLargeFault (all : List SiteFile) (fault : SiteFault) : Type 0 where
  pub at_path : IsTooLargeAt all fault.path
  pub line : fault.line ≡ 0
  pub kind : fault.kind ≡ TooLarge

-- what a stop tells of the folder
abbrev pub StopsLoading : Option (List SiteFile) → LoadStop → Type 0
StopsLoading given (Refused fault) = IfSome given (λ all. IsTooLargeFault all fault)
StopsLoading given ReadFault = Unit {0}
StopsLoading given Memory = Unit {0}

-- the stop is that of a file that is too large, at this path
abbrev pub IsTooLargeStop : List ℕ → LoadStop → Type 0
IsTooLargeStop path (Refused fault) = (fault.path ≡ path) × (fault.line ≡ 0) × (fault.kind ≡ TooLarge)
IsTooLargeStop path ReadFault = ⊥
IsTooLargeStop path Memory = Unit {0}
