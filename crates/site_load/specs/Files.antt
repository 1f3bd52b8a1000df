-- Which files of a folder make up its site, and when they are too large or too many.
use Rattle.std.specs.Prelude.{◌≡◌, ℕ, ◌≤◌, List, [], ◌∷◌, ◌++◌, length, map}
use Rattle.std.specs.List.{All, Contains, sum_by}
use Rattle.vb_value.specs.declared.site_file.SiteFile.{SiteFile}
use Rattle.asp_io.specs.Folder.{path_of}
use Rattle.site_load.specs.Chosen.{AreChosen}

-- how many bytes a file may have: 4 MiB
abbrev pub most_of_file : ℕ
most_of_file = 4194304

-- how many files a site may have
abbrev pub most_files : ℕ
most_files = 4096

-- how many bytes the files of a site may have together: 64 MiB
abbrev pub most_of_site : ℕ
most_of_site = 67108864

-- how many bytes a file has
abbrev pub size_of : SiteFile → ℕ
size_of file = length file.bytes

-- the files are neither too large nor too many
pub record AreSmall (files : List SiteFile) : Type 0 where
  pub each : All (λ file. size_of file ≤ most_of_file) files
  pub few : length files ≤ most_files
  pub light : sum_by size_of files ≤ most_of_site

-- the files of the folder at the chosen paths, in the order of their folded paths
pub record AreSiteFiles (all files : List SiteFile) : Type 0 where
  pub chosen : AreChosen (map path_of all) (map path_of files)
  pub there : All (Contains all) files

-- the folder is a site of these files
pub record IsSiteOf (all files : List SiteFile) : Type 0 where
  pub of_site : AreSiteFiles all files
  pub small : AreSmall files

-- the files of the folder's site begin with these
pub record BeginsWith (all files : List SiteFile) : Type 0 where
  pub paths : List (List ℕ)
  pub more : List (List ℕ)
  pub chosen : AreChosen (map path_of all) paths
  pub cut : paths ≡ map path_of files ++ more
  pub there : All (Contains all) files

-- the file at this path is the first by which the files of the folder's site are too large or too many
pub record IsTooLargeAt (all : List SiteFile) (path : List ℕ) : Type 0 where
  pub before : List SiteFile
  pub file : SiteFile
  pub begins : BeginsWith all (before ++ file ∷ [])
  pub small : AreSmall before
  pub large : ¬ (AreSmall (before ++ file ∷ []))
  pub told : path ≡ file.path
