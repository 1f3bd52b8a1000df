-- A folder as a list of files, each under its path.
use Rattle.std.specs.Prelude.{◌≡◌, ◌≢◌, ℕ, Option, Some, List, map, nat_eq, option_map, slice_get}
use Rattle.std.specs.Cmp.Lexicographic.{pointwise}
use Rattle.std.specs.List.{All, AllPairs, Contains, find}
use Rattle.vb_value.specs.declared.site_file.SiteFile.{SiteFile}

-- the path of a file
abbrev pub path_of : SiteFile → List ℕ
path_of file = file.path

-- the file at this path, where there is one
abbrev pub file_at : List SiteFile → List ℕ → Option SiteFile
file_at files path = find (λ file. pointwise nat_eq path file.path) files

-- the bytes of the file at this path, where there is one
abbrev pub bytes_of : List SiteFile → List ℕ → Option (List ℕ)
bytes_of files path = option_map (λ file. file.bytes) (file_at files path)

-- some file has this path
abbrev pub HasFile : List SiteFile → List ℕ → Type 0
HasFile files path = Contains (map path_of files) path

-- the path begins with a slash
abbrev pub IsRooted : List ℕ → Type 0
IsRooted path = slice_get path 0 ≡ Some 47

-- each of the paths begins with a slash, and no two are alike
pub record AreSitePaths (paths : List (List ℕ)) : Type 0 where
  pub rooted : All IsRooted paths
  pub distinct : AllPairs (λ path other. path ≢ other) paths
