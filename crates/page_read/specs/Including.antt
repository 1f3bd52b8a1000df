-- The file that an include names, and what is wrong with an include (ASP 3.0, "Including Files").
use Rattle.std.specs.Prelude.{ℕ, Bool, ◌==◌, if◌then◌else◌, List, [], ◌∷◌, ◌++◌, codes, find}
use Rattle.std.specs.Prelude.{Option, None, Some, Result, Ok, Err}
use Rattle.std.specs.List.{flat_map, list_any}
use Rattle.std.specs.Str.{encode_utf8_all}
use Rattle.vb_value.specs.Folding.{same_name}
use Rattle.vb_value.specs.declared.site_file.FaultKind.{FaultKind}
use Rattle.vb_value.specs.declared.site_file.FaultKind.TheVariants.{BadPath, Cycle, Depth, NotFound}
use Rattle.vb_value.specs.declared.site_file.SiteFile.{SiteFile}
use Rattle.asp_text.specs.Path.{normal_path_of}
use Rattle.asp_text.specs.declared.path.PathStop.{PathStop}

-- ---- the path that an include names

-- the path has a slash
abbrev pub has_slash : List ℕ → Bool
has_slash path = list_any (λ c. c == 47) path

-- the folder of the file at a path: the path up to its last slash
abbrev pub folder_of : List ℕ → List ℕ
folder_of [] = []
folder_of (c ∷ path) = if has_slash (c ∷ path) then c ∷ folder_of path else []

-- a character of a path as requests write it, in which `%` begins an escape
abbrev pub written_character : ℕ → List ℕ
written_character c = if c == 37 then codes "%25" else c ∷ []

-- the path as requests write it
abbrev pub written : List ℕ → List ℕ
written path = flat_map written_character path

-- where the path of an include begins: at the root, or in the folder of the file at this path, which has the include
abbrev pub base_of : Bool → List ℕ → List ℕ
base_of from_root including = if from_root then codes "/" else written (folder_of including)

-- the normal path that an include of this path names in the file at the path `including`
abbrev pub included_path : List ℕ → Bool → List ℕ → Result (List ℕ) PathStop
included_path including from_root path = normal_path_of (encode_utf8_all (base_of from_root including ++ path))

-- ---- the file at a path

-- the site's file at a path, without regard to ASCII case
abbrev pub file_at : List SiteFile → List ℕ → Option SiteFile
file_at files path = find (λ file. same_name path file.path) files

-- the file, which must be there
abbrev pub there : Option SiteFile → Result SiteFile FaultKind
there (Some file) = Ok file
there None = Err NotFound

-- the site's file at the path, which must be one
abbrev pub file_named : List SiteFile → Result (List ℕ) PathStop → Result SiteFile FaultKind
file_named files (Ok path) = there (file_at files path)
file_named files (Err stop) = Err BadPath

-- ---- which files may be included

-- the file, behind this chain of files of which each includes the next: it isn't one of them, and `left` more may nest
abbrev pub in_chain : ℕ → List (List ℕ) → Result SiteFile FaultKind → Result SiteFile FaultKind
in_chain left chain (Ok file) =
    if list_any (same_name file.path) chain then Err Cycle else (if left == 0 then Err Depth else Ok file)
in_chain left chain (Err kind) = Err kind

-- the file that an include names in the file at the path `including`, behind that chain; or what is wrong with it
unfoldable pub included : List SiteFile → ℕ → List (List ℕ) → List ℕ → Bool → List ℕ → Result SiteFile FaultKind
included files left chain including from_root path =
    in_chain left chain (file_named files (included_path including from_root path))
