-- The path that Server.MapPath gives (ASP 3.0, "Server.MapPath"): below the site's root, since a site has no
-- other place.
use Rattle.std.specs.Prelude.{ℕ, Bool, ◌==◌, if◌then◌else◌, List, [], ◌∷◌, ◌++◌, codes, Result, Ok, Err}
use Rattle.std.specs.List.{flat_map}
use Rattle.std.specs.Str.{encode_utf8_all}
use Rattle.asp_text.specs.Path.{normal_path_of, begins_with_slash}
use Rattle.asp_text.specs.declared.path.PathStop.{PathStop}

-- a character of a path as requests write it, in which `%` begins an escape
abbrev pub escaped_character : ℕ → List ℕ
escaped_character c = if c == 37 then codes "%25" else c ∷ []

abbrev pub escaped : List ℕ → List ℕ
escaped path = flat_map escaped_character path

-- where a path begins: at the root, if it says so, or else in the folder of the page, which is above the page's file
abbrev pub beginning : List ℕ → Bool → List ℕ
beginning page from_root = if from_root then [] else escaped page ++ codes "/../"

-- the normal path that a page in the file at the path `page` means
abbrev pub mapped : List ℕ → List ℕ → Result (List ℕ) PathStop
mapped page path = normal_path_of (encode_utf8_all (beginning page (begins_with_slash path) ++ path))
