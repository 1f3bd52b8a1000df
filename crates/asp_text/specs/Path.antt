-- The normal path that the path of a request names: percent-decoded once (RFC 3986, section 2.1), and
-- with its segments followed from the root on (section 5.2.4). The host's own: `..` may not lead above the root.
use Rattle.std.specs.Prelude.{ℕ, Bool, true, false, not, ◌&&◌, ◌||◌, ◌==◌, if◌then◌else◌, List, [], ◌∷◌, ◌++◌, take}
use Rattle.std.specs.Prelude.{length, codes, bytes_eq, Option, None, Some, Result, Ok, Err}
use Rattle.std.specs.List.{flat_map, list_any, slice_split}
use Rattle.std.specs.Option.{option_and_then}
use Rattle.std.specs.Str.{chars, is_utf8}
use Rattle.std.specs.Char.{is_ascii_hexdigit}
use Rattle.percent_encoding.specs.Percent.{percent_decode}
use Rattle.asp_text.specs.declared.path.PathStop.{PathStop}
use Rattle.asp_text.specs.declared.path.PathStop.TheVariants.{Escapes, BadEscape}

-- ---- segments

-- what a path has between its slashes
abbrev pub segments : List ℕ → List (List ℕ)
segments path = slice_split (λ c. c == 47) path

-- the segment stands for the place where it is met
abbrev pub is_here : List ℕ → Bool
is_here segment = bytes_eq segment [] || bytes_eq segment (codes ".")

-- the segment stands for the folder above
abbrev pub is_parent : List ℕ → Bool
is_parent segment = bytes_eq segment (codes "..")

-- ---- places below the root

-- the names that lead to a place from the root, and whether it is meant as a folder
pub record Place : Type 0 where
  pub names : List (List ℕ)
  pub folder : Bool

-- the root
abbrev pub root : Place
root = record { names = []; folder = true }

-- the folder above the place that these names lead to; there is none above the root
abbrev pub above : List (List ℕ) → Option Place
above [] = None
above (name ∷ names) = Some (record { names = take (length names) (name ∷ names); folder = true })

-- where a segment leads from these names
abbrev pub step : List ℕ → List (List ℕ) → Option Place
step segment names =
    if is_here segment then Some (record { names = names; folder = true })
    else (if is_parent segment then above names
    else Some (record { names = names ++ segment ∷ []; folder = false }))

-- where segments lead, one after another
abbrev pub walk : List (List ℕ) → Place → Option Place
walk [] place = Some place
walk (segment ∷ more) place = option_and_then (λ next. walk more next) (step segment place.names)

-- each name behind a slash
abbrev pub way : List (List ℕ) → List ℕ
way names = flat_map (λ name. 47 ∷ name) names

-- the path of a place: a folder's ends in a slash
abbrev pub path_of : Place → List ℕ
path_of place = if place.folder then way place.names ++ 47 ∷ [] else way place.names

-- the path of the place, if there is one
abbrev pub told : Option Place → Result (List ℕ) PathStop
told None = Err Escapes
told (Some place) = Ok (path_of place)

-- the path of the place that a path names
abbrev pub resolved : List ℕ → Result (List ℕ) PathStop
resolved path = told (walk (segments path) root)

-- ---- paths as requests write them

-- two hexadecimal digits stand first
abbrev pub begins_with_digits : List ℕ → Bool
begins_with_digits [] = false
begins_with_digits (high ∷ []) = false
begins_with_digits (high ∷ low ∷ more) = is_ascii_hexdigit high && is_ascii_hexdigit low

-- two hexadecimal digits stand behind each `%`
unfoldable pub has_whole_escapes : List ℕ → Bool
has_whole_escapes [] = true
has_whole_escapes (b ∷ more) = (not (b == 37) || begins_with_digits more) && has_whole_escapes more

-- the path has a NUL or a backslash
abbrev pub is_odd : List ℕ → Bool
is_odd path = list_any (λ c. c == 0 || c == 92) path

-- the bytes begin with a slash
abbrev pub begins_with_slash : List ℕ → Bool
begins_with_slash [] = false
begins_with_slash (b ∷ more) = b == 47

-- the bytes begin with a slash, and each `%` is an escape
abbrev pub is_written : List ℕ → Bool
is_written raw = begins_with_slash raw && has_whole_escapes raw

-- the normal path that these characters name
abbrev pub normal_text : List ℕ → Result (List ℕ) PathStop
normal_text path = if is_odd path then Err BadEscape else resolved path

-- the normal path that these bytes name, once decoded
abbrev pub normal_bytes : List ℕ → Result (List ℕ) PathStop
normal_bytes bytes = if is_utf8 bytes then normal_text (chars bytes) else Err BadEscape

-- the normal path that the path of a request names
unfoldable pub normal_path_of : List ℕ → Result (List ℕ) PathStop
normal_path_of raw = if is_written raw then normal_bytes (percent_decode raw) else Err BadEscape
