-- What holds of the definitions as a whole.
use Rattle.std.specs.Prelude.{◌≡◌, ◌≢◌, ℕ, ◌<◌, true, false, ◌||◌, ◌==◌, if◌then◌else◌, List, [], ◌∷◌, ◌++◌, drop}
use Rattle.std.specs.Prelude.{length, map, codes, bytes_eq, All, encode_utf8_all}
use Rattle.std.specs.List.{flat_map, list_any, slice_split, before_first, after_first}
use Rattle.std.specs.Char.{is_ascii_alphanumeric}
use Rattle.std.specs.Str.Parse.{digits_value}
use Rattle.percent_encoding.specs.Percent.{percent_decode}
use Rattle.asp_text.specs.Path.{Place, is_here, is_parent, path_of}

-- ---- HTML

-- the characters are numbers of characters
abbrev pub IsText : List ℕ → Type 0
IsText text = All (λ c. c < 1114112) text

-- a character of ASCII that begins no tag and ends no attribute
abbrev pub IsHtmlCharacter : ℕ → Type 0
IsHtmlCharacter c = (c < 128) × (c ≢ 60) × (c ≢ 62) × (c ≢ 34)

-- the character that a reference between `&` and `;` names
abbrev pub referred : List ℕ → ℕ
referred name =
    if bytes_eq name (codes "lt") then 60
    else (if bytes_eq name (codes "gt") then 62
    else (if bytes_eq name (codes "amp") then 38
    else (if bytes_eq name (codes "quot") then 34
    else digits_value 10 (drop 1 name))))

-- what follows an `&`: the reference up to the `;` as its character, and the rest as it is
abbrev pub after_ampersand : List ℕ → List ℕ
after_ampersand part = referred (before_first (λ c. c == 59) part) ∷ after_first (λ c. c == 59) part

-- the first part as it is, each later one with its reference
abbrev pub parts_read : List (List ℕ) → List ℕ
parts_read [] = []
parts_read (part ∷ parts) = part ++ flat_map after_ampersand parts

-- what a reader of HTML makes of the text, where each `&` begins a reference
unfoldable pub html_decoded : List ℕ → List ℕ
html_decoded text = parts_read (slice_split (λ c. c == 38) text)

-- the encoded text is ASCII without marks, and is read as what was encoded
pub record IsHtmlOf (text encoded : List ℕ) : Type 0 where
  pub clean : All IsHtmlCharacter encoded
  pub reads : html_decoded encoded ≡ text

-- ---- URLs

-- a letter or a digit, `+` or `%`
abbrev pub IsUrlCharacter : ℕ → Type 0
IsUrlCharacter c = (c < 128) × ((is_ascii_alphanumeric c || (c == 43 || c == 37)) ≡ true)

-- a `+` stands for a space
abbrev pub plus_to_space : ℕ → ℕ
plus_to_space c = if c == 43 then 32 else c

-- the encoded text has such characters alone, and is read as the UTF-8 of what was encoded
pub record IsUrlOf (text encoded : List ℕ) : Type 0 where
  pub clean : All IsUrlCharacter encoded
  pub reads : percent_decode (map plus_to_space encoded) ≡ encode_utf8_all text

-- ---- paths

-- a name of a file or a folder: no slash is in it, and it leads to what it names
pub record IsName (name : List ℕ) : Type 0 where
  pub whole : list_any (λ c. c == 47) name ≡ false
  pub not_here : is_here name ≡ false
  pub not_parent : is_parent name ≡ false

-- the path is that of a place below the root: names behind slashes, and a last slash for a folder
pub record IsNormal (path : List ℕ) : Type 0 where
  pub place : Place
  pub spelled : path ≡ path_of place
  pub each : All IsName place.names
  pub some : place.folder ≡ false → 0 < length place.names
