-- How a page file spells its pieces: the file's text is their spellings, one after the other.
use Rattle.std.specs.Prelude.{◌≡◌, ℕ, Bool, true, if◌then◌else◌, List, [], ◌∷◌, ◌++◌, codes}
use Rattle.std.specs.List.{list_all}
use Rattle.vb_value.specs.Folding.{folded}
use Rattle.page_read.specs.declared.fragment.Fragment.{Fragment}
use Rattle.page_read.specs.declared.fragment.Fragment.TheVariants.{Directive, Text, Script, Write, Element, Include}
use Rattle.page_read.specs.Marks.{is_blank}

-- the word is the mark, in any ASCII case
abbrev pub IsMark : List ℕ → List ℕ → Type 0
IsMark mark word = folded word ≡ mark

-- the text stands between a mark that opens it and one that closes it
pub record IsBetween (opens text closes spelling : List ℕ) : Type 0 where
  pub first : List ℕ
  pub last : List ℕ
  pub opened : IsMark opens first
  pub closed : IsMark closes last
  pub spelled : spelling ≡ first ++ text ++ last

-- the text is these marks, with blanks before each
abbrev pub AreMarks : List (List ℕ) → List ℕ → Type 0
AreMarks [] text = text ≡ []
AreMarks (mark ∷ marks) text = (blanks : List ℕ) × (word : List ℕ) × (rest : List ℕ) × (text ≡ blanks ++ word ++ rest)
    × (list_all is_blank blanks ≡ true) × IsMark mark word × AreMarks marks rest

-- the word that says where the path of an include begins
abbrev pub base_word : Bool → List ℕ
base_word from_root = if from_root then codes "virtual" else codes "file"

-- an include of this path: `<!--`, and with blanks between them `#include`, `file` or `virtual`, `=`, a quote, the
-- path, a quote, and `-->` with blanks before it
pub record IsInclude (from_root : Bool) (path spelling : List ℕ) : Type 0 where
  pub first : List ℕ
  pub named : List ℕ
  pub quote : List ℕ
  pub last : List ℕ
  pub opened : IsMark (codes "<!--") first
  pub marks : AreMarks (codes "#include" ∷ base_word from_root ∷ codes "=" ∷ codes "\"" ∷ []) named
  pub quoted : IsMark (codes "\"") quote
  pub closed : AreMarks (codes "-->" ∷ []) last
  pub spelled : spelling ≡ first ++ named ++ path ++ quote ++ last

-- a script element with this text: `<script`, attributes, `>`, the text and `</script>`
pub record IsElement (text spelling : List ℕ) : Type 0 where
  pub first : List ℕ
  pub attributes : List ℕ
  pub tag_end : List ℕ
  pub last : List ℕ
  pub opened : IsMark (codes "<script") first
  pub ended : IsMark (codes ">") tag_end
  pub closed : IsMark (codes "</script>") last
  pub spelled : spelling ≡ first ++ attributes ++ tag_end ++ text ++ last

-- the piece may be spelled so
abbrev pub Spells : Fragment → List ℕ → Type 0
Spells (Text text line) spelling = spelling ≡ text
Spells (Script text line) spelling = IsBetween (codes "<%") text (codes "%>") spelling
Spells (Write text line) spelling = IsBetween (codes "<%=") text (codes "%>") spelling
Spells (Directive session) spelling = (inside : List ℕ) × IsBetween (codes "<%@") inside (codes "%>") spelling
Spells (Element text line) spelling = IsElement text spelling
Spells (Include from_root path line) spelling = IsInclude from_root path spelling

-- the text is the spellings of the pieces, one after the other
abbrev pub SpellTogether : List Fragment → List ℕ → Type 0
SpellTogether [] text = text ≡ []
SpellTogether (piece ∷ pieces) text = (spelling : List ℕ) × (rest : List ℕ) × (text ≡ spelling ++ rest)
    × Spells piece spelling × SpellTogether pieces rest
