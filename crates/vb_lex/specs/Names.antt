-- Names and keywords, and the comments that the word `Rem` begins.
use Rattle.std.specs.Prelude.{ℕ, ◌+◌, Bool, true, false, List, [], ◌∷◌, drop, map, take, Option, Some, None}
use Rattle.std.specs.Prelude.{if◌then◌else◌, ◌==◌, nat_lt, slice_index, codes}
use Rattle.std.specs.List.{prefix_len}
use Rattle.vb_value.specs.Folding.{same_name, beside}
use Rattle.vb_value.specs.declared.token.Keyword.{Keyword}
use Rattle.vb_value.specs.declared.token.TokenKind.{TokenKind}
use Rattle.vb_value.specs.declared.token.TokenKind.TheVariants.{Name, Keyword as KeywordKind}
use Rattle.vb_lex.specs.declared.fault.LexFault.TheVariants.{LongName, OpenBracket}
use Rattle.vb_lex.specs.declared.names.TheConstants.{KEYWORDS}
use Rattle.vb_lex.specs.declared.place.Behind.{Behind}
use Rattle.vb_lex.specs.declared.place.Behind.TheVariants as behind
use Rattle.vb_lex.specs.declared.piece.Piece.{Piece}
use Rattle.vb_lex.specs.declared.piece.Piece.TheVariants.{Gap, Word, Fault}
use Rattle.vb_lex.specs.Characters.{close_bracket, is_bracketed, is_name_part}
use Rattle.vb_lex.specs.Gaps.{line_length}

-- the keyword that a word is, in any ASCII case
unfoldable pub keyword : List ℕ → Option Keyword
keyword = beside (map (λ entry. (entry.0.now, entry.1)) KEYWORDS)

-- the kind of a word that is made of the characters of a name
abbrev pub kind_of_name : Option Keyword → List ℕ → TokenKind
kind_of_name None name = Name name false
kind_of_name (Some found) name = KeywordKind found

-- the place is behind a `.`
abbrev pub is_behind_point : Behind → Bool
is_behind_point behind.Point = true
is_behind_point _ = false

-- A name has letters, digits and `_`, and at most 255 of them. The word `Rem` begins a comment. Behind a
-- `.` every word is a name.
abbrev pub named : Behind → List ℕ → Piece
named before text =
    let length = prefix_len is_name_part text in
    let name = take length text in
    if nat_lt 255 length then Fault LongName
    else (if is_behind_point before then Word (Name name false) length
    else (if same_name (codes "rem") name then Gap (line_length text)
    else Word (kind_of_name (keyword name) name) length))

-- A name in brackets has any characters but `]` and line ends.
abbrev pub bracketed : List ℕ → Piece
bracketed text =
    let length = prefix_len is_bracketed (drop 1 text) in
    if slice_index text (1 + length) == close_bracket
    then Word (Name (take length (drop 1 text)) true) (length + 2)
    else Fault OpenBracket
