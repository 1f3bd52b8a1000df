-- Places in a text: where a piece leads to, and the token of a word at a place.
use Rattle.std.specs.Prelude.{ℕ, ◌+◌, List, if◌then◌else◌}
use Rattle.vb_value.specs.declared.token.Keyword.TheVariants.{Me}
use Rattle.vb_value.specs.declared.token.Symbol.TheVariants.{Close, PathPoint, WithPoint}
use Rattle.vb_value.specs.declared.token.Token.{Token}
use Rattle.vb_value.specs.declared.token.TokenKind.{TokenKind}
use Rattle.vb_value.specs.declared.token.TokenKind.TheVariants as kind
use Rattle.vb_lex.specs.declared.piece.Piece.{Piece}
use Rattle.vb_lex.specs.declared.piece.Piece.TheVariants.{Gap, Word, Fault}
use Rattle.vb_lex.specs.declared.place.Behind.{Behind}
use Rattle.vb_lex.specs.declared.place.Behind.TheVariants.{Path, Point, Other}
use Rattle.vb_lex.specs.declared.place.Place.{Place}
use Rattle.vb_value.specs.Lines.{line_at}
use Rattle.vb_lex.specs.Names.{is_behind_point}

-- the place of the first character, behind the line end that the text's edge is
abbrev pub first_place : Place
first_place = record { at = 0; behind = Other; line = 1 }

-- what a place directly behind a word is behind
abbrev pub behind_word : TokenKind → Behind
behind_word (kind.Name text bracketed) = Path
behind_word (kind.Keyword Me) = Path
behind_word (kind.Symbol Close) = Path
behind_word (kind.Symbol PathPoint) = Point
behind_word (kind.Symbol WithPoint) = Point
behind_word _ = Other

-- what a place behind a gap is behind
abbrev pub behind_gap : Behind → Behind
behind_gap behind = if is_behind_point behind then Point else Other

-- the place so many characters on
abbrev pub moved : List ℕ → Place → ℕ → Behind → Place
moved text place length behind =
    record { at = place.at + length; behind = behind; line = line_at text (place.at + length) }

-- the place behind a piece
abbrev pub past : List ℕ → Place → Piece → Place
past text place (Gap length) = moved text place length (behind_gap place.behind)
past text place (Word word length) = moved text place length (behind_word word)
past text place (Fault fault) = place

-- the token of a word that stands at a place
abbrev pub token_at : Place → TokenKind → ℕ → Token
token_at place word length =
    record { kind = word; line = place.line; start = place.at; end = place.at + length }
