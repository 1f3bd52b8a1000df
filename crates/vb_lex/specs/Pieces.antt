-- The piece at the front of a text: the longest word or gap that stands there, or what is wrong.
use Rattle.std.specs.Prelude.{ℕ, List, if◌then◌else◌, ◌==◌, slice_index}
use Rattle.std.specs.Char.{is_ascii_alphabetic}
use Rattle.vb_value.specs.declared.token.TokenKind.TheVariants.{LineEnd}
use Rattle.vb_lex.specs.declared.place.Behind.{Behind}
use Rattle.vb_lex.specs.declared.piece.Piece.{Piece}
use Rattle.vb_lex.specs.declared.piece.Piece.TheVariants.{Gap, Word}
use Rattle.vb_value.specs.Characters.{is_blank}
use Rattle.vb_lex.specs.Characters.{ampersand, apostrophe, is_decimal, is_line_end, open_bracket, point}
use Rattle.vb_lex.specs.Characters.{quote}
use Rattle.vb_lex.specs.Gaps.{blank_length, line_end_length, line_length}
use Rattle.vb_lex.specs.Names.{bracketed, named}
use Rattle.vb_lex.specs.Numbers.{ampersand_word, decimal}
use Rattle.vb_lex.specs.Strings.{string}
use Rattle.vb_lex.specs.Symbols.{point_word, symbol}

-- a piece that begins with no blank, line end, letter or digit
unfoldable pub marked : Behind → List ℕ → Piece
marked before text =
    let first = slice_index text 0 in
    if first == apostrophe then Gap (line_length text)
    else (if first == quote then string text
    else (if first == open_bracket then bracketed text
    else (if first == point then point_word before text
    else (if first == ampersand then ampersand_word text
    else symbol first (slice_index text 1)))))

-- Each form of a word or gap has its own first characters.
unfoldable pub piece : Behind → List ℕ → Piece
piece before text =
    let first = slice_index text 0 in
    if is_blank first then Gap (blank_length text)
    else (if is_line_end first then Word LineEnd (line_end_length text)
    else (if is_ascii_alphabetic first then named before text
    else (if is_decimal first then decimal text
    else marked before text)))
