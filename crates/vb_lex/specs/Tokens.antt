-- The words of a script: a text is cut into pieces, each the longest word or gap at its place, and the
-- words among them are its tokens, between two line ends, which the edges of the text are.
use Rattle.std.specs.Prelude.{◌≡◌, ℕ, ◌<◌, ◌⊎◌, List, [], ◌∷◌, ◌++◌, drop, length}
use Rattle.vb_value.specs.declared.token.Token.{Token}
use Rattle.vb_value.specs.declared.token.TokenKind.TheVariants.{LineEnd}
use Rattle.vb_lex.specs.declared.fault.LexFault.{LexFault}
use Rattle.vb_lex.specs.declared.piece.Piece.{Piece}
use Rattle.vb_lex.specs.declared.piece.Piece.TheVariants.{Gap, Word, Fault}
use Rattle.vb_lex.specs.declared.place.Place.{Place}
use Rattle.vb_lex.specs.Pieces.{piece}
use Rattle.vb_lex.specs.Places.{first_place, past, token_at}

-- what stands at a place of a text
abbrev pub piece_at : List ℕ → Place → Piece
piece_at text place = piece place.behind (drop place.at text)

-- the piece is no fault
abbrev pub IsTaken : Piece → Type 0
IsTaken (Fault fault) = ⊥
IsTaken _ = Unit {0}

-- From one place to another the text is these pieces.
abbrev pub IsCut : List ℕ → Place → List Piece → Place → Type 0
IsCut text from [] to = from ≡ to
IsCut text from (one ∷ pieces) to =
    (from.at < length text) × (piece_at text from ≡ one) × IsTaken one × IsCut text (past text from one) pieces to

-- the tokens of pieces that stand one behind another from a place on
abbrev pub tokens_from : List ℕ → Place → List Piece → List Token
tokens_from text place [] = []
tokens_from text place (Gap length ∷ pieces) = tokens_from text (past text place (Gap length)) pieces
tokens_from text place (Word word length ∷ pieces) =
    token_at place word length ∷ tokens_from text (past text place (Word word length)) pieces
tokens_from text place (Fault fault ∷ pieces) = []

-- an edge of a text, which is a line end of no characters
abbrev pub edge : Place → Token
edge place = token_at place LineEnd 0

-- Before a place the text has these tokens.
pub record Reaches (text : List ℕ) (tokens : List Token) (place : Place) : Type 0 where
  pub pieces : List Piece
  pub cut : IsCut text first_place pieces place
  pub spelled : tokens ≡ edge first_place ∷ tokens_from text first_place pieces

-- The text has these tokens.
pub record Tokenizes (text : List ℕ) (tokens : List Token) : Type 0 where
  pub before : List Token
  pub last : Place
  pub reaches : Reaches text before last
  pub whole : last.at ≡ length text
  pub spelled : tokens ≡ before ++ edge last ∷ []

-- The text has this fault on this line, and none before it.
pub record FaultsAt (text : List ℕ) (fault : LexFault) (line : ℕ) : Type 0 where
  pub before : List Token
  pub last : Place
  pub reaches : Reaches text before last
  pub within : last.at < length text
  pub faulty : piece_at text last ≡ Fault fault
  pub line_is : line ≡ last.line

-- The text has tokens, or a fault.
abbrev pub HasAnswer : List ℕ → Type 0
HasAnswer text =
    ((tokens : List Token) × Tokenizes text tokens) ⊎ ((fault : LexFault) × (line : ℕ) × FaultsAt text fault line)
