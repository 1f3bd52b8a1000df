-- How a text is cut, one piece after another.
use Rattle.std.proofs.Common.{◌≡◌, ℕ, ◌+◌, ◌<◌, ◌≤◌, List, [], ◌∷◌, ◌++◌, length, drop, refl, sym, ap, ◌∙◌, subst}
use Rattle.std.proofs.Common.{arith}
use Rattle.std.proofs.lemmas.List.{length-drop}
use Rattle.vb_value.specs.declared.token.Token.{Token}
use Rattle.vb_value.specs.declared.token.TokenKind.{TokenKind}
use Rattle.vb_lex.specs.declared.fault.LexFault.{LexFault}
use Rattle.vb_lex.specs.declared.piece.Piece.{Piece}
use Rattle.vb_lex.specs.declared.piece.Piece.TheVariants.{Gap, Word, Fault}
use Rattle.vb_lex.specs.declared.place.Place.{Place}
use Rattle.vb_value.specs.Lines.{line_at}
use Rattle.vb_lex.specs.Places.{first_place, past, token_at}
use Rattle.vb_lex.specs.Tokens.{FaultsAt, IsCut, IsTaken, Reaches, Tokenizes, edge, piece_at, tokens_from}
use Rattle.vb_lex.proofs.Within.{IsWithin, piece_within}

-- one piece more
cut_push : (text : List ℕ) (from : Place) (pieces : List Piece) (to : Place) (one : Piece)
    → IsCut text from pieces to → to.at < length text → piece_at text to ≡ one → IsTaken one
    → IsCut text from (pieces ++ one ∷ []) (past text to one)
cut_push text from [] to one same within stands taken =
    let P : Place → Type 0 = λ p. IsCut text p (one ∷ []) (past text to one) in
    subst P (sym same) (within, stands, taken, refl)
cut_push text from (first ∷ pieces) to one cut within stands taken =
    (cut.0, cut.1, cut.2, cut_push text (past text from first) pieces to one cut.3 within stands taken)

-- the tokens of one gap more, and of one word more
tokens_push_gap : (text : List ℕ) (from : Place) (pieces : List Piece) (to : Place) (taken : ℕ)
    → IsCut text from pieces to → tokens_from text from (pieces ++ Gap taken ∷ []) ≡ tokens_from text from pieces
tokens_push_gap text from [] to taken cut = refl
tokens_push_gap text from (Gap n ∷ pieces) to taken cut =
    tokens_push_gap text (past text from (Gap n)) pieces to taken cut.3
tokens_push_gap text from (Word word n ∷ pieces) to taken cut =
    ap (λ ts. token_at from word n ∷ ts) (tokens_push_gap text (past text from (Word word n)) pieces to taken cut.3)
tokens_push_gap text from (Fault fault ∷ pieces) to taken cut = absurd cut.2

tokens_push_word : (text : List ℕ) (from : Place) (pieces : List Piece) (to : Place) (kind : TokenKind) (taken : ℕ)
    → IsCut text from pieces to
    → tokens_from text from (pieces ++ Word kind taken ∷ [])
    ≡ tokens_from text from pieces ++ token_at to kind taken ∷ []
tokens_push_word text from [] to kind taken same = ap (λ p. token_at p kind taken ∷ []) same
tokens_push_word text from (Gap n ∷ pieces) to kind taken cut =
    tokens_push_word text (past text from (Gap n)) pieces to kind taken cut.3
tokens_push_word text from (Word word n ∷ pieces) to kind taken cut =
    ap (λ ts. token_at from word n ∷ ts)
    (tokens_push_word text (past text from (Word word n)) pieces to kind taken cut.3)
tokens_push_word text from (Fault fault ∷ pieces) to kind taken cut = absurd cut.2

-- the line of the place where pieces end
cut_line : (text : List ℕ) (from : Place) (pieces : List Piece) (to : Place) → IsCut text from pieces to
    → from.line ≡ line_at text from.at → to.line ≡ line_at text to.at
cut_line text from [] to same line = let P : Place → Type 0 = λ p. p.line ≡ line_at text p.at in subst P same line
cut_line text from (Gap n ∷ pieces) to cut line = cut_line text (past text from (Gap n)) pieces to cut.3 refl
cut_line text from (Word word n ∷ pieces) to cut line =
    cut_line text (past text from (Word word n)) pieces to cut.3 refl
cut_line text from (Fault fault ∷ pieces) to cut line = absurd cut.2

pub reached_line : (text : List ℕ) (tokens : List Token) (place : Place) → Reaches text tokens place
    → place.line ≡ line_at text place.at
reached_line text tokens place reaches = cut_line text first_place reaches.pieces place reaches.cut refl

-- a gap or a word that fills some characters of what is left
gap_of : (text : List ℕ) (one : Piece) (taken : ℕ) → one ≡ Gap taken → IsWithin text one
    → (0 < taken) × (taken ≤ length text)
gap_of text one taken same within = let P : Piece → Type 0 = λ p. IsWithin text p in subst P same within

word_of : (text : List ℕ) (one : Piece) (kind : TokenKind) (taken : ℕ) → one ≡ Word kind taken → IsWithin text one
    → (0 < taken) × (taken ≤ length text)
word_of text one kind taken same within = let P : Piece → Type 0 = λ p. IsWithin text p in subst P same within

-- how far a gap and a word go
pub gap_ends : (text : List ℕ) (place : Place) (taken : ℕ) → place.at < length text
    → piece_at text place ≡ Gap taken → (0 < taken) × (place.at + taken ≤ length text)
gap_ends text place taken within stands =
    let rest = length-drop place.at text in
    let both = gap_of (drop place.at text) (piece_at text place) taken stands
    (piece_within place.behind (drop place.at text) (omega arith)) in
    (both.0, omega (arith, both.1))

pub word_ends : (text : List ℕ) (place : Place) (kind : TokenKind) (taken : ℕ) → place.at < length text
    → piece_at text place ≡ Word kind taken → (0 < taken) × (place.at + taken ≤ length text)
word_ends text place kind taken within stands =
    let rest = length-drop place.at text in
    let both = word_of (drop place.at text) (piece_at text place) kind taken stands
    (piece_within place.behind (drop place.at text) (omega arith)) in
    (both.0, omega (arith, both.1))

-- the steps of a loop over the pieces, and its ends
pub reached_first : (text : List ℕ) → Reaches text (edge first_place ∷ []) first_place
reached_first text = record { pieces = []; cut = refl; spelled = refl }

pub reached_gap : (text : List ℕ) (tokens : List Token) (place : Place) (taken : ℕ)
    → Reaches text tokens place → place.at < length text → piece_at text place ≡ Gap taken
    → Reaches text tokens (past text place (Gap taken))
reached_gap text tokens place taken reaches within stands = record {
  pieces = reaches.pieces ++ Gap taken ∷ [];
  cut = cut_push text first_place reaches.pieces place (Gap taken) reaches.cut within stands tt;
  spelled = reaches.spelled
      ∙ ap (λ ts. edge first_place ∷ ts)
      (sym (tokens_push_gap text first_place reaches.pieces place taken reaches.cut));
}

pub reached_word : (text : List ℕ) (tokens : List Token) (place : Place) (kind : TokenKind) (taken : ℕ)
    → Reaches text tokens place → place.at < length text → piece_at text place ≡ Word kind taken
    → Reaches text (tokens ++ token_at place kind taken ∷ []) (past text place (Word kind taken))
reached_word text tokens place kind taken reaches within stands = record {
  pieces = reaches.pieces ++ Word kind taken ∷ [];
  cut = cut_push text first_place reaches.pieces place (Word kind taken) reaches.cut within stands tt;
  spelled = ap (λ ts. ts ++ token_at place kind taken ∷ []) reaches.spelled
      ∙ ap (λ ts. edge first_place ∷ ts)
      (sym (tokens_push_word text first_place reaches.pieces place kind taken reaches.cut));
}

pub reached_whole : (text : List ℕ) (tokens : List Token) (place : Place) → Reaches text tokens place
    → place.at ≡ length text → Tokenizes text (tokens ++ edge place ∷ [])
reached_whole text tokens place reaches whole =
    record { before = tokens; last = place; reaches = reaches; whole = whole; spelled = refl }

pub reached_fault : (text : List ℕ) (tokens : List Token) (place : Place) (fault : LexFault)
    → Reaches text tokens place → place.at < length text → piece_at text place ≡ Fault fault
    → FaultsAt text fault place.line
reached_fault text tokens place fault reaches within stands = record {
  before = tokens;
  last = place;
  reaches = reaches;
  within = within;
  faulty = stands;
  line_is = refl;
}
