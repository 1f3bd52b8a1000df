-- The tokens of a text stand in it one behind another, each on its line and with its text.
use Rattle.std.proofs.Common.{◌≡◌, ℕ, ◌+◌, ◌-◌, ◌<◌, ◌≤◌, List, [], ◌∷◌, ◌++◌, length, drop, take, refl, sym, ap, ◌∙◌}
use Rattle.std.proofs.Common.{subst, inl, arith, slice_range}
use Rattle.std.proofs.lemmas.List.{length-drop}
use Rattle.vb_value.specs.declared.token.Token.{Token}
use Rattle.vb_value.specs.declared.token.TokenKind.{TokenKind}
use Rattle.vb_lex.specs.declared.piece.Piece.{Piece}
use Rattle.vb_lex.specs.declared.piece.Piece.TheVariants.{Gap, Word, Fault}
use Rattle.vb_lex.specs.declared.place.Place.{Place}
use Rattle.vb_value.specs.Lines.{line_at}
use Rattle.vb_lex.specs.Places.{first_place, past}
use Rattle.word_laws.specs.Spelling.{IsLaid, IsLineEnd, IsSpelled}
use Rattle.vb_lex.specs.Tokens.{IsCut, Tokenizes, edge, piece_at, tokens_from}
use Rattle.vb_lex.proofs.Cutting.{gap_ends, word_ends}
use Rattle.word_laws.proofs.Spelled.{IsRight, piece_right}

-- from an earlier place on
laid_before : (text : List ℕ) (low from : ℕ) (tokens : List Token) → low ≤ from → IsLaid text from tokens
    → IsLaid text low tokens
laid_before text low from [] below laid = tt
laid_before text low from (token ∷ tokens) below laid =
    let first : low ≤ token.start = omega (arith, laid.0) in
    (first, laid.1, laid.2, laid.3, laid.4, laid.5)

-- the text of a word at a place
word_spelled : (text : List ℕ) (place : Place) (word : TokenKind) (taken : ℕ) → place.at < length text
    → piece_at text place ≡ Word word taken
    → IsSpelled word (slice_range text place.at (place.at + taken))
word_spelled text place word taken within stands =
    let rest = length-drop place.at text in
    let right = piece_right place.behind (drop place.at text) (omega arith) in
    let there : IsSpelled word (take taken (drop place.at text)) = subst (IsRight
    (drop place.at text)) stands right in
    let count : taken ≡ place.at + taken - place.at = omega arith in
    let P : ℕ → Type 0 = λ n. IsSpelled word (take n (drop place.at text)) in
    subst P count there

-- the edge at a text's end
edge_laid : (text : List ℕ) (place : Place) → place.line ≡ line_at text place.at → place.at ≤ length text
    → IsLaid text place.at (edge place ∷ [])
edge_laid text place line within =
    let none : place.at + 0 - place.at ≡ 0 = omega arith in
    let empty : IsLineEnd (slice_range text place.at (place.at + 0)) =
    inl (ap (λ n. take n (drop place.at text)) none) in
    let more : place.at ≤ place.at + 0 = omega arith in
    let all : place.at + 0 ≤ length text = omega arith in
    (omega arith, more, all, line, empty, tt)

laid_from : (text : List ℕ) (from : Place) (pieces : List Piece) (to : Place) → IsCut text from pieces to
    → from.line ≡ line_at text from.at → from.at ≤ length text
    → IsLaid text from.at (tokens_from text from pieces ++ edge to ∷ [])
laid_from text from [] to same line within =
    let P : Place → Type 0 = λ p. IsLaid text from.at (edge p ∷ []) in
    subst P same (edge_laid text from line within)
laid_from text from (Gap n ∷ pieces) to cut line within =
    let ends = gap_ends text from n cut.0 cut.1 in
    laid_before text from.at (from.at + n) (tokens_from text (past text from (Gap n)) pieces ++ edge to ∷ [])
    (omega arith)
    (laid_from text (past text from (Gap n)) pieces to cut.3 refl ends.1)
laid_from text from (Word word n ∷ pieces) to cut line within =
    let ends = word_ends text from word n cut.0 cut.1 in
    let more : from.at ≤ from.at + n = omega arith in (
      omega arith,
      more,
      ends.1,
      line,
      word_spelled text from word n cut.0 cut.1,
      laid_from text (past text from (Word word n)) pieces to cut.3 refl ends.1,
    )
laid_from text from (Fault fault ∷ pieces) to cut line within = absurd cut.2

pub tokens_laid : (text : List ℕ) (tokens : List Token) → Tokenizes text tokens → IsLaid text 0 tokens
tokens_laid text tokens is =
    let reaches = is.reaches in
    let rest : IsLaid text 0 (tokens_from text first_place reaches.pieces ++ edge is.last ∷ []) =
    laid_from text first_place reaches.pieces is.last reaches.cut refl (omega arith) in
    let none : IsLineEnd (slice_range text 0 0) = inl refl in
    let whole : IsLaid text 0 (edge first_place ∷ tokens_from text first_place reaches.pieces ++ edge is.last ∷ []) =
    (omega arith, omega arith, omega arith, refl, none, rest) in
    let same : tokens ≡ edge first_place ∷ tokens_from text first_place reaches.pieces ++ edge is.last ∷ [] =
    is.spelled ∙ ap (λ ts. ts ++ edge is.last ∷ []) reaches.spelled in
    subst (IsLaid text 0) (sym same) whole
