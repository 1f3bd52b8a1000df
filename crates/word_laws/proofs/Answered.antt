-- Each text has tokens or a fault.
use Rattle.std.proofs.Common.{◌≡◌, ℕ, ◌+◌, ◌≤◌, List, [], ◌∷◌, ◌++◌, length, refl, inl, inr, arith}
use Rattle.std.proofs.Common.{zero, suc}
use Rattle.std.proofs.lemmas.Bool.{cases_lt}
use Rattle.vb_value.specs.declared.token.Token.{Token}
use Rattle.vb_lex.specs.declared.piece.Piece.{Piece}
use Rattle.vb_lex.specs.declared.piece.Piece.TheVariants.{Gap, Word, Fault}
use Rattle.vb_lex.specs.declared.place.Place.{Place}
use Rattle.vb_lex.specs.Places.{first_place, past, token_at}
use Rattle.vb_lex.specs.Tokens.{HasAnswer, Reaches, edge, piece_at}
use Rattle.vb_lex.proofs.Cutting.{gap_ends, reached_fault, reached_first, reached_gap, reached_whole, reached_word}
use Rattle.vb_lex.proofs.Cutting.{word_ends}

-- from a place on, over what is left
answer_from : (left : ℕ) (text : List ℕ) (tokens : List Token) (place : Place) → Reaches text tokens place
    → place.at ≤ length text → length text ≤ place.at + left → HasAnswer text
answer_from zero text tokens place reaches within bound =
    inl (tokens ++ edge place ∷ [], reached_whole text tokens place reaches (omega arith))
answer_from (suc left) text tokens place reaches within bound =
    elim (cases_lt place.at (length text)) [
      | inr past_all ↦ inl (tokens ++ edge place ∷ [], reached_whole text tokens place reaches (omega arith))
      | inl before ↦
          (let go : (one : Piece) → piece_at text place ≡ one → HasAnswer text =
          elim [
            | Gap taken ↦ λ stands.
                (let ends = gap_ends text place taken before stands in
                answer_from left text tokens (past text place (Gap taken))
                (reached_gap text tokens place taken reaches before stands) ends.1 (omega (arith, ends.0)))
            | Word kind taken ↦ λ stands.
                (let ends = word_ends text place kind taken before stands in
                answer_from left text (tokens ++ token_at place kind taken ∷ []) (past text place (Word kind taken))
                (reached_word text tokens place kind taken reaches before stands) ends.1 (omega (arith, ends.0)))
            | Fault fault ↦ λ stands.
                inr (fault, place.line, reached_fault text tokens place fault reaches before stands)
          ] in
          go (piece_at text place) refl)
    ]

pub answered : (text : List ℕ) → HasAnswer text
answered text = answer_from (length text) text (edge first_place ∷ []) first_place (reached_first text)
    (omega arith) (omega arith)
