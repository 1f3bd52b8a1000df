-- Loops over things with commas between.
use Rattle.std.proofs.Common.{◌≡◌, ◌<◌, true, List, [], ◌∷◌, ◌++◌, length, Ok, refl, ap, ◌∙◌, ℕ}
use Rattle.vb_value.specs.declared.token.Symbol.TheVariants as s
use Rattle.vb_value.specs.declared.token.TokenKind.TheVariants as kind
use Rattle.vb_syntax.specs.grammar.Rules.{Tokens, Rule}
use Rattle.vb_read.specs.Reader as reader
use Rattle.vb_read.specs.Reader.{Reader, Outcome, and_then, next}
use Rattle.vb_read.specs.ReadExpressions.{comma_and, more_of}
use Rattle.vb_read.proofs.Reading.{Moves, Reads, moves, reads_bind, reads_word, full_bind, full_word}
use Rattle.vb_read.proofs.Turns.{found_turn}

moves_comma : {A : Type 0} {p : Reader A} {r : Rule A} → Reads p r → Moves (comma_and p)
moves_comma reads = moves _ _ (reads_bind (reads_word (kind.Symbol s.Comma)) (λ _. reads)) (full_bind _ _
    (full_word (kind.Symbol s.Comma)))

-- a turn takes a token
pub comma_less : {A : Type 0} {p : Reader A} {r : Rule A} → Reads p r → (tokens middle rest : Tokens) (line : ℕ) (x : A)
    → reader.symbol s.Comma tokens ≡ Ok (line, middle) → p middle ≡ Ok (x, rest) → length rest < length tokens
comma_less {A} {p} reads tokens middle rest line x comma thing =
    moves_comma reads tokens x rest (ap (λ o. and_then o (λ _. p)) comma ∙ thing)

-- a turn leaves less to read
pub comma_turn : {A B : Type 0} {p : Reader A} {r : Rule A} → Reads p r → (f : List A → B) (whole : Outcome B)
    (found new : List A) (tokens middle rest : Tokens) (line : ℕ) (x : A)
    → whole ≡ and_then (more_of p tokens) (λ more. reader.pure (f (found ++ more)))
    → reader.sees (kind.Symbol s.Comma) (next tokens) ≡ true
    → reader.symbol s.Comma tokens ≡ Ok (line, middle) → p middle ≡ Ok (x, rest) → new ≡ found ++ x ∷ []
    → whole ≡ and_then (more_of p rest) (λ more. reader.pure (f (new ++ more)))
comma_turn {A} {B} {p} reads f whole found new tokens middle rest line x inv is comma thing e =
    found_turn (reader.sees (kind.Symbol s.Comma)) (comma_and p) (moves_comma reads) refl f whole found new tokens
    rest x inv is (ap (λ o. and_then o (λ _. p)) comma ∙ thing) e
