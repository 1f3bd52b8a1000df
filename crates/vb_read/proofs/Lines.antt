-- Loops over the statements of a line.
use Rattle.std.proofs.Common.{◌≡◌, ℕ, Bool, true, false, cond, List, [], ◌∷◌, ◌++◌, length, ◌<◌}
use Rattle.std.proofs.Common.{Option, Some, None, Ok, Err, refl, ap, ◌∙◌}
use Rattle.std.specs.declared.ops.ControlFlow.TheVariants.{Continue, Break}
use Rattle.vb_value.specs.declared.token.Keyword.TheVariants as k
use Rattle.vb_value.specs.declared.token.Symbol.TheVariants as s
use Rattle.vb_value.specs.declared.token.TokenKind.TheVariants as kind
use Rattle.vb_syntax.specs.declared.statement.Statement.{Statement}
use Rattle.vb_syntax.specs.grammar.Rules.{Tokens}
use Rattle.vb_syntax.specs.grammar.SimpleStatements.{Looser}
use Rattle.vb_read.specs.Reader as reader
use Rattle.vb_read.specs.Reader.{Reader, Outcome, Turn, and_then, next}
use Rattle.vb_read.specs.ReadLines as spec
use Rattle.vb_read.specs.ReadLines.{Blocks, LineRead, LastRead}
use Rattle.vb_read.specs.ReadSimpleStatements.{simple}
use Rattle.vb_read.specs.ReadStatements.{blocks_inside}
use Rattle.vb_read.proofs.Reading.{moves, reads_pure, reads_bind, reads_choice, reads_word, full_bind}
use Rattle.vb_read.proofs.Until.{OnwardMoves}
use Rattle.vb_read.proofs.Untils.{until_more}
use Rattle.vb_read.proofs.SimpleReading.{reads_simple, full_simple}
use Rattle.vb_read.proofs.LineReading.{moves_line_turn}
use Rattle.vb_read.proofs.StatementReading.{inner_blocks}

-- what the turns of a line give
abbrev pub line_value : List Statement → LastRead → LineRead
line_value found last = (found ++ last.0 ∷ [], last.1, last.2)

-- behind a statement of a line: nothing where another follows, else whether a ":" was taken
abbrev pub behind : Reader (Option Bool)
behind = reader.case (reader.sees (kind.Symbol s.Colon))
    (reader.◌>>◌ (reader.symbol s.Colon) (reader.case spec.begins_line_statement
    (reader.pure None) (reader.pure (Some true))))
    (reader.pure (Some false))

-- a statement that another follows takes a token
pub line_less : (looser : Looser) (depth : ℕ) (tokens middle rest : Tokens) (x : Statement) (ended : Option Bool)
    → simple looser depth tokens ≡ Ok (x, middle) → behind middle ≡ Ok (ended, rest) → length rest < length tokens
line_less looser depth tokens middle rest x ended is later =
    moves _ _ (reads_bind (reads_simple looser depth) (λ _. reads_choice (reader.sees (kind.Symbol s.Colon))
    (reads_bind (reads_word (kind.Symbol s.Colon)) (λ _. reads_choice spec.begins_line_statement (reads_pure None)
    (reads_pure (Some true)))) (reads_pure (Some false)))) (full_bind _ _ (full_simple looser depth)) tokens ended rest
    (ap (λ o. and_then o (λ _. behind)) is ∙ later)

abbrev turn_of : Statement → Option Bool → Turn Statement LastRead
turn_of found None = Continue found
turn_of found (Some ended) = Break (found, false, ended)

module _ (looser : Looser) (depth : ℕ) where
  abbrev inner : Blocks
  inner = blocks_inside looser depth

  behind_is : (found : Statement) (tokens : Tokens) → spec.behind_simple looser depth inner found tokens
      ≡ and_then (behind tokens) (λ ended. reader.pure (turn_of found ended))
  behind_is found tokens = go (reader.sees (kind.Symbol s.Colon) (next tokens))
    where
      later : (o : Outcome ℕ)
          → and_then o (λ _. reader.case spec.begins_line_statement (reader.pure (Continue found))
          (reader.pure (Break (found, false, true))))
          ≡ and_then (and_then o (λ _. reader.case spec.begins_line_statement (reader.pure None)
          (reader.pure (Some true)))) (λ ended. reader.pure (turn_of found ended))
      later (Ok q) = by (spec.begins_line_statement (next q.1))
        where
          by : (b : Bool) → cond b (Ok (Continue found, q.1)) (Ok (Break (found, false, true), q.1))
              ≡ and_then (cond b (Ok (None, q.1)) (Ok (Some true, q.1))) (λ ended. reader.pure (turn_of found ended))
          by true = refl
          by false = refl
      later (Err w) = refl

      go : (b : Bool) → cond b (and_then (reader.symbol s.Colon tokens)
          (λ _. reader.case spec.begins_line_statement (reader.pure (Continue found))
          (reader.pure (Break (found, false, true))))) (Ok (Break (found, false, false), tokens))
          ≡ and_then (cond b (and_then (reader.symbol s.Colon tokens)
          (λ _. reader.case spec.begins_line_statement (reader.pure None) (reader.pure (Some true))))
          (Ok (Some false, tokens))) (λ ended. reader.pure (turn_of found ended))
      go true = later (reader.symbol s.Colon tokens)
      go false = refl

  abbrev turn : Reader (Turn Statement LastRead)
  turn = spec.line_turn looser depth inner

  no_if : (tokens : Tokens) → reader.sees (kind.Keyword k.If) (next tokens) ≡ false
      → turn tokens ≡ and_then (simple looser depth tokens) (spec.behind_simple looser depth inner)
  no_if tokens is = ap (λ b. cond b (and_then (spec.line_if looser depth inner tokens)
      (λ found. reader.pure (Break found))) (and_then (simple looser depth tokens)
      (spec.behind_simple looser depth inner))) is

  -- a statement, and what is behind it
  pub turn_simple : (tokens middle rest : Tokens) (x : Statement) (ended : Option Bool)
      → reader.sees (kind.Keyword k.If) (next tokens) ≡ false → simple looser depth tokens ≡ Ok (x, middle)
      → behind middle ≡ Ok (ended, rest) → turn tokens ≡ Ok (turn_of x ended, rest)
  turn_simple tokens middle rest x ended is first later = no_if tokens is
      ∙ ap (λ o. and_then o (spec.behind_simple looser depth inner)) first
      ∙ behind_is x middle ∙ ap (λ o. and_then o (λ ended. reader.pure (turn_of x ended))) later

  moves_turn : OnwardMoves turn
  moves_turn = moves_line_turn looser depth _ _ (inner_blocks looser depth)

  module _ (whole : Outcome LineRead) (found : List Statement) (tokens : Tokens) where
    -- what is left to read of a line
    abbrev pub Left : List Statement → Tokens → Type 0
    Left done from = whole
        ≡ and_then (reader.until turn from) (λ more. reader.pure (line_value (done ++ more.0) more.1))

    -- a statement that another follows
    pub line_more : (new : List Statement) (middle rest : Tokens) (x : Statement) (ended : Option Bool)
        → Left found tokens → reader.sees (kind.Keyword k.If) (next tokens) ≡ false
        → simple looser depth tokens ≡ Ok (x, middle) → behind middle ≡ Ok (ended, rest) → ended ≡ None
        → new ≡ found ++ x ∷ [] → Left new rest
    line_more new middle rest x ended inv is first later none e =
        until_more turn moves_turn line_value whole found tokens rest new x inv
        (turn_simple tokens middle rest x None is first (later ∙ ap (λ o. Ok (o, rest)) none)) e
