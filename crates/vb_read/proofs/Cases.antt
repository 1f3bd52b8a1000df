-- Loops over the parts of If and Select, and over statements.
use Rattle.std.proofs.Common.{◌≡◌, ◌<◌, ℕ, zero, suc, length, IsTrue, Bool, true, false, cond, List, [], ◌∷◌, ◌++◌, Option}
use Rattle.std.proofs.Common.{Some, None, Ok, refl, ap, ◌∙◌, arith}
use Rattle.std.specs.declared.ops.ControlFlow.TheVariants.{Continue, Break}
use Rattle.vb_value.specs.declared.token.Keyword.TheVariants as k
use Rattle.vb_value.specs.declared.token.TokenKind.TheVariants as kind
use Rattle.vb_syntax.specs.declared.expression.Expression.{Expression}
use Rattle.vb_syntax.specs.declared.statement.Case.{Case}
use Rattle.vb_syntax.specs.declared.statement.Statement.{Statement}
use Rattle.vb_syntax.specs.declared.statement.StatementKind.TheVariants as st
use Rattle.vb_syntax.specs.grammar.Rules.{Tokens}
use Rattle.vb_syntax.specs.grammar.SimpleStatements.{Looser, statement}
use Rattle.vb_read.specs.Reader as reader
use Rattle.vb_read.specs.Reader.{Reader, Outcome, Turn, and_then, next}
use Rattle.vb_read.specs.ReadLines.{Blocks, «end»}
use Rattle.vb_read.specs.ReadStatements as spec
use Rattle.vb_read.specs.ReadStatements.{blocks_inside}
use Rattle.vb_read.specs.Depths.{opens}
use Rattle.vb_read.proofs.Reading.{Moves, moves, full_bind, full_word}
use Rattle.vb_read.proofs.Until.{OnwardMoves, onward_moves}
use Rattle.vb_read.proofs.Untils.{until_more}
use Rattle.vb_read.proofs.StatementReading.{reads_passed_text, full_passed_text, reads_else_if, reads_case_turn, reads_sentence}
use Rattle.vb_read.proofs.StatementReading.{full_sentence, inner_blocks}

-- what the turns of Select give
abbrev pub cases_value : List Case → Option (List Statement) → List Case × Option (List Statement)
cases_value found otherwise = (found, otherwise)

-- one more construct may open
pub opens_some : (depth : ℕ) → 0 < depth → IsTrue (opens depth)
opens_some zero some = absurd (omega arith)
opens_some (suc depth) some = refl

-- ---- what is read in a turn takes a token

pub moves_passed_text : (any : Bool) → Moves (spec.passed_text any)
moves_passed_text any = moves _ _ (reads_passed_text any) (full_passed_text any)

pub moves_sentence : (looser : Looser) (depth : ℕ) → Moves (spec.sentence looser depth (blocks_inside looser depth))
moves_sentence looser depth = moves _ _ (reads_sentence looser depth _ _ (inner_blocks looser depth))
    (full_sentence looser depth _ _ (inner_blocks looser depth))

pub moves_else_if : (looser : Looser) (depth : ℕ) → IsTrue (opens depth)
    → Moves (spec.else_if looser depth (blocks_inside looser depth))
moves_else_if looser depth is = moves _ _ (reads_else_if looser depth _ _ (inner_blocks looser depth) is)
    (full_bind _ _ (full_word (kind.Keyword k.ElseIf)))

-- ---- the parts of Select

module _ (looser : Looser) (depth : ℕ) (opens : IsTrue (opens depth)) where
  abbrev inner : Blocks
  inner = blocks_inside looser depth

  abbrev Part : Type 0
  Part = Turn Case (Option (List Statement))

  -- a part behind its first word
  abbrev part_from : ℕ → Reader Part
  part_from line = reader.case (reader.sees (kind.Keyword k.Else))
      (reader.◌>>=◌ (spec.case_else looser depth inner) (λ body. reader.pure (Break (Some body))))
      (reader.◌>>=◌ (spec.case_from looser depth inner line) (λ found. reader.pure (Continue found)))

  abbrev part_open : Reader Part
  part_open = reader.◌>>=◌ (reader.keyword k.Case) part_from

  onward : OnwardMoves (spec.case_turn looser depth inner)
  onward = onward_moves _ _ _ (reads_case_turn looser depth _ _ (inner_blocks looser depth) opens)
      (full_bind _ _ (full_word (kind.Keyword k.Case)))

  -- a "Case" that is not the last part
  turn_case : (tokens middle rest : Tokens) (line : ℕ) (x : Case)
      → reader.sees (kind.Keyword k.Case) (next tokens) ≡ true → reader.keyword k.Case tokens ≡ Ok (line, middle)
      → reader.sees (kind.Keyword k.Else) (next middle) ≡ false
      → spec.case_from looser depth inner line middle ≡ Ok (x, rest)
      → spec.case_turn looser depth inner tokens ≡ Ok (Continue x, rest)
  turn_case tokens middle rest line x is word no_else from =
      ap (λ b. cond b (part_open tokens) (Ok (Break None, tokens))) is
      ∙ ap (λ o. and_then o part_from) word
      ∙ ap (λ b. cond b (and_then (spec.case_else looser depth inner middle) (λ body. reader.pure (Break (Some body))))
      (and_then (spec.case_from looser depth inner line middle) (λ found. reader.pure (Continue found)))) no_else
      ∙ ap (λ o. and_then o (λ found. reader.pure (Continue found))) from

  -- a turn takes a token
  pub cases_less : (tokens middle rest : Tokens) (line : ℕ) (x : Case)
      → reader.sees (kind.Keyword k.Case) (next tokens) ≡ true → reader.keyword k.Case tokens ≡ Ok (line, middle)
      → reader.sees (kind.Keyword k.Else) (next middle) ≡ false
      → spec.case_from looser depth inner line middle ≡ Ok (x, rest) → length rest < length tokens
  cases_less tokens middle rest line x is word no_else from =
      onward tokens x rest (turn_case tokens middle rest line x is word no_else from)

  module _ (whole : Outcome (List Case × Option (List Statement))) (found : List Case) (tokens : Tokens) where
    -- what is left to read of Select
    abbrev pub Left : List Case → Tokens → Type 0
    Left done from = whole ≡ and_then (spec.cases looser depth inner from)
        (λ more. reader.pure (cases_value (done ++ more.0) more.1))

    pub cases_more : (new : List Case) (middle rest : Tokens) (line : ℕ) (x : Case) → Left found tokens
        → reader.sees (kind.Keyword k.Case) (next tokens) ≡ true → reader.keyword k.Case tokens ≡ Ok (line, middle)
        → reader.sees (kind.Keyword k.Else) (next middle) ≡ false
        → spec.case_from looser depth inner line middle ≡ Ok (x, rest) → new ≡ found ++ x ∷ [] → Left new rest
    cases_more new middle rest line x inv is word no_else from e =
        until_more (spec.case_turn looser depth inner) onward cases_value whole found tokens rest new x inv
        (turn_case tokens middle rest line x is word no_else from) e

-- Select from its end on, behind what was read before that
pub select_from : (looser : Looser) (depth : ℕ) (inner : Blocks) (t0 t1 t2 t3 t4 t5 t6 : Tokens) (line x : ℕ)
    (subject : Expression) (found : List Case × Option (List Statement)) → IsTrue (opens depth)
    → reader.keyword k.Select t0 ≡ Ok (line, t1) → reader.keyword k.Case t1 ≡ Ok (x, t2)
    → spec.within looser depth inner t2 ≡ Ok (subject, t3) → «end» t3 ≡ Ok (tt, t4)
    → spec.passed_texts looser.texts t4 ≡ Ok (tt, t5) → spec.cases looser depth inner t5 ≡ Ok (found, t6)
    → spec.select looser depth inner t0 ≡ reader.◌>>◌ (reader.keyword k.End) (reader.◌>>◌ (reader.keyword k.Select)
    (reader.pure (statement line (st.Select subject found.0 found.1)))) t6
select_from looser depth inner t0 t1 t2 t3 t4 t5 t6 line x subject found is e0 e1 e2 e3 e4 e5 =
    rw (is, e0, e1, e2, e3, e4, e5) refl
