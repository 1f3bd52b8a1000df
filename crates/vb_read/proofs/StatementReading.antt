-- The readers of statements that hold others, and of blocks, read the grammar's.
use Rattle.std.proofs.Common.{◌≡◌, ℕ, zero, suc, inl, inr, Bool, true, false, IsTrue, List, [], ◌∷◌, ◌++◌, Option, Some}
use Rattle.std.proofs.Common.{None, refl, sym, ap, ◌∙◌, append_assoc, append-nil, subst, codes}
use Rattle.std.specs.declared.ops.ControlFlow.TheVariants.{Continue, Break}
use Rattle.vb_value.specs.declared.token.Keyword.TheVariants as k
use Rattle.vb_value.specs.declared.token.Symbol.TheVariants as s
use Rattle.vb_value.specs.declared.token.TokenKind.TheVariants as kind
use Rattle.vb_syntax.specs.declared.expression.Expression.{Expression}
use Rattle.vb_syntax.specs.declared.statement.Case.{Case, roll-Case}
use Rattle.vb_syntax.specs.declared.statement.Repetition.TheVariants as repetition
use Rattle.vb_syntax.specs.declared.statement.Statement.{Statement}
use Rattle.vb_syntax.specs.declared.statement.StatementKind.TheVariants as st
use Rattle.vb_syntax.specs.grammar.Rules.{Tokens, Rule}
use Rattle.vb_syntax.specs.grammar.Rules as rule
use Rattle.vb_syntax.specs.grammar.Words as words
use Rattle.vb_syntax.specs.grammar.SimpleStatements as simple
use Rattle.vb_syntax.specs.grammar.SimpleStatements.{Looser, statement, quoted_at}
use Rattle.vb_syntax.specs.grammar.Statements as grammar
use Rattle.vb_syntax.specs.grammar.Statements.{passed}
use Rattle.vb_read.specs.Reader.{Reader, Turn}
use Rattle.vb_read.specs.Reader as reader
use Rattle.vb_read.specs.ReadLines as lines
use Rattle.vb_read.specs.ReadStatements as spec
use Rattle.vb_read.specs.Depths.{opens}
use Rattle.vb_read.proofs.Reading.{Reads, Lives, NoEmpty, reads_pure, reads_wider, reads_bind, reads_one, reads_choice}
use Rattle.vb_read.proofs.Reading.{reads_both, reads_gate, reads_many, reads_word, reads_name, full_one, full_bind}
use Rattle.vb_read.proofs.Reading.{full_word}
use Rattle.vb_read.proofs.Reading.{token_of}
use Rattle.vb_read.proofs.Binding.{Within, within_then, bind_wider, first_wider, bind_left, bind_right, pure_in}
use Rattle.vb_read.proofs.Binding.{pure_out, bind_or, or_wider, or_within}
use Rattle.vb_read.proofs.Until.{turn_rule, until_rule, reads_until, onward_turn, last_turn, until_apart}
use Rattle.vb_read.proofs.ExpressionReading.{reads_list_of}
use Rattle.vb_read.proofs.CallReading.{reads_here}
use Rattle.vb_read.proofs.SimpleReading.{full_or, reads_const, reads_simple, lives_simple, full_simple}
use Rattle.vb_read.proofs.LineReading.{reads_end, reads_line_end, maybe_colon, InnerBlocks, reads_inside, else_rule}
use Rattle.vb_read.proofs.LineReading.{reads_line_if_from, reads_line}

-- ---- texts that are passed over

no_text_passes : (any : Bool) → passed any (token_of (kind.PageText [])) ≡ Some tt
no_text_passes true = refl
no_text_passes false = refl

pub reads_passed_text : (any : Bool) → Reads (spec.passed_text any) (grammar.passed_text any)
reads_passed_text any = reads_bind (reads_one (passed any) (token_of (kind.PageText [])) tt (no_text_passes any))
    (λ _. reads_end)

pub full_passed_text : (any : Bool) → NoEmpty (grammar.passed_text any)
full_passed_text any = full_bind _ _ (full_one (passed any))

pub reads_passed_texts : (any : Bool) → Reads (spec.passed_texts any) (grammar.passed_texts any)
unfolding spec.passed_texts
reads_passed_texts any = reads_bind (reads_many (reader.passes (passed any)) (reads_passed_text any)
    (full_passed_text any) refl) (λ _. reads_pure tt)

-- ---- words

reads_step_word : Reads (reader.one (quoted_at (codes "step"))) (simple.quoted (codes "step"))
reads_step_word = reads_one (quoted_at (codes "step")) (token_of (kind.Name (codes "step") false)) 1 refl

-- a ":" before a line end is one of its colons
colon_before : {A : Type 0} {f : Unit {0} → Rule A}
    → Within (rule.◌>>=◌ maybe_colon (λ _. rule.◌>>=◌ grammar.line_end f)) (rule.◌>>=◌ grammar.line_end f)
colon_before {A} {f} front x h = go h.thing h.first_spells
  where
    go : (colon : Bool) → maybe_colon h.front colon → rule.◌>>=◌ grammar.line_end f front x
    go colon (inl w) = let n = h.next_spells in let l = n.first_spells in record {
      front = h.front ++ n.front;
      back = n.back;
      thing = n.thing;
      split = h.split ∙ ap (λ t. h.front ++ t) n.split ∙ sym (append_assoc h.front n.front n.back);
      first_spells = record {
        front = h.front ++ l.front;
        back = l.back;
        thing = w.thing ∷ l.thing;
        split = ap (λ t. h.front ++ t) l.split ∙ sym (append_assoc h.front l.front l.back);
        first_spells = record {
          front = h.front;
          back = l.front;
          split = refl;
          first = subst (λ t. words.symbol s.Colon t w.thing) (sym (w.split ∙ ap (λ t. w.front ++ t) w.next_spells.0
              ∙ append-nil w.front)) w.first_spells;
          second = l.first_spells;
        };
        next_spells = l.next_spells;
      };
      next_spells = n.next_spells;
    }
    go colon (inr w) = subst (λ t. rule.◌>>=◌ grammar.line_end f t x) (sym (h.split ∙ ap (λ t. t ++ h.back) w.0))
        h.next_spells

-- ---- conditions of loops

reads_condition : {p : Reader Expression} {r : Rule Expression} (looser : Looser) (depth : ℕ) (br : grammar.Blocks)
    → Reads p r → Reads (spec.condition p) (grammar.condition looser depth br r)
reads_condition looser depth br reads = reads_bind (reads_choice (reader.sees (kind.Keyword k.While))
    (reads_bind (reads_word (kind.Keyword k.While)) (λ line. reads_pure (line, false)))
    (reads_bind (reads_word (kind.Keyword k.Until)) (λ line. reads_pure (line, true))))
    (λ found. reads_bind reads (λ test. reads_pure _))

module _ (looser : Looser) (depth : ℕ) (bp : lines.Blocks) (br : grammar.Blocks) (inner : InnerBlocks depth bp br) where
  reads_within : IsTrue (opens depth) → Reads (spec.within looser depth bp) (grammar.inside looser depth br)
  reads_within is = reads_inside looser depth bp br inner is

  -- "end", and the block behind it
  reads_body : {A : Type 0} {f : List Statement → Reader A} {g : List Statement → Rule A} → IsTrue (opens depth)
      → ((body : List Statement) → Reads (f body) (g body))
      → Reads (reader.◌>>◌ lines.«end» (reader.◌>>=◌ bp.block f)) (rule.◌>>◌ grammar.«end» (rule.◌>>=◌ br.block g))
  reads_body is later = reads_bind reads_end (λ _. reads_bind (inner.block is) later)

  -- ---- what a statement is, but for its end

  abbrev pub statement_rule : Rule Statement
  statement_rule = rule.◌or◌ (simple.const looser depth) (rule.◌or◌ (grammar.compound looser depth br)
      (simple.simple looser depth))

  lives_statement : Lives statement_rule
  lives_statement = let l = lives_simple looser depth in record {
    tokens = l.tokens;
    thing = l.thing;
    spells = inr (inr l.spells);
  }

  -- a statement that holds others, where one more construct may open
  reads_compound : {p : Reader Statement} {r : Rule Statement} → Within r (grammar.compound looser depth br)
      → (IsTrue (opens depth) → Reads p r) → Reads (reader.gate (opens depth) p) statement_rule
  reads_compound wider reads = reads_gate (opens depth) lives_statement (λ front x h. inr (inl
      (wider front x h.1))) reads

  -- ---- If

  block_if_rest : ℕ → Expression → Rule Statement
  block_if_rest line condition = rule.◌>>◌ grammar.«end» (rule.◌>>=◌ br.block (λ body. rule.◌>>=◌ (rule.many
      (grammar.else_if looser depth br)) (λ others. rule.◌>>=◌ (grammar.else_part looser depth br)
      (λ otherwise. rule.◌>>◌ (words.keyword k.End) (rule.◌>>◌ (words.keyword k.If)
      (rule.pure (statement line (st.If condition body others otherwise))))))))

  pub reads_else_if : IsTrue (opens depth) → Reads (spec.else_if looser depth bp) (grammar.else_if looser depth br)
  reads_else_if is = reads_bind (reads_word (kind.Keyword k.ElseIf)) (λ line. reads_bind (reads_within is)
      (λ condition. reads_bind (reads_word (kind.Keyword k.Then)) (λ _. reads_body is (λ body. reads_pure _))))

  reads_else_part : IsTrue (opens depth) → Reads (spec.else_part looser depth bp) (grammar.else_part looser depth br)
  reads_else_part is = reads_choice (reader.sees (kind.Keyword k.Else))
      (reads_wider (within_then bind_right (bind_wider (λ _. bind_right))) (reads_bind (reads_bind
      (reads_word (kind.Keyword k.Else)) (λ _. reads_bind reads_end (λ _. inner.block is))) (λ body. reads_pure (Some
      body))))
      (reads_pure None)

  reads_block_if_from : IsTrue (opens depth) → (line : ℕ) (condition : Expression)
      → Reads (spec.block_if_from looser depth bp line condition) (block_if_rest line condition)
  unfolding block_if_rest
  reads_block_if_from is line condition = reads_body is (λ body. reads_bind (reads_many (reader.sees (kind.Keyword
      k.ElseIf)) (reads_else_if is) (full_bind _ _ (full_word (kind.Keyword k.ElseIf))) refl)
      (λ others. reads_bind (reads_else_part is) (λ otherwise. reads_bind (reads_word (kind.Keyword k.End))
      (λ _. reads_bind (reads_word (kind.Keyword k.If)) (λ _. reads_pure _)))))

  -- ---- Select

  abbrev case_else_rule : Rule (Option (List Statement))
  case_else_rule = grammar.case_else looser depth br

  abbrev case_turn_rule : Rule (Turn Case (Option (List Statement)))
  case_turn_rule = turn_rule (grammar.case looser depth br) case_else_rule

  -- "Else" end block
  abbrev else_block : Rule (List Statement)
  else_block = rule.◌>>◌ (words.keyword k.Else) (rule.◌>>◌ grammar.«end» br.block)

  -- exprs end block
  abbrev case_rest : ℕ → Rule Case
  case_rest line = rule.◌>>=◌ (words.list_of (grammar.inside looser depth br)) (λ values. rule.◌>>◌ grammar.«end»
      (rule.◌>>=◌ br.block (λ body. rule.pure (roll-Case (record { line = line; values = values; body = body })))))

  case_else_turn : Within (rule.◌>>◌ (words.keyword k.Case) (rule.◌>>=◌ else_block (λ body. rule.pure (Break
      (Some body)))))
      case_turn_rule
  case_else_turn = within_then (within_then (bind_wider (λ _. within_then bind_right (within_then (bind_wider
      (λ _. within_then bind_right (within_then (bind_wider (λ _. within_then (bind_wider (λ body. pure_in)) bind_left))
      bind_left))) bind_left))) bind_left) (within_then (first_wider (λ _ _ h. inl h)) (last_turn _
      {s = case_else_rule}))

  case_of_turn : Within (rule.◌>>=◌ (words.keyword k.Case) (λ line. rule.◌>>=◌ (case_rest line)
      (λ found. rule.pure (Continue found)))) case_turn_rule
  case_of_turn = within_then bind_left (onward_turn {r = grammar.case looser depth br} case_else_rule)

  no_case_turn : Within (rule.pure (Break None)) case_turn_rule
  no_case_turn front t h = subst (λ u. case_turn_rule front u) (sym h.1) (inr (h.0, refl))

  pub reads_case_turn : IsTrue (opens depth) → Reads (spec.case_turn looser depth bp) case_turn_rule
  reads_case_turn is = reads_wider (or_within (within_then bind_or (or_within case_else_turn case_of_turn))
      no_case_turn)
      (reads_choice (reader.sees (kind.Keyword k.Case))
      (reads_bind (reads_word (kind.Keyword k.Case)) (λ line. reads_choice (reader.sees (kind.Keyword k.Else))
      (reads_bind (reads_bind (reads_word (kind.Keyword k.Else)) (λ _. reads_bind reads_end (λ _. inner.block is)))
      (λ body. reads_pure (Break (Some body))))
      (reads_bind (reads_bind (reads_list_of (reads_within is)) (λ values. reads_body is (λ body. reads_pure _)))
      (λ found. reads_pure (Continue found)))))
      (reads_pure (Break None)))

  reads_cases : IsTrue (opens depth) → Reads (spec.cases looser depth bp)
      (until_rule (grammar.case looser depth br) case_else_rule)
  reads_cases is = reads_until (reads_case_turn is) (full_bind _ _ (full_word (kind.Keyword k.Case))) (record {
    tokens = [];
    thing = None;
    spells = inr (refl, refl);
  })

  reads_select : Reads (spec.select looser depth bp) statement_rule
  reads_select = reads_compound (λ _ _ h. inr (inl h)) (λ is. reads_bind (reads_word (kind.Keyword k.Select))
      (λ line. reads_bind (reads_word (kind.Keyword k.Case)) (λ _. reads_bind (reads_within is)
      (λ subject. reads_bind reads_end (λ _. reads_bind (reads_passed_texts looser.texts)
      (λ _. reads_wider until_apart (reads_bind (reads_cases is) (λ found. reads_bind (reads_word (kind.Keyword k.End))
      (λ _. reads_bind (reads_word (kind.Keyword k.Select)) (λ _. reads_pure (statement line (st.Select subject found.0
      found.1))))))))))))

  -- ---- loops

  -- [ "Step" expr ]
  abbrev step_part : Rule (Option Expression)
  step_part = rule.◌or◌ (rule.◌>>◌ (simple.quoted (codes "step")) (rule.◌>>=◌ (grammar.inside looser depth br)
      (λ found. rule.pure (Some found)))) (rule.pure None)

  reads_step_part : IsTrue (opens depth) → Reads (spec.step_part looser depth bp) step_part
  reads_step_part is = reads_choice (reader.passes (quoted_at (codes "step")))
      (reads_bind reads_step_word (λ _. reads_bind (reads_within is) (λ found. reads_pure (Some found))))
      (reads_pure None)

  -- name "=" expr "To" expr [ "Step" expr ] end block "Next"
  abbrev for_rest : ℕ → Rule Statement
  for_rest line = rule.◌>>=◌ (rule.one words.name_of) (λ variable. rule.◌>>◌ (words.symbol s.Equal) (rule.◌>>=◌
      (grammar.inside looser depth br) (λ from. rule.◌>>◌ (words.keyword k.To) (rule.◌>>=◌
      (grammar.inside looser depth br) (λ to. rule.◌>>=◌ step_part (λ by. rule.◌>>◌ grammar.«end» (rule.◌>>=◌ br.block
      (λ body. rule.◌>>◌ (words.keyword k.Next) (rule.pure (statement line (st.For variable from to by body)))))))))))

  reads_for_from : IsTrue (opens depth) → (line : ℕ) → Reads (spec.for_from looser depth bp line) (for_rest line)
  reads_for_from is line = reads_bind reads_name (λ variable. reads_bind (reads_word (kind.Symbol s.Equal))
      (λ _. reads_bind (reads_within is) (λ from. reads_bind (reads_word (kind.Keyword k.To))
      (λ _. reads_bind (reads_within is) (λ to. reads_bind (reads_step_part is) (λ by. reads_body is
      (λ body. reads_bind (reads_word (kind.Keyword k.Next)) (λ _. reads_pure _))))))))

  -- "Each" name "In" expr end block "Next"
  abbrev for_each_rest : ℕ → Rule Statement
  for_each_rest line = rule.◌>>◌ (words.keyword k.Each) (rule.◌>>=◌ (rule.one words.name_of)
      (λ variable. rule.◌>>◌ (words.keyword k.In) (rule.◌>>=◌ (grammar.inside looser depth br)
      (λ group. rule.◌>>◌ grammar.«end» (rule.◌>>=◌ br.block (λ body. rule.◌>>◌ (words.keyword k.Next)
      (rule.pure (statement line (st.ForEach variable group body)))))))))

  reads_for_each_from : IsTrue (opens depth) → (line : ℕ) → Reads (spec.for_each_from looser depth bp line)
      (for_each_rest line)
  reads_for_each_from is line = reads_bind (reads_word (kind.Keyword k.Each)) (λ _. reads_bind reads_name
      (λ variable. reads_bind (reads_word (kind.Keyword k.In)) (λ _. reads_bind (reads_within is)
      (λ group. reads_body is (λ body. reads_bind (reads_word (kind.Keyword k.Next)) (λ _. reads_pure _))))))

  reads_for : Reads (spec.for looser depth bp) statement_rule
  reads_for = reads_compound {r = rule.◌>>=◌ (words.keyword k.For) (λ line. rule.◌or◌ (for_each_rest line)
      (for_rest line))}
      (λ front x h. either front x (bind_or front x h)) (λ is. reads_bind (reads_word (kind.Keyword k.For))
      (λ line. reads_choice (reader.sees (kind.Keyword k.Each)) (reads_for_each_from is line) (reads_for_from is line)))
    where
      either : Within (rule.◌or◌ (grammar.for_each looser depth br) (grammar.for looser depth br))
          (grammar.compound looser depth br)
      either front x (inl h) = inr (inr (inr (inl h)))
      either front x (inr h) = inr (inr (inl h))

  reads_do_loop : Reads (spec.do_loop looser depth bp) statement_rule
  reads_do_loop = reads_compound (λ _ _ h. inr (inr (inr (inr (inl h))))) (λ is. reads_bind (reads_word
      (kind.Keyword k.Do))
      (λ line. reads_choice spec.sees_loop_word
      (reads_bind (reads_condition looser depth br (reads_within is)) (λ found. reads_body is (λ body. reads_bind
      (reads_word (kind.Keyword k.Loop)) (λ _. reads_pure _))))
      (reads_body is (λ body. reads_bind (reads_word (kind.Keyword k.Loop)) (λ _. reads_bind
      (reads_both spec.sees_loop_word
      (reads_wider (λ _ _ h. inr h) (reads_bind (reads_condition looser depth br (reads_here looser depth))
      (λ found. reads_pure (repetition.After found.0 found.1))))
      (reads_wider (λ _ _ h. inl h) (reads_pure repetition.Endless)))
      (λ repeated. reads_pure _))))))

  reads_while : Reads (spec.while looser depth bp) statement_rule
  reads_while = reads_compound (λ _ _ h. inr (inr (inr (inr (inr (inl h)))))) (λ is. reads_bind (reads_word
      (kind.Keyword
      k.While)) (λ line. reads_bind (reads_within is) (λ condition. reads_body is (λ body. reads_bind
      (reads_word (kind.Keyword k.Wend)) (λ _. reads_pure _)))))

  reads_with_block : Reads (spec.with_block looser depth bp) statement_rule
  reads_with_block = reads_compound (λ _ _ h. inr (inr (inr (inr (inr (inr h)))))) (λ is. reads_bind
      (reads_word (kind.Keyword k.With)) (λ line. reads_bind (reads_within is) (λ subject. reads_body is
      (λ body. reads_bind (reads_word (kind.Keyword k.End)) (λ _. reads_bind (reads_word (kind.Keyword k.With))
      (λ _. reads_pure _))))))

  -- ---- blocks

  reads_other : Reads (spec.other looser depth bp) statement_rule
  reads_other = reads_both spec.sees_const (reads_wider (λ _ _ h. inl h) (reads_const looser depth))
      (reads_both (reader.sees (kind.Keyword k.Select)) reads_select
      (reads_both (reader.sees (kind.Keyword k.For)) reads_for
      (reads_both (reader.sees (kind.Keyword k.Do)) reads_do_loop
      (reads_both (reader.sees (kind.Keyword k.While)) reads_while
      (reads_both (reader.sees (kind.Keyword k.With)) reads_with_block
      (reads_wider (λ _ _ h. inr (inr h)) (reads_simple looser depth)))))))

  abbrev ended : Rule Statement → Rule Statement
  ended r = rule.◌>>=◌ r (λ found. rule.◌>>◌ grammar.«end» (rule.pure found))

  reads_ended : {p : Reader Statement} {r : Rule Statement} → Reads p r
      → Reads (reader.◌>>=◌ p (λ found. reader.◌>>◌ lines.«end» (reader.pure found))) (ended r)
  reads_ended reads = reads_bind reads (λ found. reads_bind reads_end (λ _. reads_pure found))

  abbrev line_if_rest : ℕ → Expression → Rule (Statement × Bool)
  line_if_rest line condition = rule.◌>>=◌ br.line (else_rule looser depth bp br inner line condition)

  abbrev if_from_rule : ℕ → Expression → Rule Statement
  if_from_rule line condition = rule.◌or◌ (ended (block_if_rest line condition))
      (rule.◌>>=◌ (line_if_rest line condition) (λ found. rule.◌>>◌ grammar.line_end (rule.pure found.0)))

  reads_if_from : IsTrue (opens depth) → (line : ℕ) (condition : Expression)
      → Reads (spec.if_from looser depth bp line condition) (if_from_rule line condition)
  reads_if_from is line condition = reads_choice lines.breaks (reads_ended (reads_block_if_from is line condition))
      (reads_wider (within_then bind_right (bind_wider (λ found. within_then bind_right (within_then (bind_wider
      (λ colon. pure_out)) colon_before))))
      (reads_bind (reads_line_if_from looser depth bp br inner is line condition) (λ found. reads_bind reads_line_end
      (λ _. reads_pure found.0))))

  if_spells : Within (rule.◌>>=◌ (words.keyword k.If) (λ line. rule.◌>>=◌ (grammar.inside looser depth br)
      (λ condition. rule.◌>>◌ (words.keyword k.Then) (if_from_rule line condition)))) (grammar.sentence looser depth br)
  unfolding block_if_rest
  if_spells = within_then (bind_wider (λ line. within_then (bind_wider (λ condition. bind_or)) bind_or))
      (within_then bind_or
      (or_wider
      (within_then (within_then (bind_wider (λ line. within_then (bind_wider (λ condition. bind_left)) bind_left))
      bind_left)
      (first_wider (λ _ _ h. inr (inl (inl h)))))
      (within_then (bind_wider (λ line. within_then (bind_wider (λ condition. bind_left)) bind_left)) bind_left)))

  pub lives_sentence : Lives (grammar.sentence looser depth br)
  lives_sentence = let l = (reads_ended reads_other).lives in record {
    tokens = l.tokens;
    thing = l.thing;
    spells = inl l.spells;
  }

  reads_if_sentence : Reads (spec.if_sentence looser depth bp) (grammar.sentence looser depth br)
  reads_if_sentence = reads_gate (opens depth) lives_sentence (λ front x h. if_spells front x h.1)
      (λ is. reads_bind (reads_word (kind.Keyword k.If)) (λ line. reads_bind (reads_within is)
      (λ condition. reads_bind (reads_word (kind.Keyword k.Then)) (λ _. reads_if_from is line condition))))

  pub reads_sentence : Reads (spec.sentence looser depth bp) (grammar.sentence looser depth br)
  reads_sentence = reads_both (reader.sees (kind.Keyword k.If)) reads_if_sentence
      (reads_wider (λ _ _ h. inl h) (reads_ended reads_other))

  full_const : NoEmpty (simple.const looser depth)
  full_const = full_bind _ _ (full_or _ _ (full_bind _ _ (full_word (kind.Keyword k.Public)))
      (full_or _ _ (full_bind _ _ (full_word (kind.Keyword k.Private))) (full_bind _ _ (full_word
      (kind.Keyword k.Const)))))

  full_compound : NoEmpty (grammar.compound looser depth br)
  full_compound = full_or _ _ (full_bind _ _ (full_word (kind.Keyword k.If)))
      (full_or _ _ (full_bind _ _ (full_word (kind.Keyword k.Select)))
      (full_or _ _ (full_bind _ _ (full_word (kind.Keyword k.For)))
      (full_or _ _ (full_bind _ _ (full_word (kind.Keyword k.For)))
      (full_or _ _ (full_bind _ _ (full_word (kind.Keyword k.Do)))
      (full_or _ _ (full_bind _ _ (full_word (kind.Keyword k.While)))
      (full_bind _ _ (full_word (kind.Keyword k.With))))))))

  pub full_sentence : NoEmpty (grammar.sentence looser depth br)
  full_sentence = full_or _ _ (full_bind _ _ (full_or _ _ full_const (full_or _ _ full_compound
      (full_simple looser depth))))
      (full_bind _ _ (full_bind _ _ (full_word (kind.Keyword k.If))))

  pub reads_block : Reads (spec.block looser depth bp) (grammar.block looser depth br)
  reads_block = reads_many spec.begins_statement reads_sentence full_sentence refl

-- ---- at a depth

no_inner : InnerBlocks zero spec.no_blocks grammar.no_blocks
no_inner = record { block = λ is. absurd cc; line = λ is. absurd cc }

-- where this many more constructs may open
pub blocks_read : (looser : Looser) (depth : ℕ) → InnerBlocks (suc depth) (spec.blocks looser depth)
    (grammar.blocks looser depth)
blocks_read looser zero = record {
  block = λ _. reads_block looser zero _ _ no_inner;
  line = λ _. reads_line looser zero _ _ no_inner;
}
blocks_read looser (suc depth) = record {
  block = λ _. reads_block looser (suc depth) _ _ (blocks_read looser depth);
  line = λ _. reads_line looser (suc depth) _ _ (blocks_read looser depth);
}

-- inside a construct that opens here
pub inner_blocks : (looser : Looser) (depth : ℕ) → InnerBlocks depth (spec.blocks_inside looser depth)
    (grammar.blocks_inside looser depth)
inner_blocks looser zero = no_inner
inner_blocks looser (suc depth) = blocks_read looser depth
