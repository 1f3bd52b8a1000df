-- What is printed of statements that hold others, of lines and of blocks is spelled so.
use Rattle.std.proofs.Common.{◌≡◌, ℕ, zero, suc, Bool, true, false, List, [], ◌∷◌, ◌++◌, map, Option, Some, None}
use Rattle.std.proofs.Common.{inl, inr, refl, sym, ap, ◌∙◌, append-nil, append_assoc, subst, codes}
use Rattle.std.proofs.lemmas.List.{map-append}
use Rattle.std.specs.List.{flat_map}
use Rattle.std.specs.Option.{option_map}
use Rattle.vb_value.specs.declared.token.Keyword.TheVariants as k
use Rattle.vb_value.specs.declared.token.Symbol.TheVariants as s
use Rattle.vb_value.specs.declared.token.Token.{Token}
use Rattle.vb_value.specs.declared.token.TokenKind.TheVariants as kind
use Rattle.vb_syntax.specs.declared.expression.Expression.{Expression}
use Rattle.vb_syntax.specs.declared.statement.Condition.{Condition}
use Rattle.vb_syntax.specs.declared.statement.Repetition.{Repetition}
use Rattle.vb_syntax.specs.declared.statement.Repetition.TheVariants as repetition
use Rattle.vb_syntax.specs.grammar.Rules.{Tokens, Rule, pure, ◌>>=◌, ◌>>◌, ◌or◌}
use Rattle.vb_syntax.specs.grammar.Expressions.{expressions}
use Rattle.vb_syntax.specs.grammar.SimpleStatements.{quoted}
use Rattle.vb_syntax.specs.grammar.Statements as statements
use Rattle.vb_syntax.specs.grammar.Statements.{Blocks, Line, «end», no_blocks, blocks, blocks_here, blocks_inside}
use Rattle.vb_syntax.specs.grammar.Statements.{passed_texts}
use Rattle.vb_syntax.specs.grammar.Units.{strict}
use Rattle.vb_print.specs.Words.{printed, keyword, symbol, name, joined, listed}
use Rattle.vb_print.specs.Words as words_of
use Rattle.vb_print.specs.Expressions.{expression_words}
use Rattle.vb_print.specs.Statements.{loop_keyword, condition_words, before_words, after_words, step_words}
use Rattle.vb_print.specs.Statements.{line_end, line_words, else_words, case_else_words}
use Rattle.vb_print.specs.Statements.{statement_words, else_if_words, case_words, body_words}
use Rattle.print_laws.proofs.StatementWords as shown
use Rattle.print_laws.proofs.Again.{Again, again, self, again_pure, again_bind, again_changed}
use Rattle.print_laws.proofs.Again.{again_given, again_last, again_or, again_where, again_none, again_opened, again_many}
use Rattle.print_laws.proofs.Again.{again_word, behind, word_shown, again_keyword, again_symbol, quoted_shown}
use Rattle.print_laws.proofs.Again.{again_listed}
use Rattle.print_laws.proofs.SimplePrinting.{again_name, again_expression}
use Rattle.print_laws.proofs.SimpleStatementPrinting.{again_const, again_simple}

-- ---- ends

-- no text is passed over
pub no_texts : (any : Bool) → passed_texts any [] tt
no_texts any = record {
  front = [];
  back = [];
  thing = [];
  split = refl;
  first_spells = refl;
  next_spells = (refl, refl);
}

-- the end of a line is one
pub end_shown : (line : ℕ) → «end» (line_end line ∷ []) tt
end_shown line = record {
  front = line_end line ∷ [];
  back = [];
  thing = tt;
  split = refl;
  first_spells = record { token = line_end line; alone = refl; passes = refl };
  next_spells = record {
    front = [];
    back = [];
    thing = [];
    split = refl;
    first_spells = refl;
    next_spells = (refl, refl);
  };
}

line_end_shown : (line : ℕ) → statements.line_end (line_end line ∷ []) tt
line_end_shown line = record {
  front = [];
  back = line_end line ∷ [];
  thing = [];
  split = refl;
  first_spells = refl;
  next_spells = record {
    front = line_end line ∷ [];
    back = [];
    thing = line;
    split = refl;
    first_spells = word_shown kind.LineEnd line;
    next_spells = record {
      front = [];
      back = [];
      thing = [];
      split = refl;
      first_spells = refl;
      next_spells = (refl, refl);
    };
  };
}

-- ---- statements with a word between, the last apart

joined_behind : (word : Token) (others : List Tokens) (last : Tokens)
    → flat_map (λ (x : Tokens). word ∷ x) (others ++ last ∷ [])
    ≡ word ∷ (flat_map (λ (x : Tokens). x ++ word ∷ []) others ++ last)
joined_behind word [] last = ap (λ t. word ∷ t) (append-nil last)
joined_behind word (x ∷ others) last = ap (λ t. word ∷ (x ++ t)) (joined_behind word others last)
    ∙ ap (λ t. word ∷ t) (sym (append_assoc x (word ∷ []) _)
    ∙ sym (append_assoc (x ++ word ∷ []) (flat_map (λ (x : Tokens). x ++ word ∷ []) others) last))

joined-last : (word : Token) (others : List Tokens) (last : Tokens)
    → joined word (others ++ last ∷ []) ≡ flat_map (λ (x : Tokens). x ++ word ∷ []) others ++ last
joined-last word [] last = append-nil last
joined-last word (x ∷ others) last = ap (λ t. x ++ t) (joined_behind word others last)
    ∙ sym (append_assoc x (word ∷ []) _)
    ∙ sym (append_assoc (x ++ word ∷ []) (flat_map (λ (x : Tokens). x ++ word ∷ []) others) last)

-- ---- what stands inside

-- What is printed of blocks and lines is spelled so.
pub record BlocksAgain (inner : Blocks) : Type 0 where
  pub block : (line : ℕ) → Again inner.block (body_words line)
  pub line : (line : ℕ) → Again inner.line (λ found. line_words line (map statement_words found.statements))

module _ (depth : ℕ) (inner : Blocks) (within : BlocksAgain inner) where
  again_inside : (line : ℕ) → Again (statements.inside strict depth inner) (expression_words line)
  again_inside line = again (again_opened depth (λ below. self (again_expression line below)))

  -- ---- one-line Ifs

  again_line_if : Again (statements.line_if strict depth inner) (λ found. statement_words found.0)
  again_line_if = again (again_bind (again_word (kind.Keyword k.If)) (λ line. again_bind (again_inside line)
      (λ condition. again_keyword k.Then line (again_bind (within.line line) (λ body. again_or
      (again_pure (shown.words-line_if line condition body.statements None ∙ simp append_assoc refl))
      (again_where (again_keyword k.Else line (again_last (within.line line)
      (λ other. shown.words-line_if line condition body.statements (Some other.statements)
      ∙ simp append_assoc refl)))))))))

  again_line : (line : ℕ) → Again (statements.line strict depth inner) (λ found. line_words line (map statement_words
      found.statements))
  again_line line = again (again_bind
      (again_many statement_words (λ x. x ++ symbol line s.Colon ∷ []) (again (again_bind (again_simple depth)
      (λ found. again_symbol s.Colon line (again_pure refl)))))
      (λ first. again_last (again (again_or (again_last (again_simple depth) (λ found. refl)) (self again_line_if)))
      (λ last. ap (line_words line) (map-append statement_words first (last.0 ∷ []))
      ∙ joined-last (symbol line s.Colon) (map statement_words first) (statement_words last.0))))

  -- ---- If

  again_else : (line : ℕ) → Again (statements.else_part strict depth inner) (λ found. else_words line (option_map (map
      statement_words) found))
  again_else line = again (again_or
      (again_keyword k.Else line (behind (line_end line ∷ []) tt (end_shown line) (again_last (within.block line)
      (λ body. refl))))
      (again_pure refl))

  again_else_if : Again (statements.else_if strict depth inner) else_if_words
  again_else_if = again (again_bind (again_word (kind.Keyword k.ElseIf)) (λ line. again_bind (again_inside line)
      (λ condition. again_keyword k.Then line (behind (line_end line ∷ []) tt (end_shown line)
      (again_last (within.block line) (λ body. shown.words-else_if line condition body))))))

  again_block_if : Again (statements.block_if strict depth inner) statement_words
  again_block_if = again (again_bind (again_word (kind.Keyword k.If)) (λ line. again_bind (again_inside line)
      (λ condition. again_keyword k.Then line (behind (line_end line ∷ []) tt (end_shown line)
      (again_bind (within.block line) (λ body. again_bind (again_many else_if_words (λ x. x) again_else_if)
      (λ others. again_bind (again_else line) (λ otherwise. again_keyword k.End line (again_keyword k.If line
      (again_pure (shown.words-if line condition body others otherwise ∙ simp append_assoc refl)))))))))))

  -- ---- Select

  again_case : Again (statements.case strict depth inner) case_words
  again_case = again (again_bind (again_word (kind.Keyword k.Case)) (λ line. again_bind
      (again_listed line (expression_words line) (again_inside line)) (λ values.
      behind (line_end line ∷ []) tt (end_shown line) (again_last (within.block line)
      (λ body. shown.words-case line values body)))))

  again_case_else : (line : ℕ) → Again (statements.case_else strict depth inner) (λ found. case_else_words line
      (option_map (map statement_words) found))
  again_case_else line = again (again_or
      (again_keyword k.Case line (again_keyword k.Else line (behind (line_end line ∷ []) tt (end_shown line)
      (again_last (within.block line) (λ body. refl)))))
      (again_pure refl))

  again_select : Again (statements.select strict depth inner) statement_words
  again_select = again (again_bind (again_word (kind.Keyword k.Select)) (λ line. again_keyword k.Case line
      (again_bind (again_inside line) (λ subject. behind (line_end line ∷ []) tt (end_shown line)
      (behind [] tt (no_texts false) (again_bind (again_many case_words (λ x. x) again_case)
      (λ cases. again_bind (again_case_else line) (λ otherwise. again_keyword k.End line (again_keyword k.Select line
      (again_pure (shown.words-select line subject cases otherwise ∙ simp append_assoc refl)))))))))))

  -- ---- loops

  -- [ "Step" expr ]
  abbrev by_part : Rule (Option Expression)
  by_part = (do quoted (codes "step"); found ← statements.inside strict depth inner; pure (Some found)) or pure None

  again_by : (line : ℕ) → Again by_part (step_words line)
  again_by line = again (again_or
      (behind (words_of.quoted line (codes "Step") ∷ []) line (quoted_shown (codes "step") (codes "Step") refl line)
      (again_last (again_inside line) (λ found. refl)))
      (again_pure refl))

  again_for : Again (statements.for strict depth inner) statement_words
  again_for = again (again_bind (again_word (kind.Keyword k.For)) (λ line. again_bind (again_name line)
      (λ variable. again_symbol s.Equal line (again_bind (again_inside line) (λ from. again_keyword k.To line
      (again_bind (again_inside line) (λ to. again_bind (again_by line) (λ by.
      behind (line_end line ∷ []) tt (end_shown line) (again_bind (within.block line) (λ body. again_keyword k.Next line
      (again_pure (shown.words-for line variable from to by body ∙ simp append_assoc refl))))))))))))

  again_for_each : Again (statements.for_each strict depth inner) statement_words
  again_for_each = again (again_bind (again_word (kind.Keyword k.For)) (λ line. again_keyword k.Each line
      (again_bind (again_name line) (λ variable. again_keyword k.In line (again_bind (again_inside line) (λ group.
      behind (line_end line ∷ []) tt (end_shown line) (again_bind (within.block line) (λ body. again_keyword k.Next line
      (again_pure (shown.words-for_each line variable group body ∙ simp append_assoc refl))))))))))

  loop_word_shown : (line : ℕ) (is_until : Bool)
      → statements.loop_word strict depth inner (keyword line (loop_keyword is_until) ∷ []) (line, is_until)
  loop_word_shown line true = inr (record {
    front = keyword line k.Until ∷ [];
    back = [];
    thing = line;
    split = refl;
    first_spells = word_shown (kind.Keyword k.Until) line;
    next_spells = (refl, refl);
  })
  loop_word_shown line false = inl (record {
    front = keyword line k.While ∷ [];
    back = [];
    thing = line;
    split = refl;
    first_spells = word_shown (kind.Keyword k.While) line;
    next_spells = (refl, refl);
  })

  -- a condition in a line spells it there
  condition_shown : (expression : Rule Expression) → ((line : ℕ) → Again expression (expression_words line))
      → (line : ℕ) (tokens : Tokens) (found : ℕ × Condition) → statements.condition strict depth inner expression tokens
      found → statements.condition strict depth inner expression (condition_words line found.1) (line, found.1)
  condition_shown expression prints line tokens found h = subst Shown (sym h.next_spells.next_spells.1) (record {
    front = keyword line (loop_keyword h.thing.1) ∷ [];
    back = expression_words line h.next_spells.thing;
    thing = (line, h.thing.1);
    split = refl;
    first_spells = loop_word_shown line h.thing.1;
    next_spells = record {
      front = expression_words line h.next_spells.thing;
      back = [];
      thing = h.next_spells.thing;
      split = sym (append-nil _);
      first_spells = (prints line).spelled h.next_spells.front h.next_spells.thing h.next_spells.first_spells;
      next_spells = (refl, refl);
    };
  })
    where
      Shown : ℕ × Condition → Type 0
      Shown x = statements.condition strict depth inner expression (condition_words line x.1) (line, x.1)

  -- [ cond ] behind "Loop"
  abbrev behind_loop : Rule Repetition
  behind_loop = pure repetition.Endless or (do
    found ← statements.condition strict depth inner (expressions depth).expression
    pure (repetition.After found.0 found.1))

  again_behind_loop : Again behind_loop after_words
  again_behind_loop = again (again_or (again_pure refl) (again_last again_condition (λ found. refl)))
    where
      again_condition : Again (statements.condition strict depth inner (expressions depth).expression) (λ found.
          condition_words found.0 found.1)
      again_condition = record {
        spelled = λ tokens x h. condition_shown (expressions depth).expression (λ line. again_expression line depth)
            x.0 tokens x h;
      }

  not_before : (line : ℕ) (tokens : Tokens) (found : Repetition) → behind_loop tokens found
      → before_words line found ≡ []
  not_before line tokens found (inl h) = ap (before_words line) h.1
  not_before line tokens found (inr h) = ap (before_words line) h.next_spells.1

  again_do : Again (statements.do_loop strict depth inner) statement_words
  again_do = again (again_bind (again_word (kind.Keyword k.Do)) (λ line. again_or
      (again_changed (λ found. condition_words line found.1) (λ found. (line, found.1))
      (condition_shown (statements.inside strict depth inner) again_inside line) (λ found tokens y h. h)
      (λ found. behind (line_end line ∷ []) tt (end_shown line) (again_bind (within.block line) (λ body.
      again_keyword k.Loop line (again_pure (shown.words-do line (repetition.Before found.1) body
      ∙ simp append_assoc refl))))))
      (behind (line_end line ∷ []) tt (end_shown line) (again_bind (within.block line) (λ body.
      again_keyword k.Loop line (again_given (λ found. before_words line found ≡ []) again_behind_loop (not_before line)
      (λ repeated none. again_pure (shown.words-do line repeated body ∙ simp (append-nil, none) refl))))))))

  again_while : Again (statements.while strict depth inner) statement_words
  again_while = again (again_bind (again_word (kind.Keyword k.While)) (λ line. again_bind (again_inside line)
      (λ condition. behind (line_end line ∷ []) tt (end_shown line) (again_bind (within.block line) (λ body.
      again_keyword k.Wend line (again_pure (shown.words-while line condition body ∙ simp append_assoc refl)))))))

  again_with : Again (statements.with_block strict depth inner) statement_words
  again_with = again (again_bind (again_word (kind.Keyword k.With)) (λ line. again_bind (again_inside line)
      (λ subject. behind (line_end line ∷ []) tt (end_shown line) (again_bind (within.block line) (λ body.
      again_keyword k.End line (again_keyword k.With line (again_pure (shown.words-with line subject body
      ∙ simp append_assoc refl))))))))

  -- ---- blocks

  again_compound : Again (statements.compound strict depth inner) statement_words
  again_compound = again (again_or (self again_block_if) (again_or (self again_select) (again_or (self again_for)
      (again_or (self again_for_each) (again_or (self again_do) (again_or (self again_while) (self again_with)))))))

  pub again_sentence : (line : ℕ) → Again (statements.sentence strict depth inner) (λ found. statement_words found
      ++ line_end line ∷ [])
  again_sentence line = again (again_or
      (again_bind (again (again_or (self (again_const depth)) (again_or (self again_compound) (self (again_simple
      depth))))) (λ found. behind (line_end line ∷ []) tt (end_shown line) (again_pure refl)))
      (again_bind again_line_if (λ found. behind (line_end line ∷ []) tt (line_end_shown line) (again_pure refl))))

  again_here : BlocksAgain (blocks_here strict depth inner)
  again_here = record {
    block = λ line. again_many statement_words (λ x. x ++ line_end line ∷ []) (again_sentence line);
    line = again_line;
  }

again_nothing : BlocksAgain no_blocks
again_nothing = record { block = λ line. again_none; line = λ line. again_none }

pub blocks_again : (depth : ℕ) → BlocksAgain (blocks strict depth)
blocks_again zero = again_here zero no_blocks again_nothing
blocks_again (suc depth) = again_here (suc depth) (blocks strict depth) (blocks_again depth)

pub blocks_inside_again : (depth : ℕ) → BlocksAgain (blocks_inside strict depth)
blocks_inside_again zero = again_nothing
blocks_inside_again (suc depth) = blocks_again depth
