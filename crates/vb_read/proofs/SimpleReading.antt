-- The readers of statements that hold no other read the grammar's.
use Rattle.std.proofs.Common.{◌≡◌, ℕ, ℤ, pos, zero, suc, ◌<◌, ◌+◌, inl, inr, true, false, List, [], length}
use Rattle.std.proofs.Common.{length-append, Option, Some, None, refl, ap, ◌∙◌, codes, arith}
use Rattle.vb_value.specs.declared.token.Keyword.TheVariants as k
use Rattle.vb_value.specs.declared.token.Symbol.TheVariants as s
use Rattle.vb_value.specs.declared.token.TokenKind.TheVariants as kind
use Rattle.vb_syntax.specs.declared.declaration.Access.{Access}
use Rattle.vb_syntax.specs.declared.expression.Expression.{Expression}
use Rattle.vb_syntax.specs.declared.statement.ExitKind.TheVariants as exit
use Rattle.vb_syntax.specs.declared.statement.Resized.{Resized}
use Rattle.vb_syntax.specs.declared.statement.Statement.{Statement}
use Rattle.vb_syntax.specs.declared.statement.StatementKind.TheVariants as st
use Rattle.vb_syntax.specs.grammar.Rules.{Tokens, Rule}
use Rattle.vb_syntax.specs.grammar.Rules as rule
use Rattle.vb_syntax.specs.grammar.Words as words
use Rattle.vb_syntax.specs.grammar.Declarations as declarations
use Rattle.vb_syntax.specs.grammar.Declarations.{number_of}
use Rattle.vb_syntax.specs.grammar.SimpleStatements as grammar
use Rattle.vb_syntax.specs.grammar.SimpleStatements.{Looser, statement, text_at, quoted_at}
use Rattle.vb_syntax.specs.grammar.Units.{strict}
use Rattle.vb_read.specs.Reader.{Reader}
use Rattle.vb_read.specs.Reader as reader
use Rattle.vb_read.specs.ReadDeclarations as read_declarations
use Rattle.vb_read.specs.ReadDeclarations.{begun}
use Rattle.vb_read.specs.ReadSimpleStatements as spec
use Rattle.vb_read.proofs.Reading.{Reads, Lives, NoEmpty, reads_pure, reads_refuse, reads_wider, reads_bind, reads_one}
use Rattle.vb_read.proofs.Reading.{reads_choice, reads_both, reads_word, reads_name, full_one, full_bind, full_word}
use Rattle.vb_read.proofs.Reading.{token_of}
use Rattle.vb_read.proofs.Binding.{Within, bind_right}
use Rattle.vb_read.proofs.ExpressionReading.{expressions_read, reads_list_of}
use Rattle.vb_read.proofs.DeclarationReading.{reads_access_word, with_access, without_access, reads_constant}
use Rattle.vb_read.proofs.DeclarationReading.{reads_declared}
use Rattle.vb_read.proofs.PathReading.{reads_path_at, full_path_at}
use Rattle.vb_read.proofs.CallReading.{reads_here, reads_value_behind, reads_from_path}

pub full_or : {A : Type 0} (r s : Rule A) → NoEmpty r → NoEmpty s → NoEmpty (rule.◌or◌ r s)
full_or r s one other front x (inl h) = one front x h
full_or r s one other front x (inr h) = other front x h

-- ---- words

pub reads_property_word : Reads (spec.quoted (codes "property")) (grammar.quoted (codes "property"))
reads_property_word = reads_one (quoted_at (codes "property")) (token_of (kind.Name (codes "property") false)) 1 refl

pub reads_error_word : Reads (spec.quoted (codes "error")) (grammar.quoted (codes "error"))
reads_error_word = reads_one (quoted_at (codes "error")) (token_of (kind.Name (codes "error") false)) 1 refl

is_zero : (found : Option ℤ) → spec.zero_by found ≡ Some tt → found ≡ Some (pos 0)
is_zero (Some (pos zero)) e = refl
is_zero _ e = absurd cc

reads_zero : Reads (reader.one spec.zero_of) grammar.zero_number
reads_zero = reads_wider (λ front x h. record {
  token = h.token;
  alone = h.alone;
  passes = is_zero (number_of h.token) h.passes;
}) (reads_one spec.zero_of (token_of (kind.Integer (pos 0))) tt refl)

-- ---- constants

-- what stands behind "Const"
abbrev pub const_behind : ℕ × Option Access → Rule Statement
const_behind first = rule.◌>>=◌ (words.list_of declarations.constant)
    (λ constants. rule.pure (statement first.0 (st.Const first.1 constants)))

pub reads_const_from : (before : Option (ℕ × Access)) → Reads (spec.const_from before)
    (rule.◌>>=◌ (words.keyword k.Const) (λ line. const_behind (begun before line)))
reads_const_from before = reads_bind (reads_word (kind.Keyword k.Const))
    (λ line. reads_bind (reads_list_of reads_constant) (λ constants. reads_pure _))

-- ---- statements

pub reads_exit_statement : (looser : Looser) (depth : ℕ) → Reads spec.exit_statement
    (grammar.exit_statement looser depth)
reads_exit_statement looser depth = reads_bind (reads_word (kind.Keyword k.Exit)) (λ line. reads_bind
    (reads_choice (reader.sees (kind.Keyword k.Do)) (reads_bind (reads_word (kind.Keyword k.Do))
    (λ _. reads_pure exit.Do))
    (reads_choice (reader.sees (kind.Keyword k.For)) (reads_bind (reads_word (kind.Keyword k.For))
    (λ _. reads_pure exit.For))
    (reads_choice (reader.sees (kind.Keyword k.Sub)) (reads_bind (reads_word (kind.Keyword k.Sub))
    (λ _. reads_pure exit.Sub))
    (reads_choice (reader.sees (kind.Keyword k.Function)) (reads_bind (reads_word (kind.Keyword k.Function))
    (λ _. reads_pure exit.Function))
    (reads_bind reads_property_word (λ _. reads_pure exit.Property))))))
    (λ found. reads_pure (statement line (st.Exit found))))

module _ (looser : Looser) (depth : ℕ) where
  pub reads_const : Reads spec.const (grammar.const looser depth)
  reads_const = reads_both read_declarations.sees_access
      (reads_wider (with_access {next = const_behind})
      (reads_bind reads_access_word (λ before. reads_const_from (Some before))))
      (reads_wider (without_access {next = const_behind}) (reads_const_from None))

  reads_dim : Reads (spec.dim depth) (grammar.dim looser depth)
  reads_dim = reads_bind (reads_word (kind.Keyword k.Dim)) (λ line. reads_bind (reads_list_of (reads_declared depth))
      (λ variables. reads_pure _))

  reads_set : Reads (spec.set depth) (grammar.set looser depth)
  reads_set = reads_bind (reads_word (kind.Keyword k.Set)) (λ line. reads_bind (reads_path_at looser depth)
      (λ target. reads_wider bind_right (reads_bind (reads_value_behind looser depth) (λ value. reads_pure _))))

  reads_call_path : Reads (spec.call_path depth) (grammar.call_path looser depth)
  reads_call_path = reads_bind (reads_word (kind.Keyword k.Call)) (λ line. reads_bind (reads_path_at looser depth)
      (λ callee. reads_pure _))

  reads_on_error : Reads spec.on_error (grammar.on_error looser depth)
  reads_on_error = reads_bind (reads_word (kind.Keyword k.On)) (λ line. reads_bind reads_error_word (λ _. reads_choice
      (reader.sees (kind.Keyword k.Resume))
      (reads_bind (reads_word (kind.Keyword k.Resume)) (λ _. reads_bind (reads_word (kind.Keyword k.Next))
      (λ _. reads_pure _)))
      (reads_bind (reads_word (kind.Keyword k.GoTo)) (λ _. reads_bind reads_zero (λ _. reads_pure _)))))

  reads_erase : Reads spec.erase (grammar.erase looser depth)
  reads_erase = reads_bind (reads_word (kind.Keyword k.Erase)) (λ line. reads_bind (reads_list_of reads_name)
      (λ names. reads_pure _))

  reads_page_text : Reads spec.page_text (rule.◌>>=◌ grammar.page_text
      (λ found. rule.pure (statement found.0 (st.PageText found.1))))
  reads_page_text = reads_bind (reads_one text_at (token_of (kind.PageText [])) (1, []) refl) (λ found. reads_pure _)

  reads_page_write : Reads (spec.page_write depth) (rule.◌>>=◌ (words.word kind.PageWrite) (λ line.
      rule.◌>>=◌ (grammar.expression looser depth) (λ value. rule.pure (statement line (st.PageWrite value)))))
  reads_page_write = reads_bind (reads_word kind.PageWrite) (λ line. reads_bind (reads_here looser depth)
      (λ value. reads_pure _))

-- an array of a ReDim, where a parenthesis may open
reads_resized : (looser : Looser) (within : ℕ) → Reads (spec.resized (suc within)) (grammar.resized looser (suc within))
reads_resized looser within = reads_bind reads_name (λ name. reads_bind (reads_bind (reads_word (kind.Symbol s.Open))
    (λ _. reads_bind (reads_list_of ((expressions_read within).expression refl)) (λ found. reads_bind
    (reads_word (kind.Symbol s.Close)) (λ _. reads_pure found)))) (λ bounds. reads_pure _))

-- the same, also where none may
pub reads_resized_at : (depth : ℕ) → (r : Rule Resized) × Reads (spec.resized depth) r
reads_resized_at zero = (
  _,
  reads_bind reads_name (λ name. reads_bind (reads_refuse {A = List Expression}
      (rule.pure []) (reads_pure []).lives) (λ bounds. reads_pure (record { name = name; bounds = bounds }))),
)
reads_resized_at (suc within) = (_, reads_resized strict within)

reads_redim : (looser : Looser) (depth : ℕ) (whole : Rule Statement) → Lives whole
    → Within (grammar.redim looser depth) whole → Reads (spec.redim depth) whole
reads_redim looser zero whole lives wider = reads_refuse whole lives
reads_redim looser (suc within) whole lives wider = reads_wider wider (reads_bind (reads_word (kind.Keyword k.ReDim))
    (λ line. reads_bind (reads_choice (reader.sees (kind.Keyword k.Preserve)) (reads_bind (reads_word (kind.Keyword
    k.Preserve)) (λ _. reads_pure true)) (reads_pure false))
    (λ preserve. reads_bind (reads_list_of (reads_resized looser within)) (λ arrays. reads_pure _))))

module _ (looser : Looser) (depth : ℕ) where
  pub lives_simple : Lives (grammar.simple looser depth)
  lives_simple = let l = (reads_exit_statement looser depth).lives in record {
    tokens = l.tokens;
    thing = l.thing;
    spells = inr (inr (inr (inr (inr (inr (inl l.spells))))));
  }

  path_simple : Within (rule.◌or◌ (grammar.assignment looser depth) (grammar.Call looser depth))
      (grammar.simple looser depth)
  path_simple front x (inl h) = inr (inr (inr (inl h)))
  path_simple front x (inr h) = inr (inr (inr (inr (inl h))))

  pub reads_simple : Reads (spec.simple looser depth) (grammar.simple looser depth)
  reads_simple = reads_both (reader.sees (kind.Keyword k.Dim)) (reads_wider (λ _ _ h. inl h) (reads_dim looser depth))
      (reads_both (reader.sees (kind.Keyword k.ReDim)) (reads_redim looser depth _ lives_simple (λ _ _ h. inr (inl h)))
      (reads_both (reader.sees (kind.Keyword k.Set)) (reads_wider (λ _ _ h. inr (inr (inl h))) (reads_set looser depth))
      (reads_both (reader.sees (kind.Keyword k.Call)) (reads_wider (λ _ _ h. inr (inr (inr (inr (inr (inl h))))))
      (reads_call_path looser depth))
      (reads_both (reader.sees (kind.Keyword k.Exit)) (reads_wider (λ _ _ h. inr (inr (inr (inr (inr (inr (inl h)))))))
      (reads_exit_statement looser depth))
      (reads_both (reader.sees (kind.Keyword k.On)) (reads_wider (λ _ _ h. inr (inr (inr (inr (inr (inr (inr
      (inl h))))))))
      (reads_on_error looser depth))
      (reads_both (reader.sees (kind.Keyword k.Erase)) (reads_wider (λ _ _ h. inr (inr (inr (inr (inr (inr (inr (inr
      (inl
      h))))))))) (reads_erase looser depth))
      (reads_both (reader.sees (kind.PageText [])) (reads_wider (λ _ _ h. inr (inr (inr (inr (inr (inr (inr (inr (inr
      (inl
      h)))))))))) (reads_page_text looser depth))
      (reads_both (reader.sees kind.PageWrite) (reads_wider (λ _ _ h. inr (inr (inr (inr (inr (inr (inr (inr (inr (inr
      h)))))))))) (reads_page_write looser depth))
      (reads_wider path_simple (reads_from_path looser depth))))))))))

  full_call : NoEmpty (grammar.Call looser depth)
  full_call front x h =
      let some : 0 < length h.front = full_path_at looser depth h.front h.callee h.callee_spells in
      let sum : length front ≡ length h.front + length h.back = ap length h.split ∙ length-append h.front h.back in
      omega arith

  pub full_simple : NoEmpty (grammar.simple looser depth)
  full_simple = full_or _ _ (full_bind _ _ (full_word (kind.Keyword k.Dim)))
      (full_or _ _ (full_bind _ _ (full_word (kind.Keyword k.ReDim)))
      (full_or _ _ (full_bind _ _ (full_word (kind.Keyword k.Set)))
      (full_or _ _ (full_bind _ _ (full_path_at looser depth))
      (full_or _ _ full_call
      (full_or _ _ (full_bind _ _ (full_word (kind.Keyword k.Call)))
      (full_or _ _ (full_bind _ _ (full_word (kind.Keyword k.Exit)))
      (full_or _ _ (full_bind _ _ (full_word (kind.Keyword k.On)))
      (full_or _ _ (full_bind _ _ (full_word (kind.Keyword k.Erase)))
      (full_or _ _ (full_bind _ _ (full_one text_at)) (full_bind _ _ (full_word kind.PageWrite)))))))))))
