-- What is printed of a statement that holds no other is spelled so.
use Rattle.std.proofs.Common.{ℕ, pos, true, false, List, [], ◌∷◌, ◌++◌, map, refl, sym, ap, ◌∙◌}
use Rattle.std.proofs.Common.{append-nil, append_assoc, codes}
use Rattle.vb_value.specs.declared.token.Keyword.TheVariants as k
use Rattle.vb_value.specs.declared.token.Symbol.TheVariants as s
use Rattle.vb_value.specs.declared.token.TokenKind.TheVariants as kind
use Rattle.vb_syntax.specs.declared.expression.Expression.{Expression}
use Rattle.vb_syntax.specs.grammar.Rules.{Rule, pure, ◌>>=◌, ◌>>◌, ◌or◌}
use Rattle.vb_syntax.specs.grammar.Words as words
use Rattle.vb_syntax.specs.grammar.Words.{name_of}
use Rattle.vb_syntax.specs.grammar.Declarations.{opened}
use Rattle.vb_syntax.specs.grammar.Expressions.{expressions, path_of}
use Rattle.vb_syntax.specs.grammar.SimpleStatements as statements
use Rattle.vb_syntax.specs.grammar.Units.{strict}
use Rattle.vb_print.specs.Words.{printed, keyword, symbol, quoted, listed}
use Rattle.vb_print.specs.Expressions.{expression_words, path_words}
use Rattle.vb_print.specs.Statements.{access_words, constant_words, declared_words, resized_words}
use Rattle.vb_print.specs.Statements.{preserve_words}
use Rattle.vb_print.specs.Statements.{exit_word, name_words, statement_words}
use Rattle.print_laws.proofs.StatementWords as shown
use Rattle.print_laws.proofs.Again.{Again, again, self, again_pure, again_bind, again_changed}
use Rattle.print_laws.proofs.Again.{again_last}
use Rattle.print_laws.proofs.Again.{again_or, again_opened, again_word, behind, word_shown, again_keyword}
use Rattle.print_laws.proofs.Again.{again_symbol, quoted_shown}
use Rattle.print_laws.proofs.Again.{again_listed}
use Rattle.print_laws.proofs.SimplePrinting.{again_name, again_expression, again_access, again_declared, again_constant}
use Rattle.print_laws.proofs.SimplePrinting.{again_path_at, path_shown}
use Rattle.print_laws.proofs.CallPrinting.{again_call}

pub again_page_text : Again statements.page_text (λ found. printed found.0 (kind.PageText found.1) ∷ [])
again_page_text = record {
  spelled = λ tokens x h. record { token = printed x.0 (kind.PageText x.1); alone = refl; passes = refl };
}

again_exit_kind : (line : ℕ) → Again (statements.exit_kind strict 0) (λ found. exit_word line found ∷ [])
again_exit_kind line = again (again_or (again_keyword k.Do line (again_pure refl))
    (again_or (again_keyword k.For line (again_pure refl))
    (again_or (again_keyword k.Sub line (again_pure refl))
    (again_or (again_keyword k.Function line (again_pure refl))
    (behind (quoted line (codes "Property") ∷ []) line (quoted_shown (codes "property") (codes "Property") refl line)
    (again_pure refl))))))

module _ (depth : ℕ) where
  pub again_const : Again (statements.const strict depth) statement_words
  again_const = again (again_bind (again_access (words.keyword k.Const) (λ line. keyword line k.Const)
      (word_shown (kind.Keyword k.Const))) (λ first. again_last
      (again_listed first.0 (constant_words first.0) (again_constant first.0))
      (λ constants. shown.words-const first.0 first.1 constants
      ∙ sym (append_assoc (access_words first.0 first.1) _ _))))

  again_dim : Again (statements.dim strict depth) statement_words
  again_dim = again (again_bind (again_word (kind.Keyword k.Dim)) (λ line. again_last
      (again_listed line (declared_words line) (again_declared line depth))
      (λ variables. shown.words-dim line variables)))

  again_resized : (line : ℕ) → Again (statements.resized strict depth) (resized_words line)
  again_resized line = again (again_bind (again_name line) (λ name. again_last again_sizes (λ bounds. refl)))
    where
      sizes : Rule (List Expression)
      sizes = opened depth (λ within. do
        words.symbol s.Open
        found ← words.list_of (expressions within).expression
        words.symbol s.Close
        pure found)

      again_sizes : Again sizes (λ found. symbol line s.Open ∷ listed line (map (expression_words line) found)
          ++ symbol line s.Close ∷ [])
      again_sizes = again (again_opened depth (λ within. again_symbol s.Open line (again_bind
          (again_listed line (expression_words line) (again_expression line within))
          (λ found. again_symbol s.Close line (again_pure refl)))))

  again_preserve : (line : ℕ) → Again ((do words.keyword k.Preserve; pure true) or pure false) (preserve_words line)
  again_preserve line = again (again_or (again_keyword k.Preserve line (again_pure refl)) (again_pure refl))

  again_redim : Again (statements.redim strict depth) statement_words
  again_redim = again (again_bind (again_word (kind.Keyword k.ReDim)) (λ line. again_bind (again_preserve line)
      (λ preserve. again_last (again_listed line (resized_words line) (again_resized line))
      (λ arrays. shown.words-redim line preserve arrays))))

  again_set : Again (statements.set strict depth) statement_words
  again_set = again (again_bind (again_word (kind.Keyword k.Set)) (λ line.
      again_changed (λ found. path_words line (path_of found.1 found.2)) (λ found. (line, found.1, found.2))
      (path_shown strict depth line) (λ target tokens y h. h) (λ target. again_symbol s.Equal line
      (again_last (again_expression line depth)
      (λ value. shown.words-set line (path_of target.1 target.2) value)))))

  again_assignment : Again (statements.assignment strict depth) statement_words
  again_assignment = again (again_bind (again_path_at strict depth) (λ target. again_symbol s.Equal target.0
      (again_last (again_expression target.0 depth)
      (λ value. shown.words-assign target.0 (path_of target.1 target.2) value))))

  again_call_path : Again (statements.call_path strict depth) statement_words
  again_call_path = again (again_bind (again_word (kind.Keyword k.Call)) (λ line.
      again_changed (λ found. path_words line (path_of found.1 found.2)) (λ found. (line, found.1, found.2))
      (path_shown strict depth line) (λ callee tokens y h. h)
      (λ callee. again_pure (shown.words-call_path line (path_of callee.1 callee.2)
      ∙ ap (λ t. keyword line k.Call ∷ t) (sym (append-nil _))))))

  again_exit : Again (statements.exit_statement strict depth) statement_words
  again_exit = again (again_bind (again_word (kind.Keyword k.Exit)) (λ line. again_last (again_exit_kind line)
      (λ found. shown.words-exit line found)))

  again_on_error : Again (statements.on_error strict depth) statement_words
  again_on_error = again (again_bind (again_word (kind.Keyword k.On)) (λ line.
      behind (quoted line (codes "Error") ∷ []) line (quoted_shown (codes "error") (codes "Error") refl line) (again_or
      (again_keyword k.Resume line (again_keyword k.Next line (again_pure (shown.words-resume_next line))))
      (again_keyword k.GoTo line (behind (printed line (kind.Integer (pos 0)) ∷ []) tt (record {
        token = printed line (kind.Integer (pos 0));
        alone = refl;
        passes = refl;
      }) (again_pure (shown.words-go_to_zero line)))))))

  again_erase : Again (statements.erase strict depth) statement_words
  again_erase = again (again_bind (again_word (kind.Keyword k.Erase)) (λ line. again_last
      (again_listed line (name_words line) (again_name line)) (λ names. shown.words-erase line names)))

  again_page : Again (statements.page strict depth) statement_words
  again_page = again (again_or
      (again_last again_page_text (λ found. shown.words-page_text found.0 found.1))
      (again_bind (again_word kind.PageWrite) (λ line. again_last (again_expression line depth)
      (λ value. shown.words-page_write line value))))

  pub again_simple : Again (statements.simple strict depth) statement_words
  again_simple = again (again_or (self again_dim) (again_or (self again_redim) (again_or (self again_set)
      (again_or (self again_assignment) (again_or (self (again_call depth)) (again_or (self again_call_path)
      (again_or (self again_exit) (again_or (self again_on_error) (again_or (self again_erase)
      (self again_page))))))))))
