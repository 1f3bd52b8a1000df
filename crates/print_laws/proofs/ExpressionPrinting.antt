-- What is printed of an expression is spelled so: it is alike to what spelled the expression, and the grammar of
-- expressions looks at nothing else.
use Rattle.std.proofs.Common.{◌≡◌, ℕ, zero, suc, ◌==◌, Bool, true, false, List, [], ◌∷◌, ◌++◌, map, Option}
use Rattle.std.proofs.Common.{refl, sym, ap, ◌∙◌, append-nil}
use Rattle.std.specs.List.{flat_map}
use Rattle.vb_value.specs.declared.operator.Op2.{Op2}
use Rattle.vb_value.specs.declared.operator.Op2.TheVariants as op
use Rattle.vb_value.specs.declared.token.Keyword.TheVariants as k
use Rattle.vb_value.specs.declared.token.Symbol.TheVariants as s
use Rattle.vb_value.specs.declared.token.TokenKind.{TokenKind}
use Rattle.vb_value.specs.declared.token.TokenKind.TheVariants as kind
use Rattle.vb_syntax.specs.declared.expression.Expression.{Expression}
use Rattle.vb_syntax.specs.declared.expression.Expression.TheVariants as e
use Rattle.vb_syntax.specs.declared.expression.Literal.{Literal}
use Rattle.vb_syntax.specs.declared.expression.Literal.TheVariants as literal
use Rattle.vb_syntax.specs.declared.expression.Operation.{Operation}
use Rattle.vb_syntax.specs.declared.expression.PathHead.TheVariants as head
use Rattle.vb_syntax.specs.declared.expression.Step.TheVariants as behind
use Rattle.vb_syntax.specs.grammar.Rules.{Tokens, Rule, one}
use Rattle.vb_syntax.specs.grammar.Words as words
use Rattle.vb_syntax.specs.grammar.Words.{name_of, name_of_kind, literal_of, literal_of_kind}
use Rattle.vb_syntax.specs.grammar.Expressions as grammar
use Rattle.vb_syntax.specs.grammar.Expressions.{Inside, closed, expressions, operator_of, operator_at, at_level, not_level}
use Rattle.vb_syntax.specs.grammar.Expressions.{chain, operation, path_of}
use Rattle.vb_print.specs.Words.{printed as word_at, name, listed, literal_word, operator_word}
use Rattle.vb_print.specs.Expressions.{head_words, expression_words, path_words, path_step_words}
use Rattle.vb_print.specs.Expressions.{operation_words}
use Rattle.print_laws.proofs.Alike.{plain, Blind, blind_pure, blind_none, blind_one, blind_bind}
use Rattle.print_laws.proofs.Alike.{blind_or, blind_where, blind_many, blind_keyword, blind_symbol}
use Rattle.print_laws.proofs.PrintedWords.{kinds-name, kinds-literal, kinds-operator}
use Rattle.print_laws.proofs.Prints.{Prints, PrintsTail, prints, tail, prints_pure, prints_bind, prints_last}
use Rattle.print_laws.proofs.Prints.{prints_keyword}
use Rattle.print_laws.proofs.Prints.{prints_symbol, prints_or, prints_where, prints_none, prints_many, prints_listed}
use Rattle.print_laws.proofs.ExpressionWords as printed
use Rattle.vb_print.proofs.ChainWords.{words-chain}

-- ---- the grammar looks at no line and no bracket

pub blind_of_kind : {A : Type 0} (f : TokenKind → Option A) → ((found : TokenKind) → f (plain found) ≡ f found)
    → Blind (one (λ token. f token.kind))
blind_of_kind f e = blind_one _ (λ a b same. sym (e a.kind) ∙ ap f same ∙ e b.kind)

pub name-plain : (found : TokenKind) → name_of_kind (plain found) ≡ name_of_kind found
name-plain (kind.Name text bracketed) = refl
name-plain found = refl

literal-plain : (found : TokenKind) → literal_of_kind (plain found) ≡ literal_of_kind found
literal-plain (kind.Name text bracketed) = refl
literal-plain found = refl

operator-plain : (level : ℕ) (found : TokenKind) → at_level level (operator_of (plain found)) ≡ at_level level
    (operator_of found)
operator-plain level (kind.Name text bracketed) = refl
operator-plain level found = refl

pub blind_name : Blind (one name_of)
blind_name = blind_of_kind name_of_kind name-plain

pub blind_literal : Blind (one literal_of)
blind_literal = blind_of_kind literal_of_kind literal-plain

blind_operator : (level : ℕ) → Blind (one (operator_at level))
blind_operator level = blind_of_kind (λ found. at_level level (operator_of found)) (operator-plain level)

pub blind_list_of : {A : Type 0} {r : Rule A} → Blind r → Blind (words.list_of r)
blind_list_of a = blind_bind a (λ first. blind_bind (blind_many (blind_symbol s.Comma a)) (λ more. blind_pure
    (first ∷ more)))

pub record BlindInside (inside : Inside) : Type 0 where
  pub primary : Blind inside.primary
  pub negated : Blind inside.negated
  pub expression : Blind inside.expression

pub blind_head : Blind grammar.path_head
blind_head = blind_or (blind_bind blind_name (λ name. blind_pure (head.Name name)))
    (blind_or (blind_keyword k.Me (blind_pure head.Me))
    (blind_symbol s.WithPoint (blind_bind blind_name (λ name. blind_pure (head.With name)))))

module _ (opens : Bool) (inside : Inside) (within : BlindInside inside) where
  pub blind_group : Blind (grammar.group opens inside)
  blind_group = blind_where (blind_symbol s.Open (blind_bind (blind_or (blind_pure []) (blind_list_of
      within.expression)) (λ arguments. blind_symbol s.Close (blind_pure arguments))))

  pub blind_step : Blind (grammar.step opens inside)
  blind_step = blind_or
      (blind_symbol s.PathPoint (blind_bind blind_name (λ name. blind_pure (behind.Member name))))
      (blind_bind blind_group (λ arguments. blind_pure (behind.Group arguments)))

  pub blind_path : Blind (grammar.path opens inside)
  blind_path = blind_bind blind_head (λ head. blind_bind (blind_many blind_step) (λ steps. blind_pure (path_of head
      steps)))

  blind_primary : Blind (grammar.primary opens inside)
  blind_primary = blind_or (blind_bind blind_literal (λ found. blind_pure (e.Literal found)))
      (blind_or (blind_keyword k.Nothing (blind_pure e.Nothing))
      (blind_or (blind_keyword k.New (blind_bind blind_name (λ class. blind_pure (e.New class))))
      (blind_or (blind_bind blind_path (λ found. blind_pure (e.Path found)))
      (blind_or (blind_where (blind_symbol s.Open (blind_bind within.expression (λ x. blind_symbol s.Close (blind_pure
      (e.Parenthesis x))))))
      (blind_where (blind_symbol s.Minus (blind_bind within.primary (λ x. blind_pure (e.Negative x)))))))))

  blind_one_level : (negates : Bool) (level : ℕ) (tighter : Rule Expression) → Blind tighter
      → Blind (grammar.one_level opens inside negates level tighter)
  blind_one_level true level tighter a = blind_or (blind_where (blind_keyword k.Not (blind_bind within.negated
      (λ x. blind_pure (e.Not x))))) a
  blind_one_level false level tighter a = blind_bind a
      (λ first. blind_bind (blind_many (blind_bind (blind_operator level)
      (λ operator. blind_bind a (λ right. blind_pure (operation operator right))))) (λ more. blind_pure (chain first
      more)))

  blind_operators : (level : ℕ) → Blind (grammar.operators opens inside level)
  blind_operators zero = blind_primary
  blind_operators (suc level) = blind_one_level (suc level == not_level) (suc level)
      (grammar.operators opens inside level)
      (blind_operators level)

  blind_here : BlindInside (grammar.rules_here opens inside)
  blind_here = record {
    primary = blind_primary;
    negated = blind_operators not_level;
    expression = blind_operators grammar.last_level;
  }

pub blind_closed : BlindInside closed
blind_closed = record { primary = blind_none; negated = blind_none; expression = blind_none }

pub expressions_blind : (depth : ℕ) → BlindInside (expressions depth)
expressions_blind zero = blind_here false closed blind_closed
expressions_blind (suc depth) = blind_here true (expressions depth) (expressions_blind depth)

-- ---- what is printed is alike

literal_plain : (found : Literal) → plain (literal_word found) ≡ literal_word found
literal_plain (literal.Boolean truth) = refl
literal_plain found = refl

operator_plain : (found : Op2) → plain (operator_word found) ≡ operator_word found
operator_plain op.Add = refl
operator_plain found = refl

module _ (line : ℕ) where
  pub prints_name : Prints (one name_of) (λ text. name line text ∷ [])
  prints_name = record { same = λ tokens text h. sym (kinds-name tokens text h) }

  pub prints_head : Prints grammar.path_head (head_words line)
  prints_head = prints (prints_or (prints_last prints_name (λ text. refl))
      (prints_or (prints_keyword k.Me line (prints_pure refl))
      (prints_symbol s.WithPoint line (prints_last prints_name (λ text. refl)))))

  pub prints_literal : Prints (one literal_of) (λ found. word_at line (literal_word found) ∷ [])
  prints_literal = record {
    same = λ tokens found h. ap (λ l. l ∷ []) (literal_plain found)
        ∙ sym (kinds-literal tokens found h);
  }

  prints_operator : (level : ℕ) → Prints (one (operator_at level)) (λ found. word_at line (operator_word found) ∷ [])
  prints_operator level = record {
    same = λ tokens found h. ap (λ l. l ∷ []) (operator_plain found)
        ∙ sym (kinds-operator level tokens found h);
  }

  words_chain : (first : Expression) (more : List Operation) → expression_words line (chain first more)
      ≡ expression_words line first ++ flat_map (λ (x : Tokens). x) (map (operation_words line) more)
  words_chain first [] = sym (append-nil (expression_words line first))
  words_chain first (x ∷ more) = words-chain line first (x ∷ more)

  pub record PrintsInside (inside : Inside) : Type 0 where
    pub primary : Prints inside.primary (expression_words line)
    pub negated : Prints inside.negated (expression_words line)
    pub expression : Prints inside.expression (expression_words line)

  module _ (opens : Bool) (inside : Inside) (within : PrintsInside inside) where
    pub prints_step : Prints (grammar.step opens inside) (path_step_words line)
    prints_step = prints (prints_or
        (prints_symbol s.PathPoint line (prints_last prints_name (λ text. printed.words-member line text)))
        (prints_last prints_group (λ arguments. refl)))
      where
        some : PrintsTail (words.list_of inside.expression) (λ tail. tail) (λ arguments. listed line (map (expression_words
            line) arguments))
        some = tail (prints_listed line (expression_words line) within.expression)

        group_words : List Expression → Tokens
        group_words arguments = path_step_words line (behind.Group arguments)

        prints_group : Prints (grammar.group opens inside) group_words
        prints_group = prints (prints_where (prints_symbol s.Open line (prints_bind
            (prints (prints_or (prints_pure refl) some))
            (λ arguments. prints_symbol s.Close line (prints_pure (printed.words-group line arguments))))))

    prints_path : Prints (grammar.path opens inside) (path_words line)
    prints_path = prints (prints_bind prints_head (λ head. prints_last
        (prints_many (path_step_words line) (λ x. x) prints_step)
        (λ steps. printed.words-path line head steps)))

    prints_primary : Prints (grammar.primary opens inside) (expression_words line)
    prints_primary = prints
        (prints_or (prints_last prints_literal (λ found. printed.words-literal line found))
        (prints_or (prints_keyword k.Nothing line (prints_pure (printed.words-nothing line)))
        (prints_or (prints_keyword k.New line (prints_last prints_name (λ class. printed.words-new line class)))
        (prints_or (prints_last prints_path (λ found. printed.words-reference line found))
        (prints_or (prints_where (prints_symbol s.Open line (prints_bind within.expression
        (λ x. prints_symbol s.Close line (prints_pure (printed.words-parenthesis line x))))))
        (prints_where (prints_symbol s.Minus line (prints_last within.primary
        (λ x. printed.words-negative line x)))))))))

    prints_turn : (level : ℕ) (tighter : Rule Expression) → Prints tighter (expression_words line)
        → Prints (grammar.turn level tighter) (operation_words line)
    prints_turn level tighter a = prints (prints_bind (prints_operator level) (λ operator. prints_last a
        (λ right. printed.words-operation line operator right)))

    prints_one_level : (negates : Bool) (level : ℕ) (tighter : Rule Expression) → Prints tighter (expression_words line)
        → Prints (grammar.one_level opens inside negates level tighter) (expression_words line)
    prints_one_level true level tighter a = prints (prints_or (prints_where (prints_keyword k.Not line (prints_last
        within.negated (λ x. printed.words-not line x)))) (tail a))
    prints_one_level false level tighter a = prints (prints_bind a (λ first. prints_last
        (prints_many (operation_words line) (λ x. x) (prints_turn level tighter a))
        (λ more. words_chain first more)))

    prints_operators : (level : ℕ) → Prints (grammar.operators opens inside level) (expression_words line)
    prints_operators zero = prints_primary
    prints_operators (suc level) = prints_one_level (suc level == not_level) (suc level)
        (grammar.operators opens inside level) (prints_operators level)

    prints_here : PrintsInside (grammar.rules_here opens inside)
    prints_here = record {
      primary = prints_primary;
      negated = prints_operators not_level;
      expression = prints_operators grammar.last_level;
    }

  pub prints_closed : PrintsInside closed
  prints_closed = record { primary = prints_none; negated = prints_none; expression = prints_none }

  pub expressions_print : (depth : ℕ) → PrintsInside (expressions depth)
  expressions_print zero = prints_here false closed prints_closed
  expressions_print (suc depth) = prints_here true (expressions depth) (expressions_print depth)
