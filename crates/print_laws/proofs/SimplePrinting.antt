-- What is printed of declarations and of statements that hold no other is spelled so.
use Rattle.std.proofs.Common.{◌≡◌, ℕ, zero, suc, true, false, List, [], ◌∷◌, ◌++◌, map}
use Rattle.std.proofs.Common.{Some, None, inl, inr, refl, sym, append-nil, subst}
use Rattle.std.specs.List.{flat_map}
use Rattle.vb_value.specs.declared.token.Keyword.TheVariants as k
use Rattle.vb_value.specs.declared.token.Symbol.TheVariants as s
use Rattle.vb_value.specs.declared.token.Token.{Token}
use Rattle.vb_value.specs.declared.token.TokenKind.{TokenKind}
use Rattle.vb_value.specs.declared.token.TokenKind.TheVariants as kind
use Rattle.vb_syntax.specs.declared.declaration.ConstantValue.{ConstantValue}
use Rattle.vb_syntax.specs.declared.declaration.ConstantValue.TheVariants as value
use Rattle.vb_syntax.specs.declared.expression.PathHead.{PathHead}
use Rattle.vb_syntax.specs.declared.expression.PathHead.TheVariants as head
use Rattle.vb_syntax.specs.declared.expression.Step.{Step}
use Rattle.vb_syntax.specs.grammar.Rules.{Tokens, Rule, pure, ◌>>=◌, ◌or◌, one}
use Rattle.vb_syntax.specs.grammar.Words.{name_of, literal_of}
use Rattle.vb_syntax.specs.grammar.Declarations as declarations
use Rattle.vb_syntax.specs.grammar.Declarations.{with_access, number_of, negative_of, negative_of_kind}
use Rattle.vb_syntax.specs.grammar.Expressions.{expressions, path_of, closed}
use Rattle.vb_syntax.specs.grammar.SimpleStatements as statements
use Rattle.vb_syntax.specs.grammar.SimpleStatements.{statement, named_by, head_at, path_step, Looser}
use Rattle.vb_print.specs.Words.{printed, keyword, symbol, name, listed, literal_word}
use Rattle.vb_print.specs.Expressions.{head_words, expression_words, path_words, path_step_words}
use Rattle.vb_print.specs.Statements as print
use Rattle.vb_print.specs.Statements.{access_words, bound_words, declared_words, constant_value_words}
use Rattle.vb_print.specs.Statements.{constant_words, resized_words, statement_words}
use Rattle.print_laws.proofs.Alike.{Blind}
use Rattle.print_laws.proofs.ExpressionWords as shown
use Rattle.print_laws.proofs.ExpressionPrinting.{blind_name, blind_literal, blind_step, expressions_blind, blind_closed}
use Rattle.print_laws.proofs.ExpressionPrinting.{prints_name, prints_literal, prints_step, expressions_print}
use Rattle.print_laws.proofs.ExpressionPrinting.{prints_closed}
use Rattle.print_laws.proofs.Prints.{Prints}
use Rattle.print_laws.proofs.Again.{Again, AgainTail, TailAgain, again, alike, again_pure, again_bind}
use Rattle.print_laws.proofs.Again.{again_last, again_or}
use Rattle.print_laws.proofs.Again.{again_opened, again_many, again_word, behind, word_shown}
use Rattle.print_laws.proofs.Again.{again_symbol, again_some}

pub again_name : (line : ℕ) → Again (one name_of) (λ text. name line text ∷ [])
again_name line = alike blind_name (prints_name line)

again_literal : (line : ℕ) → Again (one literal_of) (λ found. printed line (literal_word found) ∷ [])
again_literal line = alike blind_literal (prints_literal line)

pub again_expression : (line depth : ℕ) → Again (expressions depth).expression (expression_words line)
again_expression line depth = alike (expressions_blind depth).expression (expressions_print line depth).expression

-- ---- declarations

-- a word, and before it that of an access
pub again_access : (word : Rule ℕ) (token : ℕ → Token) → ((line : ℕ) → word (token line ∷ []) line)
    → Again (with_access word) (λ found. access_words found.0 found.1 ++ token found.0 ∷ [])
again_access word token shows = again
    (again_or (again_bind (again_word (kind.Keyword k.Public)) (λ line. behind (token line ∷ []) line (shows line)
    (again_pure refl)))
    (again_or (again_bind (again_word (kind.Keyword k.Private)) (λ line. behind (token line ∷ []) line (shows line)
    (again_pure refl)))
    (again_last again_token (λ line. refl))))
  where
    again_token : Again word (λ line. token line ∷ [])
    again_token = record { spelled = λ tokens line h. shows line }

again_bounds : (line depth : ℕ) → Again (declarations.bounds depth)
    (λ numbers. symbol line s.Open ∷ listed line (map (bound_words line) numbers) ++ symbol line s.Close ∷ [])
again_bounds line depth = again (again_opened depth (λ within. again_symbol s.Open line
    (again_bind (again_some line (bound_words line) again_bound) (λ numbers. again_symbol s.Close line (again_pure
    refl)))))
  where
    again_bound : Again (one number_of) (bound_words line)
    again_bound = record {
      spelled = λ tokens number h. record { token = printed line (kind.Long number); alone = refl; passes = refl };
    }

pub again_declared : (line depth : ℕ) → Again (declarations.declared depth) (declared_words line)
again_declared line depth = again (again_bind (again_name line) (λ name. again_last again_found (λ found. refl)))
  where
    again_found : Again (pure None or (do numbers ← declarations.bounds depth; pure (Some numbers)))
        (print.bounds_words line)
    again_found = again (again_or (again_pure refl) (again_last (again_bounds line depth) (λ numbers. refl)))

again_constant_value : (line : ℕ) → Again declarations.constant_value (constant_value_words line)
again_constant_value line = again (again_or (again_symbol s.Minus line negative)
    (again_last (again_literal line) (λ found. refl)))
  where
    Shown : ConstantValue → Type 0
    Shown x = TailAgain (one negative_of) (λ tail. symbol line s.Minus ∷ tail) (constant_value_words line) x

    shows : (found : TokenKind) (x : ConstantValue) → negative_of_kind found ≡ Some x → Shown x
    shows (kind.Integer number) x e = let same : value.NegativeInteger number ≡ x = cc in subst Shown same (record {
      tail = printed line (kind.Integer number) ∷ [];
      whole = refl;
      spelled = record { token = printed line (kind.Integer number); alone = refl; passes = refl };
    })
    shows (kind.Long number) x e = let same : value.NegativeLong number ≡ x = cc in subst Shown same (record {
      tail = printed line (kind.Long number) ∷ [];
      whole = refl;
      spelled = record { token = printed line (kind.Long number); alone = refl; passes = refl };
    })
    shows _ x e = absurd cc

    negative : AgainTail (one negative_of) (λ tail. symbol line s.Minus ∷ tail) (constant_value_words line)
    negative = record { shows = λ tokens x h. shows h.token.kind x h.passes }

pub again_constant : (line : ℕ) → Again declarations.constant (constant_words line)
again_constant line = again (again_bind (again_name line) (λ name. again_symbol s.Equal line
    (again_last (again_constant_value line) (λ found. refl))))

-- ---- paths with their lines

-- the head of a path in a line spells it there
head_shown : (line : ℕ) (found : PathHead) → head_at (head_words line found) (line, found)
head_shown line (head.Name text) = inl (record { token = name line text; alone = refl; passes = refl })
head_shown line head.Me = inr (inl (record {
  front = keyword line k.Me ∷ [];
  back = [];
  thing = line;
  split = refl;
  first_spells = word_shown (kind.Keyword k.Me) line;
  next_spells = (refl, refl);
}))
head_shown line (head.With text) = inr (inr (record {
  front = symbol line s.WithPoint ∷ [];
  back = name line text ∷ [];
  thing = line;
  split = refl;
  first_spells = word_shown (kind.Symbol s.WithPoint) line;
  next_spells = record {
    front = name line text ∷ [];
    back = [];
    thing = text;
    split = refl;
    first_spells = record { token = name line text; alone = refl; passes = refl };
    next_spells = (refl, refl);
  };
}))

pub step_blind : (depth : ℕ) → Blind (path_step depth)
step_blind zero = blind_step false closed blind_closed
step_blind (suc within) = blind_step true (expressions within) (expressions_blind within)

pub step_prints : (line depth : ℕ) → Prints (path_step depth) (path_step_words line)
step_prints line zero = prints_step line false closed (prints_closed line)
step_prints line (suc within) = prints_step line true (expressions within) (expressions_print line within)

-- the words of a path with its line
abbrev pub path_at_words : ℕ × PathHead × List Step → Tokens
path_at_words found = path_words found.0 (path_of found.1 found.2)

-- a path in a line spells it there
pub path_shown : (looser : Looser) (depth line : ℕ) (tokens : Tokens) (found : ℕ × PathHead × List Step)
    → statements.path_at looser depth tokens found
    → statements.path_at looser depth (path_words line (path_of found.1 found.2)) (line, found.1, found.2)
path_shown looser depth line tokens found h = subst Shown (sym h.next_spells.next_spells.1) (subst
    (λ t. statements.path_at looser depth t (line, front, steps)) (sym (shown.words-path line front steps)) (record {
      front = head_words line front;
      back = behind_it;
      thing = (line, front);
      split = refl;
      first_spells = head_shown line front;
      next_spells = record {
        front = behind_it;
        back = [];
        thing = steps;
        split = sym (append-nil behind_it);
        first_spells = (again_many (path_step_words line) (λ x. x) (alike (step_blind depth)
            (step_prints line depth))).spelled h.next_spells.front steps h.next_spells.first_spells;
        next_spells = (refl, refl);
      };
    }))
  where
    Shown : ℕ × PathHead × List Step → Type 0
    Shown x = statements.path_at looser depth (path_words line (path_of x.1 x.2)) (line, x.1, x.2)

    front : PathHead
    front = h.thing.1

    steps : List Step
    steps = h.next_spells.thing

    behind_it : Tokens
    behind_it = flat_map (λ (x : Tokens). x) (map (path_step_words line) steps)

pub again_path_at : (looser : Looser) (depth : ℕ) → Again (statements.path_at looser depth) path_at_words
again_path_at looser depth = record { spelled = λ tokens x h. path_shown looser depth x.0 tokens x h }
