-- What is printed of a call statement is spelled so. It is alike to the beginning of what spelled the statement, so it
-- is no assignment.
use Rattle.std.proofs.Common.{◌≡◌, ℕ, zero, suc, Bool, true, false, IsTrue, List, [], ◌∷◌, ◌++◌, map, Option, Some}
use Rattle.std.proofs.Common.{None, inl, inr, refl, sym, ap, ◌∙◌, append-nil, append_assoc, subst}
use Rattle.vb_value.specs.declared.token.Keyword.TheVariants as k
use Rattle.vb_value.specs.declared.token.Symbol.TheVariants as s
use Rattle.vb_value.specs.declared.token.Token.{Token}
use Rattle.vb_value.specs.declared.token.TokenKind.{TokenKind}
use Rattle.vb_value.specs.declared.token.TokenKind.TheVariants as kind
use Rattle.vb_syntax.specs.declared.expression.Expression.{Expression}
use Rattle.vb_syntax.specs.declared.expression.Path.{out-Path, out-roll-Path}
use Rattle.vb_syntax.specs.declared.expression.PathHead.{PathHead}
use Rattle.vb_syntax.specs.declared.expression.PathHead.TheVariants as head
use Rattle.vb_syntax.specs.declared.expression.Step.{Step}
use Rattle.vb_syntax.specs.declared.statement.Statement.{Statement}
use Rattle.vb_syntax.specs.grammar.Rules.{Tokens, Rule, pure, ◌>>◌, one}
use Rattle.vb_syntax.specs.grammar.Words as words
use Rattle.vb_syntax.specs.grammar.Words.{name_of, name_of_kind}
use Rattle.vb_syntax.specs.grammar.Declarations.{opened}
use Rattle.vb_syntax.specs.grammar.Expressions.{expressions, path_of}
use Rattle.vb_syntax.specs.grammar.SimpleStatements as statements
use Rattle.vb_syntax.specs.grammar.SimpleStatements.{statement, head_at, named_by, ends_in_group, Begins, Looser}
use Rattle.vb_syntax.specs.grammar.Units.{strict}
use Rattle.vb_print.specs.Words.{keyword, symbol, listed}
use Rattle.vb_print.specs.Expressions.{expression_words, path_words, head_words, path_step_words}
use Rattle.vb_print.specs.Statements.{empty_group, argument_words, statement_words}
use Rattle.print_laws.proofs.Alike.{plain, kinds, kinds-append, parts, Turns, turns, turns_word, turns_pure}
use Rattle.print_laws.proofs.Alike.{turns_bind, turns_or}
use Rattle.print_laws.proofs.Alike.{turns_one, blind_many}
use Rattle.print_laws.proofs.PrintedWords.{kinds-symbol, kinds-keyword}
use Rattle.print_laws.proofs.Prints.{Prints, prints, tail, prints_pure, prints_bind, prints_last, prints_or, prints_many}
use Rattle.print_laws.proofs.Prints.{prints_symbol, prints_listed}
use Rattle.print_laws.proofs.ExpressionWords as shown
use Rattle.print_laws.proofs.StatementWords as shown_statements
use Rattle.print_laws.proofs.ExpressionPrinting.{blind_name, prints_name, expressions_print, name-plain}
use Rattle.print_laws.proofs.Again.{Again, again, again_pure, again_opened, again_symbol, again_listed, word_shown}
use Rattle.print_laws.proofs.SimplePrinting.{again_path_at, again_expression, step_blind, step_prints}

-- ---- what begins with a path and "="

abbrev named : Token → Option (ℕ × PathHead)
named token = named_by (name_of token) token.line

turns_named : Turns (one named) (one named)
turns_named = turns_one named named (λ a b x same e. go (name_of a) (name_of b) a.line b.line x (sym (name-plain a.kind)
    ∙ ap name_of_kind same ∙ name-plain b.kind) e)
  where
    go : (a b : Option (List ℕ)) (line other : ℕ) (x : ℕ × PathHead) → a ≡ b → named_by b other ≡ Some x
        → (y : ℕ × PathHead) × (named_by a line ≡ Some y)
    go None b line other x same e = let none : None ≡ b = same in absurd cc
    go (Some text) b line other x same e = ((line, head.Name text), refl)

turns_head : Turns head_at head_at
turns_head = turns_or turns_named (turns_or (turns_bind (turns_word (kind.Keyword k.Me)) (λ x y. turns_pure (x, head.Me)
    (y, head.Me))) (turns_bind (turns_word (kind.Symbol s.WithPoint)) (λ x y. turns_bind (turns blind_name)
    (λ text other. turns_pure (x, head.With text) (y, head.With other)))))

turns_assigned : (looser : Looser) (depth : ℕ) → Turns (statements.path_at looser depth >> words.symbol s.Equal)
    (statements.path_at looser depth >> words.symbol s.Equal)
turns_assigned looser depth = turns_bind (turns_bind turns_head
    (λ x y. turns_bind (turns (blind_many (step_blind depth)))
    (λ steps other. turns_pure (x.0, x.1, steps) (y.0, y.1, other)))) (λ _ _. turns_word (kind.Symbol s.Equal))

-- what begins words begins those that are alike and go on
begins_moved : {A : Type 0} (r : Rule A) → Turns r r → (shorter rest tokens : Tokens)
    → kinds tokens ≡ kinds (shorter ++ rest) → Begins r shorter → Begins r tokens
begins_moved r t shorter rest tokens e h =
    let front : Tokens = h.0 in
    let back : Tokens = h.1 in
    let cut = parts front (back ++ rest) tokens (e ∙ ap (λ l. kinds (l ++ rest)) h.4
    ∙ ap kinds (append_assoc front back rest) ∙ kinds-append front (back ++ rest)) in
    let found = t.moved front cut.before h.2 cut.first h.3 in
    (cut.before, cut.after, found.0, found.1, cut.split)

-- ---- the arguments

-- what is printed of the arguments spells them, and is alike to the beginning of what spelled them
record Given (depth : ℕ) (steps : List Step) (back : Tokens) (given : List Expression) (shown : Tokens) : Type 0 where
  pub spells : statements.arguments strict depth shown given
  pub rest : Tokens
  pub same : kinds back ≡ kinds (shown ++ rest)
  pub parenthesis : IsTrue (ends_in_group steps) → Begins (words.symbol s.Open) shown

ends : (head : PathHead) (steps : List Step) → ends_in_group (out-Path (path_of head steps)).steps ≡ ends_in_group steps
ends head steps = ap (λ layer. ends_in_group layer.steps) (out-roll-Path (record { head = head; steps = steps }))

apart : IsTrue false → ⊥
apart h = absurd cc

begins_nothing : (tokens : Tokens) → tokens ≡ [] → Begins (words.symbol s.Open) tokens → ⊥
begins_nothing tokens e h = let clash : [] ≡ h.3.token ∷ h.1 = sym e ∙ h.4 ∙ ap (λ l. l ++ h.1) h.3.alone in absurd cc

-- "(" ")"
abbrev empty_group_rule : ℕ → Rule (List Expression)
empty_group_rule depth = opened depth (λ within. do words.symbol s.Open; words.symbol s.Close; pure [])

empty_again : (line depth : ℕ) (back : Tokens) (given : List Expression) → empty_group_rule depth back given
    → empty_group_rule depth (empty_group line true) given
empty_again line depth back given h = (again (again_opened depth
    (λ within. again_symbol s.Open line (again_symbol s.Close
    line (again_pure {print = λ _. empty_group line true} refl))))).spelled back given h

empty_kinds : (line depth : ℕ) (back : Tokens) (given : List Expression) → empty_group_rule depth back given
    → kinds back ≡ kinds (empty_group line true ++ [])
empty_kinds line zero back given h = absurd h
empty_kinds line (suc within) back given h = sym ((prints (prints_symbol s.Open line (prints_symbol s.Close
    line (prints_pure {x = []} {print = λ _. empty_group line true} refl)))).same back given h)

nothing_given : (depth : ℕ) (back : Tokens) (first : Expression) (more : List Expression)
    → empty_group_rule depth back (first ∷ more) → ⊥
nothing_given zero back first more h = h
nothing_given (suc within) back first more h =
    let clash : first ∷ more ≡ [] = h.next_spells.next_spells.1 in absurd cc

module _ (line : ℕ) (depth : ℕ) (head : PathHead) (steps : List Step) (back : Tokens)
    (opens : IsTrue (ends_in_group steps) → Begins (words.symbol s.Open) back) where
  -- what is printed where there are no arguments
  by_end : ((ends : Bool) → ends_in_group steps ≡ ends → Given depth steps back [] (empty_group line ends))
      → Given depth steps back [] (argument_words line (path_of head steps) [])
  by_end given = subst (λ b. Given depth steps back [] (empty_group line b)) (sym (ends head steps))
      (given (ends_in_group steps) refl)

  no_words : back ≡ [] → (ends : Bool) → ends_in_group steps ≡ ends → Given depth steps back [] (empty_group line ends)
  no_words e true is = absurd (begins_nothing back e (opens is))
  no_words e false is = record {
    spells = inl (refl, refl);
    rest = [];
    same = ap kinds e;
    parenthesis = λ t. absurd (apart (sym is ∙ t));
  }

  empty_words : empty_group_rule depth back [] → (ends : Bool) → ends_in_group steps ≡ ends
      → Given depth steps back [] (empty_group line ends)
  empty_words h true is = record {
    spells = inr (inl (empty_again line depth back [] h));
    rest = [];
    same = empty_kinds line depth back [] h;
    parenthesis = λ t. (
      symbol line s.Open ∷ [],
      symbol line s.Close ∷ [],
      line,
      word_shown
          (kind.Symbol s.Open) line,
      refl,
    );
  }
  empty_words h false is = record {
    spells = inl (refl, refl);
    rest = back;
    same = refl;
    parenthesis = λ t. absurd (apart (sym is ∙ t));
  }

  some_words : (given : List Expression) → words.list_of (expressions depth).expression back given
      → Given depth steps back given (argument_words line (path_of head steps) given)
  some_words [] h = let clash : [] ≡ h.thing ∷ h.next_spells.thing = h.next_spells.next_spells.1 in absurd cc
  some_words (first ∷ more) h =
      let print : Prints (words.list_of (expressions depth).expression) (λ xs. listed line (map (expression_words line)
      xs)) = prints_listed line (expression_words line) (expressions_print line depth).expression in
      let same = print.same back (first ∷ more) h in record {
        spells = inr (inr (inl ((again_listed line (expression_words line)
            (again_expression line depth)).spelled back (first
            ∷ more) h)));
        rest = [];
        same = sym same ∙ ap kinds (sym (append-nil _));
        parenthesis = λ t. begins_moved (words.symbol s.Open) (turns_word (kind.Symbol s.Open)) back [] _
            (same ∙ ap kinds (sym (append-nil back))) (opens t);
      }

  given_again : (given : List Expression) → statements.arguments strict depth back given
      → Given depth steps back given (argument_words line (path_of head steps) given)
  given_again given (inl h) = subst (λ g. Given depth steps back g (argument_words line (path_of head steps) g))
      (sym h.1) (by_end (no_words h.0))
  given_again [] (inr (inl h)) = by_end (empty_words h)
  given_again (first ∷ more) (inr (inl h)) = absurd (nothing_given depth back first more h)
  given_again given (inr (inr (inl h))) = some_words given h
  given_again given (inr (inr (inr h))) = absurd (apart h.0)

-- ---- the statement

prints_head_at : (line : ℕ) → Prints head_at (λ found. head_words line found.1)
prints_head_at line = prints (prints_or (tail prints_named)
    (prints_or (prints_last {print = λ _. keyword line k.Me ∷ []} prints_me (λ x. refl))
    (prints_bind {print = λ _. symbol line s.WithPoint ∷ []} prints_point (λ x. prints_last (prints_name line)
    (λ text. refl)))))
  where
    shows : (token : TokenKind) (at : ℕ) (x : ℕ × PathHead) → named_by (name_of_kind token) at ≡ Some x
        → kinds (head_words line x.1) ≡ plain token ∷ []
    shows (kind.Name text bracketed) at x e = let same : Path (ℕ × PathHead) (at, head.Name text) x = cc in
        ap (λ (y : ℕ × PathHead). kinds (head_words line y.1)) (sym same)
    shows _ at x e = absurd cc

    prints_named : Prints (one named) (λ found. head_words line found.1)
    prints_named = record {
      same = λ tokens x h. shows h.token.kind h.token.line x h.passes ∙ sym (ap kinds h.alone);
    }

    prints_me : Prints (words.keyword k.Me) (λ _. keyword line k.Me ∷ [])
    prints_me = record { same = λ tokens x h. sym (kinds-keyword k.Me tokens x h) }

    prints_point : Prints (words.symbol s.WithPoint) (λ _. symbol line s.WithPoint ∷ [])
    prints_point = record { same = λ tokens x h. sym (kinds-symbol s.WithPoint tokens x h) }

prints_path_at : (line depth : ℕ) → Prints (statements.path_at strict depth) (λ found. path_words line (path_of found.1
    found.2))
prints_path_at line depth = prints (prints_bind (prints_head_at line) (λ found. prints_last
    (prints_many (path_step_words line) (λ x. x) (step_prints line depth))
    (λ steps. shown.words-path line found.1 steps)))

module _ (depth : ℕ) (tokens : Tokens) (found : Statement) (h : statements.Call strict depth tokens found) where
  call_spelled : statements.Call strict depth (statement_words found) found
  call_spelled =
      let front = path_words h.callee.0 (path_of h.callee.1 h.callee.2) in
      let given = given_again h.callee.0 depth h.callee.1 h.callee.2 h.back h.parenthesis h.given h.given_spells in
      let back = argument_words h.callee.0 (path_of h.callee.1 h.callee.2) h.given in
      let path_same = (prints_path_at h.callee.0 depth).same h.front h.callee h.callee_spells in
      let alike : kinds tokens ≡ kinds ((front ++ back) ++ given.rest) = ap kinds h.split ∙ kinds-append h.front h.back
      ∙ ap (λ l. l ++ kinds h.back) (sym path_same) ∙ ap (λ l. kinds front ++ l) given.same
      ∙ sym (kinds-append front (back ++ given.rest)) ∙ ap kinds (sym (append_assoc front back given.rest)) in
      subst (λ t. statements.Call strict depth t found) (sym (ap statement_words h.is ∙ shown_statements.words-call
      h.callee.0 (path_of h.callee.1 h.callee.2) h.given)) (record {
        front = front;
        back = back;
        split = refl;
        callee = h.callee;
        given = h.given;
        callee_spells = (again_path_at strict depth).spelled h.front h.callee h.callee_spells;
        given_spells = given.spells;
        no_assignment = λ begins. h.no_assignment (begins_moved _ (turns_assigned strict depth) (front ++ back)
            given.rest tokens alike begins);
        parenthesis = given.parenthesis;
        is = h.is;
      })

pub again_call : (depth : ℕ) → Again (statements.Call strict depth) statement_words
again_call depth = record { spelled = call_spelled depth }
