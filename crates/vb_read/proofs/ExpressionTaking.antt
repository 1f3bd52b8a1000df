-- The readers of expressions take whatever the grammar spells.
use Rattle.std.proofs.Common.{◌≡◌, ℕ, zero, suc, ◌<◌, ◌≤◌, ◌==◌, inl, inr, Bool, true, false, List, []}
use Rattle.std.proofs.Common.{◌++◌, refl, sym, ◌∙◌, subst, arith}
use Rattle.std.proofs.lemmas.Bool.{eqb-true}
use Rattle.vb_value.specs.declared.token.Keyword.TheVariants as k
use Rattle.vb_value.specs.declared.token.Symbol.TheVariants as s
use Rattle.vb_value.specs.declared.token.TokenKind.TheVariants as kind
use Rattle.vb_syntax.specs.declared.expression.Expression.{Expression}
use Rattle.vb_syntax.specs.declared.expression.Expression.TheVariants as e
use Rattle.vb_syntax.specs.declared.expression.Step.TheVariants as behind
use Rattle.vb_syntax.specs.grammar.Rules.{Tokens, Rule}
use Rattle.vb_syntax.specs.grammar.Rules as rule
use Rattle.vb_syntax.specs.grammar.Words as words
use Rattle.vb_syntax.specs.grammar.Words.{tag, name_of, literal_of, literal_of_kind}
use Rattle.vb_syntax.specs.grammar.Expressions as grammar
use Rattle.vb_syntax.specs.grammar.Expressions.{operator_of, operator_at, operation, chain, path_of, not_level}
use Rattle.vb_read.specs.Reader.{next, sees}
use Rattle.vb_read.specs.ReadExpressions as spec
use Rattle.vb_read.specs.ReadExpressions.{goes_on_path}
use Rattle.vb_read.proofs.Reading.{moves}
use Rattle.vb_read.proofs.Taking.{Any, Takes, Starts, takes_pure, takes_one, takes_bind, takes_narrow}
use Rattle.vb_read.proofs.Taking.{takes_many, takes_case, takes_gate}
use Rattle.vb_read.proofs.Beginning.{Begins, begins_wider, begins_bind, begins_or, begins_where, begins_word}
use Rattle.vb_read.proofs.Beginning.{has_at, sees_true, sees_false}
use Rattle.vb_read.proofs.ExpressionReading.{Inner, closed_inner, expressions_read, reads_step, full_step}
use Rattle.vb_read.proofs.ExpressionReading.{reads_operators, operator_of_level, leaf}
use Rattle.vb_read.proofs.ExpressionEnds.{PathEnds, Ends, ends_less, ends_at, takes_list_of, answer, or_right}
use Rattle.vb_read.proofs.ExpressionEnds.{or_left, tag_is_leaf, leaf_tag, at_word, begins_leaf, takes_leaf}
use Rattle.vb_read.proofs.ExpressionEnds.{tag_is_path, begins_path_head, takes_path_head, ArgumentsEnd, list_ends}
use Rattle.vb_read.proofs.ExpressionEnds.{head_behind, tag_is_primary, tag_is_expression, Taken, takes_chained}
use Rattle.vb_read.proofs.ExpressionEnds.{takes_rule}

module _ (opens : Bool) (ip : spec.Inside) (ir : grammar.Inside) (inner : Inner opens ip ir)
    (taken : Taken opens ip ir) where
  begins_group : Begins (λ n. n == tag (kind.Symbol s.Open)) (grammar.group opens ir)
  begins_group = begins_where (begins_bind (begins_word (kind.Symbol s.Open)))

  list_begins : (front rest : Tokens) (x : List Expression) → words.list_of ir.expression front x
      → sees (kind.Symbol s.Close) (next (front ++ rest)) ≡ false
  list_begins front rest x h = sees_false tag_is_expression (kind.Symbol s.Close) front rest ((begins_bind
      taken.begins).head front x h) refl

  takes_group : Takes (spec.group opens ip) (grammar.group opens ir) Any
  takes_group = takes_gate opens (λ is. takes_bind (takes_one _ Any)
      (λ _. takes_bind {u = ArgumentsEnd}
      (takes_case (sees (kind.Symbol s.Close)) (takes_pure [] ArgumentsEnd)
      (takes_narrow list_ends (takes_list_of (inner.expression is) (taken.expression is)))
      (λ front rest x h ok. rw h.0 (rw ok.2 ok.3))
      (λ front rest x h ok. list_begins front rest x h))
      (λ arguments. takes_bind (takes_one _ Any) (λ _. takes_pure arguments Any) (λ _ _ _ _ _ _. tt))
      (λ arguments y back rest h ok. head_behind (λ n. n == tag (kind.Symbol s.Close)) back rest
      ((begins_bind (begins_word (kind.Symbol s.Close))).head back y h)))
      (λ _ _ _ _ _ _. tt))

  takes_step : Takes (spec.step opens ip) (grammar.step opens ir) Any
  takes_step = takes_case (sees (kind.Symbol s.PathPoint))
      (takes_bind (takes_one _ Any) (λ _. takes_bind (takes_one _ Any)
      (λ name. takes_pure (behind.Member name) Any) (λ _ _ _ _ _ _. tt)) (λ _ _ _ _ _ _. tt))
      (takes_bind takes_group (λ arguments. takes_pure (behind.Group arguments) Any) (λ _ _ _ _ _ _. tt))
      (λ front rest x h ok. sees_true (kind.Symbol s.PathPoint) front rest ((begins_bind (begins_word
      (kind.Symbol s.PathPoint))).head front x h))
      (λ front rest x h ok. sees_false (λ n. n == tag (kind.Symbol s.Open))
      (kind.Symbol s.PathPoint) front rest ((begins_bind begins_group).head front x h) refl)

  starts_step : Starts goes_on_path (grammar.step opens ir)
  starts_step front rest x (inl h) = answer goes_on_path true (begins_bind (begins_word (kind.Symbol
      s.PathPoint))) (λ token e. or_left _ _ e) front rest x h
  starts_step front rest x (inr h) = answer goes_on_path true (begins_bind begins_group)
      (λ token e. or_right _ _ e) front rest x h

  pub takes_steps : Takes (spec.steps opens ip) (rule.many (grammar.step opens ir)) PathEnds
  takes_steps = takes_many goes_on_path takes_step (moves _ _ (reads_step opens ip ir inner)
      (full_step opens ip ir inner)) refl starts_step (λ _ _ _ _. tt) (λ rest ok. (tt, ok))

  pub takes_path : Takes (spec.path opens ip) (grammar.path opens ir) PathEnds
  takes_path = takes_bind takes_path_head (λ head. takes_bind takes_steps (λ steps. takes_pure (path_of head
      steps) PathEnds) (λ steps y back rest h ok. rw h.0 ok)) (λ _ _ _ _ _ _. tt)

  -- the operands in the order in which the reader asks for them
  abbrev asked : Rule Expression
  asked = rule.◌or◌ leaf (rule.◌or◌ (grammar.parenthesis opens ir) (rule.◌or◌ (grammar.negative opens ir)
      (grammar.reference opens ir)))

  primary_asked : (front : Tokens) (x : Expression) → grammar.primary opens ir front x → asked front x
  primary_asked front x (inl h) = inl (inl h)
  primary_asked front x (inr (inl h)) = inl (inr (inl h))
  primary_asked front x (inr (inr (inl h))) = inl (inr (inr h))
  primary_asked front x (inr (inr (inr (inl h)))) = inr (inr (inr h))
  primary_asked front x (inr (inr (inr (inr (inl h))))) = inr (inl h)
  primary_asked front x (inr (inr (inr (inr (inr h))))) = inr (inr (inl h))

  begins_parenthesis : Begins (λ n. n == tag (kind.Symbol s.Open)) (grammar.parenthesis opens ir)
  begins_parenthesis = begins_where (begins_bind (begins_word (kind.Symbol s.Open)))

  begins_negative : Begins (λ n. n == tag (kind.Symbol s.Minus)) (grammar.negative opens ir)
  begins_negative = begins_where (begins_bind (begins_word (kind.Symbol s.Minus)))

  begins_reference : Begins tag_is_path (grammar.reference opens ir)
  begins_reference = begins_bind (begins_bind begins_path_head)

  no_leaf : (f : ℕ → Bool) (r : Rule Expression) → Begins f r → ((n : ℕ) → f n ≡ true
      → tag_is_leaf n ≡ false) → (front rest : Tokens) (x : Expression) → r front x
      → spec.sees_leaf (next (front ++ rest)) ≡ false
  no_leaf f r begins not front rest x h = answer spec.sees_leaf false begins (λ token e. leaf_tag token
      ∙ not (tag token.kind) e) front rest x h

  path_no_leaf : (n : ℕ) → tag_is_path n ≡ true → tag_is_leaf n ≡ false
  path_no_leaf n e = go (n == tag (kind.Name [] false)) refl (n == tag (kind.Keyword k.Me)) refl
    where
      go : (a : Bool) → (n == tag (kind.Name [] false)) ≡ a → (b : Bool) → (n == tag (kind.Keyword k.Me)) ≡ b
          → tag_is_leaf n ≡ false
      go true is b _ = at_word tag_is_leaf (tag (kind.Name [] false)) false refl n is
      go false not true is = at_word tag_is_leaf (tag (kind.Keyword k.Me)) false refl n is
      go false not false also = let last : (n == tag (kind.Symbol s.WithPoint)) ≡ true = sym (rw (not, also) refl)
          ∙ e in at_word tag_is_leaf (tag (kind.Symbol s.WithPoint)) false refl n last

  others_no_leaf : (front rest : Tokens) (x : Expression)
      → rule.◌or◌ (grammar.parenthesis opens ir) (rule.◌or◌ (grammar.negative opens ir)
      (grammar.reference opens ir)) front x → PathEnds rest → spec.sees_leaf (next (front ++ rest)) ≡ false
  others_no_leaf front rest x (inl h) ok = no_leaf _ _ begins_parenthesis (at_word tag_is_leaf
      (tag (kind.Symbol s.Open)) false refl) front rest x h
  others_no_leaf front rest x (inr (inl h)) ok = no_leaf _ _ begins_negative (at_word tag_is_leaf
      (tag (kind.Symbol s.Minus)) false refl) front rest x h
  others_no_leaf front rest x (inr (inr h)) ok = no_leaf _ _ begins_reference path_no_leaf front rest x h

  others_no_open : (front rest : Tokens) (x : Expression)
      → rule.◌or◌ (grammar.negative opens ir) (grammar.reference opens ir) front x → PathEnds rest
      → sees (kind.Symbol s.Open) (next (front ++ rest)) ≡ false
  others_no_open front rest x (inl h) ok = sees_false (λ n. n == tag (kind.Symbol s.Minus))
      (kind.Symbol s.Open) front rest (begins_negative.head front x h) refl
  others_no_open front rest x (inr h) ok = sees_false tag_is_path (kind.Symbol s.Open) front rest
      (begins_reference.head front x h) refl

  takes_asked : Takes (spec.primary opens ip) asked PathEnds
  takes_asked = takes_case spec.sees_leaf (takes_narrow (λ rest ok. tt) takes_leaf)
      (takes_case (sees (kind.Symbol s.Open))
      (takes_gate opens (λ is. takes_bind (takes_one _ Any) (λ _. takes_bind (taken.expression is)
      (λ x. takes_bind (takes_one _ Any) (λ _. takes_pure (e.Parenthesis x) PathEnds)
      (λ _ _ _ _ _ _. tt))
      (λ x y back rest h ok. ends_at (tag (kind.Symbol s.Close)) 12 refl refl refl back rest ((begins_bind (begins_word
      (kind.Symbol s.Close))).head back y h))) (λ _ _ _ _ _ _. tt)))
      (takes_case (sees (kind.Symbol s.Minus))
      (takes_gate opens (λ is. takes_bind (takes_one _ Any) (λ _. takes_bind (taken.primary is)
      (λ x. takes_pure (e.Negative x) PathEnds) (λ x y back rest h ok. rw h.0 ok))
      (λ _ _ _ _ _ _. tt)))
      (takes_bind takes_path (λ found. takes_pure (e.Path found) PathEnds) (λ found y back rest h ok. rw h.0 ok))
      (λ front rest x h ok. sees_true (kind.Symbol s.Minus) front rest (begins_negative.head front x h))
      (λ front rest x h ok. sees_false tag_is_path (kind.Symbol s.Minus) front rest
      (begins_reference.head front x h) refl))
      (λ front rest x h ok. sees_true (kind.Symbol s.Open) front rest (begins_parenthesis.head front x h))
      others_no_open)
      (λ front rest x h ok. answer spec.sees_leaf true begins_leaf (λ token e. leaf_tag token ∙ e) front rest x h)
      others_no_leaf

  pub takes_primary : Takes (spec.primary opens ip) (grammar.primary opens ir) PathEnds
  takes_primary = takes_rule primary_asked takes_asked

  begins_asked : Begins tag_is_primary asked
  begins_asked = begins_or (begins_wider (λ n e. or_left _ _ e) begins_leaf)
      (begins_or (begins_wider (has_at tag_is_primary (tag (kind.Symbol s.Open)) refl) begins_parenthesis)
      (begins_or (begins_wider (has_at tag_is_primary (tag (kind.Symbol s.Minus)) refl) begins_negative)
      (begins_wider (λ n e. or_right (tag_is_leaf n) _ (or_left _ _ e)) begins_reference)))

  begins_primary : Begins tag_is_primary (grammar.primary opens ir)
  begins_primary = record { head = λ front x h. begins_asked.head front x (primary_asked front x h) }

  tight_level : (level : ℕ) {r : Rule Expression} (is_not : Bool) → is_not ≡ false
      → Begins tag_is_primary r → Begins tag_is_primary (grammar.one_level opens ir is_not level r)
  tight_level level true not begins = absurd cc
  tight_level level false not begins = begins_bind begins

  begins_tight : (level : ℕ) → level < 7 → Begins tag_is_primary (grammar.operators opens ir level)
  begins_tight zero h = begins_primary
  begins_tight (suc level) h = tight_level (suc level) (suc level == not_level)
      (sym_differs (suc level) 7 h) (begins_tight level (omega arith))
    where
      sym_differs : (a b : ℕ) → a < b → (a == b) ≡ false
      sym_differs a b h = go (a == b) refl
        where
          go : (c : Bool) → (a == b) ≡ c → (a == b) ≡ false
          go true is = let same : a ≡ b = eqb-true a b is in absurd (omega arith)
          go false is = is

  any_level : (level : ℕ) {r : Rule Expression} (is_not : Bool) → Begins tag_is_expression r
      → Begins tag_is_expression (grammar.one_level opens ir is_not level r)
  any_level level true begins = begins_or (begins_wider (has_at tag_is_expression (tag (kind.Keyword k.Not)) refl)
      (begins_where (begins_bind (begins_word (kind.Keyword k.Not))))) begins
  any_level level false begins = begins_bind begins

  pub begins_operators : (level : ℕ) → Begins tag_is_expression (grammar.operators opens ir level)
  begins_operators zero = begins_wider (λ n e. or_right (n == tag (kind.Keyword k.Not)) _ e) begins_primary
  begins_operators (suc level) = any_level (suc level) (suc level == not_level) (begins_operators level)

  takes_level : (level : ℕ) (is_not : Bool) → level < 12 → (suc level == not_level) ≡ is_not
      → Takes (spec.operators opens ip level) (grammar.operators opens ir level) (Ends level)
      → Takes (spec.one_level opens ip is_not (suc level) (spec.operators opens ip level))
      (grammar.one_level opens ir is_not (suc level) (grammar.operators opens ir level)) (Ends (suc level))
  takes_level level true h is operand =
      let at : suc level ≡ 7 = eqb-true (suc level) 7 is in
      takes_case (sees (kind.Keyword k.Not))
      (takes_gate opens (λ is. takes_bind (takes_one _ Any) (λ _. takes_bind (taken.negated is)
      (λ x. takes_pure (e.Not x) (Ends (suc level)))
      (λ x y back rest h ok. rw h.0 (subst (λ n. Ends n rest) at ok))) (λ _ _ _ _ _ _. tt)))
      (takes_narrow (ends_less level (suc level) (omega arith)) operand)
      (λ front rest x h ok. sees_true (kind.Keyword k.Not) front rest ((begins_where (begins_bind
      (begins_word (kind.Keyword k.Not)))).head front x h))
      (λ front rest x h ok. sees_false tag_is_primary (kind.Keyword k.Not) front rest ((begins_tight level
      (omega arith)).head front x h) refl)
  takes_level level false h is operand = takes_chained level (operator_of_level level h is)
      (reads_operators opens ip ir inner level (omega arith)) operand

  pub takes_operators : (level : ℕ) → level ≤ 12
      → Takes (spec.operators opens ip level) (grammar.operators opens ir level) (Ends level)
  takes_operators zero h = takes_narrow (λ rest ok. ok.path) takes_primary
  takes_operators (suc level) h = takes_level level (suc level == not_level)
      (omega arith) refl (takes_operators level (omega arith))

-- the readers of a place, by those of the place inside
taken_here : (opens : Bool) (ip : spec.Inside) (ir : grammar.Inside) → Inner opens ip ir
    → Taken opens ip ir → Taken true (spec.readers_here opens ip) (grammar.rules_here opens ir)
taken_here opens ip ir inner taken = record {
  primary = λ _. takes_primary opens ip ir inner taken;
  negated = λ _. takes_operators opens ip ir inner taken 7 (omega arith);
  expression = λ _. takes_operators opens ip ir inner taken 12 (omega arith);
  begins = begins_operators opens ip ir inner taken 12;
}

pub closed_taken : Taken false spec.closed grammar.closed
closed_taken = record {
  primary = λ is. absurd cc;
  negated = λ is. absurd cc;
  expression = λ is. absurd cc;
  begins = record { head = λ front x h. absurd h };
}

-- where this many more constructs may open
pub expressions_taken : (depth : ℕ) → Taken true (spec.expressions depth) (grammar.expressions depth)
expressions_taken zero = taken_here false _ _ (closed_inner spec.closed grammar.closed) closed_taken
expressions_taken (suc depth) = taken_here true _ _ (expressions_read depth) (expressions_taken depth)
