-- The readers of expressions read the grammar's expressions.
use Rattle.std.proofs.Common.{◌≡◌, ℕ, zero, suc, ◌<◌, ◌≤◌, ◌==◌, inl, inr, Bool, true, false, IsTrue, [], ◌∷◌, Some}
use Rattle.std.proofs.Common.{refl, arith}
use Rattle.vb_value.specs.declared.operator.Op2.{Op2}
use Rattle.vb_value.specs.declared.operator.Op2.TheVariants as op
use Rattle.vb_value.specs.declared.token.Keyword.TheVariants as k
use Rattle.vb_value.specs.declared.token.Symbol.TheVariants as s
use Rattle.vb_value.specs.declared.token.Token.{Token}
use Rattle.vb_value.specs.declared.token.TokenKind.TheVariants as kind
use Rattle.vb_syntax.specs.declared.expression.Expression.{Expression}
use Rattle.vb_syntax.specs.declared.expression.Expression.TheVariants as e
use Rattle.vb_syntax.specs.declared.expression.Literal.TheVariants as literal
use Rattle.vb_syntax.specs.declared.expression.PathHead.TheVariants as head
use Rattle.vb_syntax.specs.declared.expression.Step.TheVariants as behind
use Rattle.vb_syntax.specs.grammar.Rules.{Tokens, Rule}
use Rattle.vb_syntax.specs.grammar.Rules as rule
use Rattle.vb_syntax.specs.grammar.Words as words
use Rattle.vb_syntax.specs.grammar.Words.{literal_of}
use Rattle.vb_syntax.specs.grammar.Expressions as grammar
use Rattle.vb_syntax.specs.grammar.Expressions.{operator_at, operation, chain, path_of, not_level}
use Rattle.vb_read.specs.Reader.{Reader}
use Rattle.vb_read.specs.Reader as reader
use Rattle.vb_read.specs.ReadExpressions as spec
use Rattle.vb_read.proofs.Reading.{Reads, Lives, NoEmpty, reads_pure, reads_wider, reads_bind, reads_one}
use Rattle.vb_read.proofs.Reading.{reads_choice, reads_both, reads_gate, reads_many, reads_word, reads_name}
use Rattle.vb_read.proofs.Reading.{full_one, full_bind, full_word, token_of}

pub reads_list_of : {A : Type 0} {p : Reader A} {r : Rule A} → Reads p r → Reads (spec.list_of p) (words.list_of r)
reads_list_of {A} {p} {r} reads =
    reads_bind reads (λ first. reads_bind
    (reads_many (reader.sees (kind.Symbol s.Comma)) (reads_bind (reads_word (kind.Symbol s.Comma))
    (λ _. reads)) (full_bind _ _ (full_word (kind.Symbol s.Comma))) refl)
    (λ more. reads_pure (first ∷ more)))

pub reads_path_head : Reads spec.path_head grammar.path_head
reads_path_head = reads_choice (reader.passes words.name_of)
    (reads_bind reads_name (λ name. reads_pure (head.Name name)))
    (reads_choice (reader.sees (kind.Keyword k.Me))
    (reads_bind (reads_word (kind.Keyword k.Me)) (λ _. reads_pure head.Me))
    (reads_bind (reads_word (kind.Symbol s.WithPoint))
    (λ _. reads_bind reads_name (λ name. reads_pure (head.With name)))))

pub reads_literal : Reads spec.literal grammar.literal
reads_literal = reads_bind (reads_one literal_of (token_of (kind.Keyword k.Empty)) literal.Empty refl)
    (λ found. reads_pure (e.Literal found))

pub reads_nothing : Reads spec.nothing grammar.nothing
reads_nothing = reads_bind (reads_word (kind.Keyword k.Nothing)) (λ _. reads_pure e.Nothing)

pub reads_new : Reads spec.new grammar.new
reads_new = reads_bind (reads_word (kind.Keyword k.New))
    (λ _. reads_bind reads_name (λ class. reads_pure (e.New class)))

-- literal or nothing or new
abbrev pub leaf : Rule Expression
leaf = rule.◌or◌ grammar.literal (rule.◌or◌ grammar.nothing grammar.new)

pub reads_leaf : Reads spec.leaf leaf
reads_leaf = reads_choice (reader.passes literal_of) reads_literal
    (reads_choice (reader.sees (kind.Keyword k.Nothing)) reads_nothing reads_new)

-- a token of an operator of each level but that of `Not`
pub record Operator (level : ℕ) : Type 0 where
  pub token : Token
  pub operator : Op2
  pub is : operator_at level token ≡ Some operator

pub operator_of_level : (level : ℕ) → level < 12 → (suc level == not_level) ≡ false → Operator (suc level)
operator_of_level zero h is = record { token = token_of (kind.Symbol s.Star); operator = op.Multiply; is = refl }
operator_of_level (suc zero) h is = record {
  token = token_of (kind.Symbol s.Backslash);
  operator = op.Divide;
  is = refl;
}
operator_of_level (suc (suc zero)) h is = record {
  token = token_of (kind.Keyword k.Mod);
  operator = op.Modulo;
  is = refl;
}
operator_of_level (suc (suc (suc zero))) h is = record {
  token = token_of (kind.Symbol s.Plus);
  operator = op.Add;
  is = refl;
}
operator_of_level (suc (suc (suc (suc zero)))) h is = record {
  token = token_of (kind.Symbol s.Ampersand);
  operator = op.Join;
  is = refl;
}
operator_of_level (suc (suc (suc (suc (suc zero))))) h is = record {
  token = token_of (kind.Keyword k.Is);
  operator = op.Is;
  is = refl;
}
operator_of_level (suc (suc (suc (suc (suc (suc zero)))))) h is = absurd cc
operator_of_level (suc (suc (suc (suc (suc (suc (suc zero))))))) h is = record {
  token = token_of
      (kind.Keyword k.And);
  operator = op.And;
  is = refl;
}
operator_of_level (suc (suc (suc (suc (suc (suc (suc (suc zero)))))))) h is = record {
  token = token_of
      (kind.Keyword k.Or);
  operator = op.Or;
  is = refl;
}
operator_of_level (suc (suc (suc (suc (suc (suc (suc (suc (suc zero))))))))) h is = record {
  token = token_of
      (kind.Keyword k.Xor);
  operator = op.Xor;
  is = refl;
}
operator_of_level (suc (suc (suc (suc (suc (suc (suc (suc (suc (suc zero)))))))))) h is = record {
  token =
      token_of (kind.Keyword k.Eqv);
  operator = op.Eqv;
  is = refl;
}
operator_of_level (suc (suc (suc (suc (suc (suc (suc (suc (suc (suc (suc zero))))))))))) h is = record {
  token = token_of (kind.Keyword k.Imp);
  operator = op.Imp;
  is = refl;
}
operator_of_level (suc (suc (suc (suc (suc (suc (suc (suc (suc (suc (suc (suc level)))))))))))) h is = absurd
    (omega arith)

pub reads_turn : (level : ℕ) {p : Reader Expression} {r : Rule Expression} → Operator level → Reads p r
    → Reads (spec.turn level p) (grammar.turn level r)
reads_turn level has reads = reads_bind (reads_one (operator_at level) has.token has.operator has.is)
    (λ o. reads_bind reads (λ x. reads_pure (operation o x)))

pub full_turn : (level : ℕ) (r : Rule Expression) → NoEmpty (grammar.turn level r)
full_turn level r = full_bind _ _ (full_one (operator_at level))

pub reads_chained : (level : ℕ) {p : Reader Expression} {r : Rule Expression} → Operator level → Reads p r
    → Reads (spec.chained level p) (grammar.chained level r)
reads_chained level {p} {r} has reads = reads_bind reads (λ first. reads_bind
    (reads_many (reader.passes (operator_at level)) (reads_turn level has reads) (full_turn level r) refl)
    (λ more. reads_pure (chain first more)))

-- what is read inside a construct is spelled there
pub record Inner (opens : Bool) (p : spec.Inside) (r : grammar.Inside) : Type 0 where
  pub primary : IsTrue opens → Reads p.primary r.primary
  pub negated : IsTrue opens → Reads p.negated r.negated
  pub expression : IsTrue opens → Reads p.expression r.expression

module _ (opens : Bool) (ip : spec.Inside) (ir : grammar.Inside) (inner : Inner opens ip ir) where
  pub reads_opened_group : IsTrue opens → Reads (spec.opened_group opens ip) (grammar.group opens ir)
  reads_opened_group is = reads_wider (λ front x h. (is, h)) (reads_bind (reads_word (kind.Symbol s.Open))
      (λ _. reads_bind (reads_choice (reader.sees (kind.Symbol s.Close)) (reads_pure [])
      (reads_list_of (inner.expression is)))
      (λ arguments. reads_bind (reads_word (kind.Symbol s.Close)) (λ _. reads_pure arguments))))

  member : Reads (reader.◌>>◌ (reader.symbol s.PathPoint) (reader.◌>>=◌ (reader.one words.name_of)
      (λ name. reader.pure (behind.Member name)))) (rule.◌>>◌ (words.symbol s.PathPoint)
      (rule.◌>>=◌ (rule.one words.name_of) (λ name. rule.pure (behind.Member name))))
  member = reads_bind (reads_word (kind.Symbol s.PathPoint))
      (λ _. reads_bind reads_name (λ name. reads_pure (behind.Member name)))

  -- a "(" and what closes it, as a step
  grouped : (o : Bool) → Lives (grammar.step opens ir) → (IsTrue o
      → Reads (spec.opened_group opens ip) (grammar.group opens ir))
      → Reads (reader.◌>>=◌ (reader.gate o (spec.opened_group opens ip))
      (λ arguments. reader.pure (behind.Group arguments))) (grammar.step opens ir)
  grouped true lives reads = reads_wider (λ _ _ h. inr h) (reads_bind (reads refl)
      (λ arguments. reads_pure (behind.Group arguments)))
  grouped false lives reads = record {
    meets = λ tokens. record {
      front = [];
      split = refl;
      more = lives.tokens;
      thing = lives.thing;
      goes_on = lives.spells;
      again = λ more _. refl;
    };
    lives = lives;
  }

  pub lives_step : Lives (grammar.step opens ir)
  lives_step = record { tokens = member.lives.tokens; thing = member.lives.thing; spells = inl member.lives.spells }

  pub reads_step : Reads (spec.step opens ip) (grammar.step opens ir)
  reads_step = reads_both (reader.sees (kind.Symbol s.PathPoint)) (reads_wider (λ _ _ h. inl h) member)
      (grouped opens lives_step reads_opened_group)

  pub full_step : NoEmpty (grammar.step opens ir)
  full_step front x (inl h) = full_bind _ _ (full_word (kind.Symbol s.PathPoint)) front x h
  full_step front x (inr h) = full_bind _ _ (λ f y g. full_bind _ _ (full_word (kind.Symbol s.Open)) f y g.1) front x h

  pub reads_steps : Reads (spec.steps opens ip) (rule.many (grammar.step opens ir))
  reads_steps = reads_many spec.goes_on_path reads_step full_step refl

  pub reads_path : Reads (spec.path opens ip) (grammar.path opens ir)
  reads_path = reads_bind reads_path_head (λ head. reads_bind reads_steps (λ steps. reads_pure (path_of head steps)))

  pub lives_primary : Lives (grammar.primary opens ir)
  lives_primary = record {
    tokens = reads_literal.lives.tokens;
    thing = reads_literal.lives.thing;
    spells = inl reads_literal.lives.spells;
  }

  leaf_primary : (front : Tokens) (x : Expression) → leaf front x → grammar.primary opens ir front x
  leaf_primary front x (inl h) = inl h
  leaf_primary front x (inr (inl h)) = inr (inl h)
  leaf_primary front x (inr (inr h)) = inr (inr (inl h))

  pub reads_primary : Reads (spec.primary opens ip) (grammar.primary opens ir)
  reads_primary = reads_both spec.sees_leaf (reads_wider leaf_primary reads_leaf)
      (reads_both (reader.sees (kind.Symbol s.Open))
      (reads_gate opens lives_primary (λ _ _ h. inr (inr (inr (inr (inl h))))) (λ is.
      reads_bind (reads_word (kind.Symbol s.Open)) (λ _. reads_bind (inner.expression is)
      (λ x. reads_bind (reads_word (kind.Symbol s.Close)) (λ _. reads_pure (e.Parenthesis x))))))
      (reads_both (reader.sees (kind.Symbol s.Minus))
      (reads_gate opens lives_primary (λ _ _ h. inr (inr (inr (inr (inr h))))) (λ is.
      reads_bind (reads_word (kind.Symbol s.Minus)) (λ _. reads_bind (inner.primary is)
      (λ x. reads_pure (e.Negative x)))))
      (reads_wider (λ _ _ h. inr (inr (inr (inl h))))
      (reads_bind reads_path (λ found. reads_pure (e.Path found))))))

  pub reads_negation : {p : Reader Expression} {r : Rule Expression} → Reads p r
      → Reads (spec.negation opens ip p) (grammar.negation opens ir r)
  reads_negation {p} {r} reads = let lives : Lives (grammar.negation opens ir r) = record {
    tokens =
        reads.lives.tokens;
    thing = reads.lives.thing;
    spells = inr reads.lives.spells;
  } in
      reads_both (reader.sees (kind.Keyword k.Not))
      (reads_gate opens lives (λ _ _ h. inl h) (λ is. reads_bind (reads_word (kind.Keyword k.Not))
      (λ _. reads_bind (inner.negated is) (λ x. reads_pure (e.Not x)))))
      (reads_wider (λ _ _ h. inr h) reads)

  reads_level : (level : ℕ) {p : Reader Expression} {r : Rule Expression} (is_not : Bool) → (is_not ≡ false
      → Operator level) → Reads p r
      → Reads (spec.one_level opens ip is_not level p) (grammar.one_level opens ir is_not level r)
  reads_level level true has reads = reads_negation reads
  reads_level level false has reads = reads_chained level (has refl) reads

  pub reads_operators : (level : ℕ) → level ≤ 12
      → Reads (spec.operators opens ip level) (grammar.operators opens ir level)
  reads_operators zero h = reads_primary
  reads_operators (suc level) h = reads_level (suc level) (suc level == not_level)
      (operator_of_level level (omega arith)) (reads_operators level (omega arith))

-- nothing is inside where nothing opens
pub closed_inner : (p : spec.Inside) (r : grammar.Inside) → Inner false p r
closed_inner p r = record { primary = λ is. absurd cc; negated = λ is. absurd cc; expression = λ is. absurd cc }

-- the readers of a place, by those of the place inside
here : (opens : Bool) (ip : spec.Inside) (ir : grammar.Inside) → Inner opens ip ir
    → Inner true (spec.readers_here opens ip) (grammar.rules_here opens ir)
here opens ip ir inner = record {
  primary = λ _. reads_primary opens ip ir inner;
  negated = λ _. reads_operators opens ip ir inner 7 (omega arith);
  expression = λ _. reads_operators opens ip ir inner 12 (omega arith);
}

-- where this many more constructs may open
pub expressions_read : (depth : ℕ) → Inner true (spec.expressions depth) (grammar.expressions depth)
expressions_read zero = here false _ _ (closed_inner spec.closed grammar.closed)
expressions_read (suc depth) = here true _ _ (expressions_read depth)
