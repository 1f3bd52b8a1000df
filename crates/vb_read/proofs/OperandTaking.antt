-- An expression is its first operand and what stands behind it, which the reader takes where the operand is known.
use Rattle.std.proofs.Common.{◌≡◌, ℕ, zero, suc, ◌≤◌, ◌==◌, ◌⊎◌, inl, inr, Bool, true, false, List, [], ◌∷◌, ◌++◌}
use Rattle.std.proofs.Common.{refl, sym, ap, ◌∙◌, append_assoc, append-nil, subst, arith}
use Rattle.vb_value.specs.declared.token.Keyword.TheVariants as k
use Rattle.vb_value.specs.declared.token.Symbol.TheVariants as s
use Rattle.vb_value.specs.declared.token.TokenKind.TheVariants as kind
use Rattle.vb_syntax.specs.declared.expression.Expression.{Expression}
use Rattle.vb_syntax.specs.grammar.Rules.{Tokens, Rule}
use Rattle.vb_syntax.specs.grammar.Words.{tag}
use Rattle.vb_syntax.specs.grammar.Expressions as grammar
use Rattle.vb_syntax.specs.grammar.Expressions.{operator_at, operation, chain, not_level}
use Rattle.vb_read.specs.Reader.{Reader, passes}
use Rattle.vb_read.specs.ReadExpressions as read
use Rattle.vb_read.specs.ReadCalls as spec
use Rattle.vb_read.proofs.Reading.{Reads, moves}
use Rattle.vb_read.proofs.Taking.{Any, Takes, takes_pure, takes_one, takes_bind, takes_many, before_many, only}
use Rattle.vb_read.proofs.Beginning.{HeadIn}
use Rattle.vb_read.proofs.ExpressionReading.{Inner, Operator, reads_turn, full_turn, reads_operators}
use Rattle.vb_read.proofs.ExpressionReading.{operator_of_level}
use Rattle.vb_read.proofs.ExpressionEnds.{Ends, ends_less, turn_starts, turn_ends, Taken}
use Rattle.vb_read.proofs.ExpressionTaking.{takes_operators}
use Rattle.vb_read.proofs.OperandReading.{level_rest, rest_from}
use Rattle.vb_read.proofs.Tags.{among}
use Rattle.vb_read.proofs.Following.{BeginsIn, begins_then, begins_either, begins_more, begins_word_then}
use Rattle.vb_read.proofs.Following.{name_begins}
use Rattle.vb_read.proofs.Placing.{literal_heads, word_heads, path_heads}
use Rattle.vb_read.proofs.DeclarationTaking.{literal_begins}

-- ---- the rest is taken

module _ (o : Bool) (ip : read.Inside) (ir : grammar.Inside) where
  -- what is behind an operand of a level ends what is tighter
  level_ends : (is_not : Bool) (level : ℕ) (r : Rule Expression) (first x : Expression) (back rest : Tokens)
      → level_rest o ir is_not (suc level) r first back x → Ends (suc level) rest → Ends level (back ++ rest)
  level_ends true level r first x back rest h ok = rw h.0 (ends_less level (suc level) (omega arith) rest ok)
  level_ends false level r first x back rest h ok = before_many _ (Ends level) h.thing back rest (only _ _ back x h)
      (ends_less level (suc level) (omega arith) rest ok) (turn_ends level)

  -- what is behind an operand ends its path
  pub rest_ends : (level : ℕ) (first x : Expression) (back rest : Tokens) → rest_from o ir level first back x
      → Ends level rest → Ends 0 (back ++ rest)
  rest_ends zero first x back rest h ok = rw h.0 ok
  rest_ends (suc level) first x back rest h ok = rw (h.split, append_assoc h.front h.back rest)
      (rest_ends level first h.thing h.front (h.back ++ rest) h.first_spells
      (level_ends (suc level == not_level) level (grammar.operators o ir level) h.thing x h.back rest h.next_spells ok))

module _ (o : Bool) (ip : read.Inside) (ir : grammar.Inside) (inner : Inner o ip ir) (taken : Taken o ip ir) where
  takes_level_from : (is_not : Bool) (level : ℕ) {p : Reader Expression} {r : Rule Expression} (first : Expression)
      → (is_not ≡ false → Operator (suc level)) → Reads p r → Takes p r (Ends level)
      → Takes (spec.level_from o ip is_not (suc level) p first) (level_rest o ir is_not (suc level) r first) (Ends (suc
      level))
  takes_level_from true level first has reads operand = takes_pure first (Ends (suc level))
  takes_level_from false level {p} {r} first has reads operand = takes_bind
      (takes_many (passes (operator_at (suc level))) {v = Ends (suc level)}
      (takes_bind (takes_one (operator_at (suc level)) Any)
      (λ o. takes_bind operand (λ x. takes_pure (operation o x) (Ends level)) (λ x y back rest h ok. rw h.0 ok))
      (λ _ _ _ _ _ _. tt))
      (moves _ _ (reads_turn (suc level) (has refl) reads) (full_turn (suc level) r))
      refl
      (turn_starts (suc level))
      (turn_ends level)
      (λ rest ok. (
        ends_less level (suc level) (omega arith) rest ok,
        ok.quiet (suc level) (omega arith)
            (omega arith),
      )))
      (λ more. takes_pure (chain first more) (Ends (suc level)))
      (λ more y back rest h ok. rw h.0 ok)

  pub takes_operators_from : (level : ℕ) → level ≤ 12 → (first : Expression)
      → Takes (spec.operators_from o ip level first) (rest_from o ir level first) (Ends level)
  takes_operators_from zero h first = takes_pure first (Ends 0)
  takes_operators_from (suc level) h first = takes_bind (takes_operators_from level (omega arith) first)
      (λ found. takes_level_from (suc level == not_level) level found (operator_of_level level (omega arith))
      (reads_operators o ip ir inner level (omega arith)) (takes_operators o ip ir inner taken level (omega arith)))
      (λ found x back rest w ok. level_ends o ip ir (suc level == not_level) level
      (grammar.operators o ir level) found x
      back rest w ok)

-- ---- the first operand

-- the numbers of the tokens other than "(" that begin an expression
abbrev pub listed_heads : List ℕ
listed_heads = tag (kind.Keyword k.Not) ∷ (literal_heads ++ (word_heads ++ (path_heads ++ (tag (kind.Symbol s.Minus)
    ∷ []))))

path_head_begins : BeginsIn path_heads grammar.path_head
path_head_begins = begins_either (begins_then name_begins) (begins_either (begins_word_then (kind.Keyword k.Me))
    (begins_word_then (kind.Symbol s.WithPoint)))

module _ (o : Bool) (ir : grammar.Inside) where
  -- the first operand is a parenthesis
  pub record Held (level : ℕ) (front : Tokens) (x : Expression) : Type 0 where
    pub operand : Tokens
    pub rest : Tokens
    pub first : Expression
    pub is : grammar.parenthesis o ir operand first
    pub behind : rest_from o ir level first rest x
    pub split : front ≡ operand ++ rest

  abbrev First : ℕ → Tokens → Expression → Type 0
  First level front x = HeadIn (among listed_heads) front ⊎ Held level front x

  pub first_operand : (level : ℕ) (front : Tokens) (x : Expression) → grammar.operators o ir level front x
      → First level front x
  first_operand zero front x h = primary h
    where
      primary : grammar.primary o ir front x → First zero front x
      primary (inl w) = inl ((begins_more {m = listed_heads} refl (begins_then literal_begins)).head front x w)
      primary (inr (inl w)) = inl ((begins_more {m = listed_heads} refl (begins_word_then
          (kind.Keyword k.Nothing))).head front x w)
      primary (inr (inr (inl w))) = inl ((begins_more {m = listed_heads} refl (begins_word_then
          (kind.Keyword k.New))).head front x w)
      primary (inr (inr (inr (inl w)))) = inl ((begins_more {m = listed_heads} refl (begins_then
          (begins_then path_head_begins))).head front x w)
      primary (inr (inr (inr (inr (inl w))))) = inr (record {
        operand = front;
        rest = [];
        first = x;
        is = w;
        behind = (refl, refl);
        split = sym (append-nil front);
      })
      primary (inr (inr (inr (inr (inr w))))) = inl ((begins_more {m = listed_heads} refl (begins_word_then
          (kind.Symbol s.Minus))).head front x
          w.1)
  first_operand (suc level) front x h = go (λ tokens y w. first_operand level tokens y w)
      (suc level == not_level) h refl
    where
      extend : (tokens back : Tokens) (y : Expression) → front ≡ tokens ++ back → First level tokens y
          → level_rest o ir (suc level == not_level) (suc level) (grammar.operators o ir level) y back x
          → First (suc level) front x
      extend tokens back y split (inl w) h = inl (
        w.0,
        w.1 ++ back,
        split ∙ ap (λ t. t ++ back) w.2,
        w.3,
      )
      extend tokens back y split (inr f) h = inr (record {
        operand = f.operand;
        rest = f.rest ++ back;
        first = f.first;
        is = f.is;
        behind = record {
          front = f.rest;
          back = back;
          thing = y;
          split = refl;
          first_spells = f.behind;
          next_spells = h;
        };
        split = split ∙ ap (λ t. t ++ back) f.split ∙ append_assoc f.operand f.rest back;
      })

      go : ((tokens : Tokens) (y : Expression) → grammar.operators o ir level tokens y → First level tokens y)
          → (is_not : Bool) → grammar.one_level o ir is_not (suc level) (grammar.operators o ir level) front x
          → (suc level == not_level) ≡ is_not → First (suc level) front x
      go later true (inl w) is = inl ((begins_more {m = listed_heads} refl (begins_word_then
          (kind.Keyword k.Not))).head front x w.1)
      go later true (inr w) is = extend front [] x (sym (append-nil front)) (later front x w)
          (subst (λ b. level_rest o ir b (suc level) (grammar.operators o ir level) x [] x) (sym is) (refl, refl))
      go later false w is = extend w.front w.back w.thing w.split (later w.front w.thing w.first_spells)
          (subst (λ b. level_rest o ir b (suc level) (grammar.operators o ir level) w.thing w.back x)
          (sym is) w.next_spells)
