-- An expression of which the first operand is known, and what a parenthesis at the end of a path may be else.
use Rattle.std.proofs.Common.{◌≡◌, ℕ, zero, suc, ◌≤◌, ◌==◌, inl, inr, Bool, true, false, List, [], ◌∷◌, ◌++◌, refl, sym}
use Rattle.std.proofs.Common.{ap, ◌∙◌, append_assoc, append-nil, subst, arith}
use Rattle.vb_value.specs.declared.token.Symbol.TheVariants as s
use Rattle.vb_syntax.specs.declared.expression.Expression.{Expression}
use Rattle.vb_syntax.specs.declared.expression.Expression.TheVariants as e
use Rattle.vb_syntax.specs.grammar.Rules.{Tokens, Rule}
use Rattle.vb_syntax.specs.grammar.Rules as rule
use Rattle.vb_syntax.specs.grammar.Words as words
use Rattle.vb_syntax.specs.grammar.Expressions as expressions
use Rattle.vb_syntax.specs.grammar.Expressions.{chain, path_of, not_level, last_level}
use Rattle.vb_read.specs.Reader.{Reader, Look, next}
use Rattle.vb_read.specs.Reader as reader
use Rattle.vb_read.specs.ReadExpressions as read
use Rattle.vb_read.specs.ReadExpressions.{goes_on_path}
use Rattle.vb_read.specs.ReadCalls as spec
use Rattle.vb_read.specs.ReadCalls.{Tail, plain, grouped, tail}
use Rattle.vb_read.proofs.Reading.{Reads, reads_pure, reads_bind, reads_many}
use Rattle.vb_read.proofs.ExpressionReading.{Inner, Operator, reads_turn, full_turn, reads_operators}
use Rattle.vb_read.proofs.ExpressionReading.{operator_of_level}

-- ---- an expression of which the first operand is known

module _ (o : Bool) (ir : expressions.Inside) where
  -- the operators of one level behind it
  abbrev pub level_rest : Bool → ℕ → Rule Expression → Expression → Rule Expression
  level_rest true level operand first = rule.pure first
  level_rest false level operand first = rule.◌>>=◌ (rule.many (expressions.turn level operand))
      (λ more. rule.pure (chain first more))

  -- the operators up to a level behind it
  abbrev pub rest_from : ℕ → Expression → Rule Expression
  rest_from zero first = rule.pure first
  rest_from (suc level) first = rule.◌>>=◌ (rest_from level first)
      (level_rest (suc level == not_level) (suc level) (expressions.operators o ir level))

  level_made : (is_not : Bool) (level : ℕ) (tight : Rule Expression) (front back : Tokens) (first x : Expression)
      → tight front first → level_rest is_not level tight first back x
      → expressions.one_level o ir is_not level tight (front ++ back) x
  level_made true level tight front back first x is h =
      inr (subst (λ t. tight t x) (sym (ap (λ t. front ++ t) h.0 ∙ append-nil front)) (subst (λ y. tight front y)
      (sym h.1) is))
  level_made false level tight front back first x is h = record {
    front = front;
    back = back;
    thing = first;
    split = refl;
    first_spells = is;
    next_spells = h;
  }

  -- the operand and what stands behind it are an expression
  pub from_operand : (level : ℕ) (front back : Tokens) (first x : Expression) → expressions.primary o ir front first
      → rest_from level first back x → expressions.operators o ir level (front ++ back) x
  from_operand zero front back first x is h =
      subst (λ t. expressions.primary o ir t x) (sym (ap (λ t. front ++ t) h.0 ∙ append-nil front)) (subst (λ y.
      expressions.primary o ir front y) (sym h.1) is)
  from_operand (suc level) front back first x is h =
      subst (λ t. expressions.operators o ir (suc level) t x) (append_assoc front h.front h.back
      ∙ ap (λ t. front ++ t) (sym h.split))
      (level_made (suc level == not_level) (suc level) (expressions.operators o ir level) (front ++ h.front) h.back
      h.thing x (from_operand level front h.front first h.thing is h.first_spells) h.next_spells)

  -- nothing more stands behind it
  pub nothing_more : (level : ℕ) (first : Expression) → rest_from level first [] first
  nothing_more zero first = (refl, refl)
  nothing_more (suc level) first = record {
    front = [];
    back = [];
    thing = first;
    split = refl;
    first_spells = nothing_more level first;
    next_spells = none (suc level == not_level);
  }
    where
      none : (is_not : Bool) → level_rest is_not (suc level) (expressions.operators o ir level) first [] first
      none true = (refl, refl)
      none false = record {
        front = [];
        back = [];
        thing = [];
        split = refl;
        first_spells = refl;
        next_spells = (refl, refl);
      }

module _ (o : Bool) (ip : read.Inside) (ir : expressions.Inside) (inner : Inner o ip ir) where
  reads_level_from : (is_not : Bool) (level : ℕ) {p : Reader Expression} {r : Rule Expression} (first : Expression)
      → (is_not ≡ false → Operator level) → Reads p r
      → Reads (spec.level_from o ip is_not level p first) (level_rest o ir is_not level r first)
  reads_level_from true level first has reads = reads_pure first
  reads_level_from false level {p} {r} first has reads = reads_bind
      (reads_many (reader.passes (expressions.operator_at level)) (reads_turn level (has refl) reads)
      (full_turn level r)
      refl)
      (λ more. reads_pure (chain first more))

  pub reads_operators_from : (level : ℕ) → level ≤ 12 → (first : Expression)
      → Reads (spec.operators_from o ip level first) (rest_from o ir level first)
  reads_operators_from zero h first = reads_pure first
  reads_operators_from (suc level) h first = reads_bind (reads_operators_from level (omega arith) first)
      (λ found. reads_level_from (suc level == not_level) (suc level) found (operator_of_level level (omega arith))
      (reads_operators o ip ir inner level (omega arith)))

-- ---- a parenthesis at the end of a path

module _ (o : Bool) (ir : expressions.Inside) where
  one_in_list : (front : Tokens) (x : Expression) → words.list_of ir.expression front (x ∷ []) → ir.expression front x
  one_in_list front x h = go h.next_spells.thing h.next_spells.first_spells h.next_spells.next_spells
    where
      go : (more : List Expression) → rule.many (rule.◌>>◌ (words.symbol s.Comma) ir.expression) h.next_spells.front
          more
          → rule.pure (h.thing ∷ more) h.next_spells.back (x ∷ []) → ir.expression front x
      go [] none is = let same : x ≡ h.thing = cc in
          let whole : front ≡ h.front = h.split ∙ ap (λ t. h.front ++ t) (h.next_spells.split
          ∙ ap (λ t. t ++ h.next_spells.back) none ∙ is.0) ∙ append-nil h.front in
          rw (whole, same) h.first_spells
      go (y ∷ more) _ is = absurd cc

  -- with one expression in it it is an operand
  pub one_held : (front : Tokens) (x : Expression) → expressions.group o ir front (x ∷ [])
      → expressions.primary o ir front (e.Parenthesis x)
  one_held front x h = inr (inr (inr (inr (inl (h.0, made)))))
    where
      inside : (held : List Expression) → held ≡ x ∷ []
          → rule.◌or◌ (rule.pure []) (words.list_of ir.expression) h.1.next_spells.front held
          → words.list_of ir.expression h.1.next_spells.front (x ∷ [])
      inside held same (inl w) = absurd (let no : [] ≡ x ∷ [] = sym w.1 ∙ same in cc)
      inside held same (inr w) = subst (λ l. words.list_of ir.expression h.1.next_spells.front l) same w

      made : rule.◌>>◌ (words.symbol s.Open) (rule.◌>>=◌ ir.expression (λ y. rule.◌>>◌ (words.symbol s.Close)
          (rule.pure (e.Parenthesis y)))) front (e.Parenthesis x)
      made = let g = h.1.next_spells in record {
        front = h.1.front;
        back = h.1.back;
        thing = h.1.thing;
        split = h.1.split;
        first_spells = h.1.first_spells;
        next_spells = record {
          front = g.front;
          back = g.back;
          thing = x;
          split = g.split;
          first_spells = one_in_list g.front x (inside g.thing (sym g.next_spells.next_spells.1) g.first_spells);
          next_spells = record {
            front = g.next_spells.front;
            back = g.next_spells.back;
            thing = g.next_spells.thing;
            split = g.next_spells.split;
            first_spells = g.next_spells.first_spells;
            next_spells = (g.next_spells.next_spells.0, refl);
          };
        };
      }

  -- with nothing in it
  abbrev pub empty_pair : Rule (List Expression)
  empty_pair = rule.◌>>◌ (words.symbol s.Open) (rule.◌>>◌ (words.symbol s.Close) (rule.pure []))

  pub none_held : (front : Tokens) → expressions.group o ir front [] → empty_pair front []
  none_held front h = let g = h.1.next_spells in record {
    front = h.1.front;
    back = h.1.back;
    thing = h.1.thing;
    split = h.1.split;
    first_spells = h.1.first_spells;
    next_spells = record {
      front = g.next_spells.front;
      back = g.next_spells.back;
      thing = g.next_spells.thing;
      split = g.split ∙ ap (λ t. t ++ g.back) (inside g.thing (sym g.next_spells.next_spells.1) g.first_spells)
          ∙ g.next_spells.split;
      first_spells = g.next_spells.first_spells;
      next_spells = (g.next_spells.next_spells.0, refl);
    };
  }
    where
      inside : (held : List Expression) → held ≡ []
          → rule.◌or◌ (rule.pure []) (words.list_of ir.expression) h.1.next_spells.front held
          → h.1.next_spells.front ≡ []
      inside held same (inl w) = w.0
      inside held same (inr w) = absurd (let no : w.thing ∷ w.next_spells.thing ≡ [] =
          sym w.next_spells.next_spells.1 ∙ same in cc)

  several_in_list : (front : Tokens) (x y : Expression) (more : List Expression)
      → words.list_of ir.expression front (x ∷ y ∷ more)
      → rule.◌>>=◌ ir.expression (λ first. rule.◌>>◌ (words.symbol s.Comma) (rule.◌>>=◌ (words.list_of ir.expression)
      (λ rest. rule.pure (first ∷ rest)))) front (x ∷ y ∷ more)
  several_in_list front x y more h = go h.next_spells.thing h.next_spells.first_spells h.next_spells.next_spells
    where
      go : (rest : List Expression) → rule.many (rule.◌>>◌ (words.symbol s.Comma) ir.expression) h.next_spells.front
          rest
          → rule.pure (h.thing ∷ rest) h.next_spells.back (x ∷ y ∷ more)
          → rule.◌>>=◌ ir.expression (λ first. rule.◌>>◌ (words.symbol s.Comma) (rule.◌>>=◌ (words.list_of
          ir.expression) (λ rest. rule.pure (first ∷ rest)))) front (x ∷ y ∷ more)
      go [] none is = absurd cc
      go (z ∷ rest) w is = let c = w.first in
          subst (λ l. rule.◌>>=◌ ir.expression (λ first. rule.◌>>◌ (words.symbol s.Comma) (rule.◌>>=◌ (words.list_of
          ir.expression) (λ rest. rule.pure (first ∷ rest)))) front l) (sym is.1) (record {
            front = h.front;
            back = h.back;
            thing = h.thing;
            split = h.split;
            first_spells = h.first_spells;
            next_spells = record {
              front = c.front;
              back = c.back ++ w.back;
              thing = c.thing;
              split = h.next_spells.split ∙ ap (λ t. h.next_spells.front ++ t) is.0 ∙ append-nil h.next_spells.front
                  ∙ w.split ∙ ap (λ t. t ++ w.back) c.split ∙ append_assoc c.front c.back w.back;
              first_spells = c.first_spells;
              next_spells = record {
                front = c.back ++ w.back;
                back = [];
                thing = z ∷ rest;
                split = sym (append-nil (c.back ++ w.back));
                first_spells = record {
                  front = c.back;
                  back = w.back;
                  thing = z;
                  split = refl;
                  first_spells = c.next_spells;
                  next_spells = record {
                    front = w.back;
                    back = [];
                    thing = rest;
                    split = sym (append-nil w.back);
                    first_spells = w.second;
                    next_spells = (refl, refl);
                  };
                };
                next_spells = (refl, refl);
              };
            };
          })

  -- with several expressions in it
  pub several_held : (front : Tokens) (x y : Expression) (more : List Expression)
      → expressions.group o ir front (x ∷ y ∷ more)
      → rule.◌>>◌ (words.symbol s.Open) (rule.◌>>=◌ ir.expression (λ first. rule.◌>>◌ (words.symbol s.Comma)
      (rule.◌>>=◌ (words.list_of ir.expression) (λ rest. rule.◌>>◌ (words.symbol s.Close) (rule.pure (first ∷ rest))))))
      front (x ∷ y ∷ more)
  several_held front x y more h = let g = h.1.next_spells in record {
    front = h.1.front;
    back = h.1.back;
    thing = h.1.thing;
    split = h.1.split;
    first_spells = h.1.first_spells;
    next_spells = whole (several_in_list g.front x y more (inside g.thing (sym g.next_spells.next_spells.1)
        g.first_spells));
  }
    where
      inside : (held : List Expression) → held ≡ x ∷ y ∷ more
          → rule.◌or◌ (rule.pure []) (words.list_of ir.expression) h.1.next_spells.front held
          → words.list_of ir.expression h.1.next_spells.front (x ∷ y ∷ more)
      inside held same (inl w) = absurd (let no : [] ≡ x ∷ y ∷ more = sym w.1 ∙ same in cc)
      inside held same (inr w) = subst (λ l. words.list_of ir.expression h.1.next_spells.front l) same w

      whole : rule.◌>>=◌ ir.expression (λ first. rule.◌>>◌ (words.symbol s.Comma) (rule.◌>>=◌ (words.list_of
          ir.expression) (λ rest. rule.pure (first ∷ rest)))) h.1.next_spells.front (x ∷ y ∷ more)
          → rule.◌>>=◌ ir.expression (λ first. rule.◌>>◌ (words.symbol s.Comma) (rule.◌>>=◌ (words.list_of
          ir.expression) (λ rest. rule.◌>>◌ (words.symbol s.Close) (rule.pure (first ∷ rest))))) h.1.back (x ∷ y ∷ more)
      whole w = let g = h.1.next_spells in let c = w.next_spells in let l = c.next_spells in let close = g.next_spells
          in
          record {
            front = w.front;
            back = w.back ++ g.back;
            thing = w.thing;
            split = g.split ∙ ap (λ t. t ++ g.back) w.split ∙ append_assoc w.front w.back g.back;
            first_spells = w.first_spells;
            next_spells = record {
              front = c.front;
              back = c.back ++ g.back;
              thing = c.thing;
              split = ap (λ t. t ++ g.back) c.split ∙ append_assoc c.front c.back g.back;
              first_spells = c.first_spells;
              next_spells = record {
                front = l.front;
                back = g.back;
                thing = l.thing;
                split = ap (λ t. t ++ g.back) (l.split ∙ ap (λ t. l.front ++ t) l.next_spells.0 ∙ append-nil l.front);
                first_spells = l.first_spells;
                next_spells = record {
                  front = close.front;
                  back = close.back;
                  thing = close.thing;
                  split = close.split;
                  first_spells = close.first_spells;
                  next_spells = (close.next_spells.0, l.next_spells.1);
                };
              };
            };
          }
