-- What may stand behind an expression, and the operands and operators that no construct holds.
use Rattle.std.proofs.Common.{◌≡◌, ℕ, suc, ◌<◌, ◌≤◌, ◌==◌, ◌||◌, inl, inr, Bool, true, false, IsTrue, []}
use Rattle.std.proofs.Common.{◌∷◌, ◌++◌, Some, refl, sym, ap, ◌∙◌, append-nil, subst, arith}
use Rattle.std.proofs.lemmas.Bool.{eq-eqb, eqb-true}
use Rattle.vb_value.specs.declared.operator.Op2.{Op2}
use Rattle.vb_value.specs.declared.token.Keyword.TheVariants as k
use Rattle.vb_value.specs.declared.token.Symbol.TheVariants as s
use Rattle.vb_value.specs.declared.token.Token.{Token}
use Rattle.vb_value.specs.declared.token.TokenKind.TheVariants as kind
use Rattle.vb_syntax.specs.declared.expression.Expression.{Expression}
use Rattle.vb_syntax.specs.declared.expression.Expression.TheVariants as e
use Rattle.vb_syntax.specs.declared.expression.Operation.{Operation}
use Rattle.vb_syntax.specs.declared.expression.PathHead.{PathHead}
use Rattle.vb_syntax.specs.declared.expression.PathHead.TheVariants as head
use Rattle.vb_syntax.specs.grammar.Rules.{Tokens, Rule}
use Rattle.vb_syntax.specs.grammar.Rules as rule
use Rattle.vb_syntax.specs.grammar.Words as words
use Rattle.vb_syntax.specs.grammar.Words.{tag, name_of, literal_of, literal_of_kind}
use Rattle.vb_syntax.specs.grammar.Expressions as grammar
use Rattle.vb_syntax.specs.grammar.Expressions.{operator_of, operator_at, operation, chain, path_of, not_level}
use Rattle.vb_read.specs.Reader.{Reader, Look, next, sees, passes, is_some}
use Rattle.vb_read.specs.ReadExpressions as spec
use Rattle.vb_read.specs.ReadExpressions.{goes_on_path}
use Rattle.vb_read.proofs.Reading.{Reads, moves, reads_bind, reads_word, full_bind, full_word}
use Rattle.vb_read.proofs.Taking.{Follow, Any, Takes, takes_pure, takes_one, takes_bind}
use Rattle.vb_read.proofs.Taking.{takes_many, takes_case, before_many, only}
use Rattle.vb_read.proofs.Beginning.{HeadIn, Begins, begins_wider, begins_bind, begins_or, begins_word}
use Rattle.vb_read.proofs.Beginning.{begins_name, has_at, differs, sees_true, sees_false, tag_is_literal}
use Rattle.vb_read.proofs.Beginning.{literal_tag, name_tag, tag_level, level_of, level_tag, other_level, this_level}
use Rattle.vb_read.proofs.ExpressionReading.{Operator}
use Rattle.vb_read.proofs.ExpressionReading.{reads_turn, full_turn, leaf}

-- ---- what may stand behind an expression

-- a path does not go on
abbrev pub PathEnds : Follow
PathEnds rest = goes_on_path (next rest) ≡ false

-- A path does not go on, nor do operators up to the level.
pub record Ends (level : ℕ) (rest : Tokens) : Type 0 where
  pub path : goes_on_path (next rest) ≡ false
  pub quiet : (n : ℕ) → 0 < n → n ≤ level → passes (operator_at n) (next rest) ≡ false

pub ends_less : (n m : ℕ) → n ≤ m → (rest : Tokens) → Ends m rest → Ends n rest
ends_less n m h rest ends = record { path = ends.path; quiet = λ l some less. ends.quiet l some (omega arith) }

pub positive_differs : (n : ℕ) → 0 < n → (0 == n) ≡ false
positive_differs n h = go (0 == n) refl
  where
    go : (b : Bool) → (0 == n) ≡ b → (0 == n) ≡ false
    go true is = let same : 0 ≡ n = eqb-true 0 n is in absurd (omega arith)
    go false is = is

-- a token of the number ends an expression
pub ends_at : (m level : ℕ) → (m == tag (kind.Symbol s.PathPoint)) ≡ false
    → (m == tag (kind.Symbol s.Open)) ≡ false → tag_level m ≡ 0 → (front rest : Tokens)
    → HeadIn (λ n. n == m) front → Ends level (front ++ rest)
ends_at m level point paren none front rest w =
    let is : tag w.0.kind ≡ m = eqb-true _ _ w.3 in
    rw w.2 (record {
      path = rw (is, point, paren) refl;
      quiet = λ n some less. other_level n (operator_of w.0.kind) (ap (λ l. l == n) (level_tag w.0.kind
          ∙ ap tag_level is ∙ none) ∙ positive_differs n some);
    })

abbrev pub ListEnds : Follow
ListEnds rest = Ends 12 rest × (sees (kind.Symbol s.Comma) (next rest) ≡ false)

comma_ends : (level : ℕ) {r : Rule Expression} (front rest : Tokens) (x : Expression)
    → rule.◌>>◌ (words.symbol s.Comma) r front x → Ends level (front ++ rest)
comma_ends level front rest x h = ends_at (tag (kind.Symbol s.Comma)) level refl refl refl front rest
    ((begins_bind (begins_word (kind.Symbol s.Comma))).head front x h)

pub takes_list_of : {p : Reader Expression} {r : Rule Expression} → Reads p r → Takes p r (Ends 12)
    → Takes (spec.list_of p) (words.list_of r) ListEnds
takes_list_of {p} {r} reads takes = takes_bind takes
    (λ first. takes_bind
    (takes_many (sees (kind.Symbol s.Comma)) (takes_bind (takes_one _ Any) (λ _. takes) (λ _ _ _ _ _ _. tt))
    (moves _ _ (reads_bind (reads_word (kind.Symbol s.Comma)) (λ _. reads))
    (full_bind _ _ (full_word (kind.Symbol s.Comma))))
    refl
    (λ front rest x h. sees_true (kind.Symbol s.Comma) front rest ((begins_bind (begins_word (kind.Symbol
    s.Comma))).head front x h))
    (comma_ends 12)
    (λ rest ok. ok))
    (λ more. takes_pure (first ∷ more) ListEnds)
    (λ more y back rest h ok. rw h.0 ok))
    (λ first y back rest h ok. before_many _ (Ends 12) h.thing back rest (only _ _ back y h) ok.0 (comma_ends 12))

-- ---- words that are operands by themselves

pub begins_literal : Begins tag_is_literal (rule.one literal_of)
begins_literal = record {
  head = λ front x h. (
    h.token,
    [],
    h.alone,
    sym (literal_tag h.token.kind)
        ∙ ap is_some h.passes,
  );
}

-- what the next token is asked has one answer, whatever the rule spells
pub answer : {A : Type 0} (look : Look) (b : Bool) {f : ℕ → Bool} {r : Rule A} → Begins f r
    → ((token : Token) → f (tag token.kind) ≡ true → look (Some token) ≡ b) → (front rest : Tokens) (x : A)
    → r front x → look (next (front ++ rest)) ≡ b
answer look b begins fact front rest x h = let w = begins.head front x h in rw w.2 (fact w.0 w.3)

pub or_right : (a b : Bool) → b ≡ true → (a || b) ≡ true
or_right true b e = refl
or_right false b e = e

pub or_left : (a b : Bool) → a ≡ true → (a || b) ≡ true
or_left a b e = rw e refl

-- the numbers of the tokens that begin a leaf
abbrev pub tag_is_leaf : ℕ → Bool
tag_is_leaf n = tag_is_literal n || (n == tag (kind.Keyword k.Nothing) || n == tag (kind.Keyword k.New))

pub leaf_tag : (token : Token) → spec.sees_leaf (Some token) ≡ tag_is_leaf (tag token.kind)
leaf_tag token = rw (literal_tag token.kind) refl

-- a word of the number is asked
pub at_word : (f : ℕ → Bool) (m : ℕ) (b : Bool) → f m ≡ b → (n : ℕ) → (n == m) ≡ true → f n ≡ b
at_word f m b is n e = ap f (eqb-true n m e) ∙ is

pub begins_leaf : Begins tag_is_leaf leaf
begins_leaf = begins_or (begins_wider (λ n e. or_left _ _ e) (begins_bind begins_literal))
    (begins_or (begins_wider (has_at tag_is_leaf (tag (kind.Keyword k.Nothing)) refl)
    (begins_bind (begins_word (kind.Keyword k.Nothing))))
    (begins_wider (has_at tag_is_leaf (tag (kind.Keyword k.New)) refl)
    (begins_bind (begins_word (kind.Keyword k.New)))))

pub takes_leaf : Takes spec.leaf leaf Any
takes_leaf = takes_case (passes literal_of)
    (takes_bind (takes_one _ Any) (λ found. takes_pure (e.Literal found) Any) (λ _ _ _ _ _ _. tt))
    (takes_case (sees (kind.Keyword k.Nothing))
    (takes_bind (takes_one _ Any) (λ _. takes_pure e.Nothing Any) (λ _ _ _ _ _ _. tt))
    (takes_bind (takes_one _ Any) (λ _. takes_bind (takes_one _ Any)
    (λ class. takes_pure (e.New class) Any) (λ _ _ _ _ _ _. tt)) (λ _ _ _ _ _ _. tt))
    (λ front rest x h ok. sees_true (kind.Keyword k.Nothing) front rest ((begins_bind (begins_word
    (kind.Keyword k.Nothing))).head front x h))
    (λ front rest x h ok. sees_false (λ n. n == tag (kind.Keyword k.New))
    (kind.Keyword k.Nothing) front rest ((begins_bind (begins_word (kind.Keyword k.New))).head front x
    h) refl))
    (λ front rest x h ok. answer (passes literal_of) true (begins_bind begins_literal)
    (λ token e. literal_tag token.kind ∙ e) front rest x h)
    other
  where
    none : (token : Token) (m : ℕ) → tag_is_literal m ≡ false → (tag token.kind == m) ≡ true
        → passes literal_of (Some token) ≡ false
    none token m not e = literal_tag token.kind ∙ at_word tag_is_literal m false not (tag token.kind) e

    other : (front rest : Tokens) (x : Expression) → rule.◌or◌ grammar.nothing grammar.new front x
        → Any rest → passes literal_of (next (front ++ rest)) ≡ false
    other front rest x (inl h) ok = answer (passes literal_of) false (begins_bind (begins_word (kind.Keyword
        k.Nothing))) (λ token e. none token (tag (kind.Keyword k.Nothing)) refl e) front rest x h
    other front rest x (inr h) ok = answer (passes literal_of) false (begins_bind (begins_word (kind.Keyword
        k.New))) (λ token e. none token (tag (kind.Keyword k.New)) refl e) front rest x h

-- ---- paths

abbrev pub tag_is_path : ℕ → Bool
tag_is_path n = n == tag (kind.Name [] false) || (n == tag (kind.Keyword k.Me) || n == tag (kind.Symbol s.WithPoint))

pub begins_path_head : Begins tag_is_path grammar.path_head
begins_path_head = begins_or
    (begins_wider (has_at tag_is_path (tag (kind.Name [] false)) refl) (begins_bind begins_name))
    (begins_or (begins_wider (has_at tag_is_path (tag (kind.Keyword k.Me)) refl)
    (begins_bind (begins_word (kind.Keyword k.Me))))
    (begins_wider (has_at tag_is_path (tag (kind.Symbol s.WithPoint)) refl)
    (begins_bind (begins_word (kind.Symbol s.WithPoint)))))

pub takes_path_head : Takes spec.path_head grammar.path_head Any
takes_path_head = takes_case (passes name_of)
    (takes_bind (takes_one _ Any) (λ name. takes_pure (head.Name name) Any) (λ _ _ _ _ _ _. tt))
    (takes_case (sees (kind.Keyword k.Me))
    (takes_bind (takes_one _ Any) (λ _. takes_pure head.Me Any) (λ _ _ _ _ _ _. tt))
    (takes_bind (takes_one _ Any) (λ _. takes_bind (takes_one _ Any)
    (λ name. takes_pure (head.With name) Any) (λ _ _ _ _ _ _. tt)) (λ _ _ _ _ _ _. tt))
    (λ front rest x h ok. sees_true (kind.Keyword k.Me) front rest ((begins_bind (begins_word (kind.Keyword
    k.Me))).head front x h))
    (λ front rest x h ok. sees_false (λ n. n == tag (kind.Symbol s.WithPoint))
    (kind.Keyword k.Me) front rest ((begins_bind (begins_word (kind.Symbol s.WithPoint))).head front x
    h) refl))
    (λ front rest x h ok. answer (passes name_of) true (begins_bind begins_name)
    (λ token e. name_tag token.kind ∙ e) front rest x h)
    other
  where
    other : (front rest : Tokens) (x : PathHead)
        → rule.◌or◌ (rule.◌>>◌ (words.keyword k.Me) (rule.pure head.Me))
        (rule.◌>>◌ (words.symbol s.WithPoint) (rule.◌>>=◌ (rule.one name_of)
        (λ name. rule.pure (head.With name)))) front x → Any rest
        → passes name_of (next (front ++ rest)) ≡ false
    other front rest x (inl h) ok = answer (passes name_of) false (begins_bind (begins_word (kind.Keyword
        k.Me))) (λ token e. name_tag token.kind
        ∙ at_word (λ n. n == tag (kind.Name [] false)) (tag (kind.Keyword k.Me)) false refl (tag token.kind) e)
        front rest x h
    other front rest x (inr h) ok = answer (passes name_of) false (begins_bind (begins_word (kind.Symbol
        s.WithPoint))) (λ token e. name_tag token.kind
        ∙ at_word (λ n. n == tag (kind.Name [] false)) (tag (kind.Symbol s.WithPoint)) false refl (tag token.kind) e)
        front rest x h

-- ---- what stands inside a construct

-- ")" comes next
abbrev pub ArgumentsEnd : Follow
ArgumentsEnd rest = HeadIn (λ n. n == tag (kind.Symbol s.Close)) rest

pub list_ends : (rest : Tokens) → ArgumentsEnd rest → ListEnds rest
list_ends rest w = (
  subst (λ t. Ends 12 t) (append-nil rest) (ends_at (tag (kind.Symbol s.Close)) 12 refl refl refl rest [] w),
  subst (λ t. sees (kind.Symbol s.Comma) (next t) ≡ false) (append-nil rest) (sees_false
      (λ n. n == tag (kind.Symbol s.Close)) (kind.Symbol s.Comma) rest [] w refl),
)

pub head_behind : (f : ℕ → Bool) (back rest : Tokens) → HeadIn f back → HeadIn f (back ++ rest)
head_behind f back rest w = (w.0, w.1 ++ rest, ap (λ t. t ++ rest) w.2, w.3)

abbrev pub tag_is_primary : ℕ → Bool
tag_is_primary n = tag_is_leaf n || (tag_is_path n || (n == tag (kind.Symbol s.Open) || n == tag (kind.Symbol s.Minus)))

abbrev pub tag_is_expression : ℕ → Bool
tag_is_expression n = n == tag (kind.Keyword k.Not) || tag_is_primary n

-- What is read inside is whatever is spelled there.
pub record Taken (opens : Bool) (p : spec.Inside) (r : grammar.Inside) : Type 0 where
  pub primary : IsTrue opens → Takes p.primary r.primary PathEnds
  pub negated : IsTrue opens → Takes p.negated r.negated (Ends 7)
  pub expression : IsTrue opens → Takes p.expression r.expression (Ends 12)
  pub begins : Begins tag_is_expression r.expression

nat_differs : (a b : ℕ) → b < a → (a == b) ≡ false
nat_differs a b h = go (a == b) refl
  where
    go : (c : Bool) → (a == b) ≡ c → (a == b) ≡ false
    go true is = let same : a ≡ b = eqb-true a b is in absurd (omega arith)
    go false is = is

-- an operator of a level ends what is tighter
operator_ends : (level : ℕ) (token : Token) (back : Tokens) (o : Op2)
    → operator_at (suc level) token ≡ Some o → Ends level (token ∷ back)
operator_ends level token back o is =
    let at : level_of (operator_of token.kind) ≡ suc level = this_level (suc level) (operator_of token.kind) o is in
    let by_tag : tag_level (tag token.kind) ≡ suc level = sym (level_tag token.kind) ∙ at in
    let has : (tag_level (tag token.kind) == suc level) ≡ true = rw by_tag (eq-eqb (suc level) (suc level) refl) in
    let none : (0 == suc level) ≡ false = positive_differs (suc level) (omega arith) in
    let point : (tag token.kind == tag (kind.Symbol s.PathPoint)) ≡ false = differs (λ n. tag_level n == suc level)
    (tag token.kind) (tag (kind.Symbol s.PathPoint)) has none in
    let paren : (tag token.kind == tag (kind.Symbol s.Open)) ≡ false = differs (λ n. tag_level n == suc level)
    (tag token.kind) (tag (kind.Symbol s.Open)) has none in
    record {
      path = rw (point, paren) refl;
      quiet = λ n some less. other_level n (operator_of token.kind) (ap (λ l. l == n) at
          ∙ nat_differs (suc level) n (omega arith));
    }

pub turn_ends : (level : ℕ) {r : Rule Expression} (front rest : Tokens) (x : Operation)
    → grammar.turn (suc level) r front x → Ends level (front ++ rest)
turn_ends level front rest x h = let first = h.first_spells in
    let split : front ++ rest ≡ first.token ∷ (h.back ++ rest) = ap (λ t. t ++ rest) (h.split
    ∙ ap (λ t. t ++ h.back) first.alone) in
    rw split (operator_ends level first.token (h.back ++ rest) h.thing first.passes)

pub turn_starts : (level : ℕ) {r : Rule Expression} (front rest : Tokens) (x : Operation)
    → grammar.turn level r front x → passes (operator_at level) (next (front ++ rest)) ≡ true
turn_starts level front rest x h = let first = h.first_spells in
    let split : front ++ rest ≡ first.token ∷ (h.back ++ rest) = ap (λ t. t ++ rest) (h.split
    ∙ ap (λ t. t ++ h.back) first.alone) in
    rw split (ap is_some first.passes)

pub takes_chained : (level : ℕ) {p : Reader Expression} {r : Rule Expression} → Operator (suc level)
    → Reads p r → Takes p r (Ends level)
    → Takes (spec.chained (suc level) p) (grammar.chained (suc level) r) (Ends (suc level))
takes_chained level {p} {r} has reads operand =
    let less : ((rest : Tokens) → Ends (suc level) rest
    → Ends level rest) = ends_less level (suc level) (omega arith) in
    takes_bind operand
    (λ first. takes_bind
    (takes_many (passes (operator_at (suc level))) {v = Ends (suc level)}
    (takes_bind (takes_one (operator_at (suc level)) Any)
    (λ o. takes_bind operand (λ x. takes_pure (operation o x) (Ends level))
    (λ x y back rest h ok. rw h.0 ok)) (λ _ _ _ _ _ _. tt))
    (moves _ _ (reads_turn (suc level) has reads) (full_turn (suc level) r))
    refl
    (turn_starts (suc level))
    (turn_ends level)
    (λ rest ok. (less rest ok, ok.quiet (suc level) (omega arith) (omega arith))))
    (λ more. takes_pure (chain first more) (Ends (suc level)))
    (λ more y back rest h ok. rw h.0 ok))
    (λ first y back rest h ok. before_many _ (Ends level) h.thing back rest (only _ _ back y h)
    (less rest ok) (turn_ends level))

pub takes_rule : {A : Type 0} {p : Reader A} {r s : Rule A} {u : Follow} → ((front : Tokens) (x : A)
    → r front x → s front x) → Takes p s u → Takes p r u
takes_rule wider t = record { takes = λ front rest x h ok. t.takes front rest x (wider front x h) ok }
