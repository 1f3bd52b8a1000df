-- What stands behind a path: the reader reads the grammar's assignments and calls.
use Rattle.std.proofs.Common.{◌≡◌, ℕ, zero, suc, ◌||◌, inl, inr, Bool, true, false, IsTrue, List, [], ◌∷◌, ◌++◌, refl}
use Rattle.std.proofs.Common.{sym, ap, ◌∙◌, append_assoc, append-nil, subst, arith}
use Rattle.vb_value.specs.declared.token.Symbol.TheVariants as s
use Rattle.vb_value.specs.declared.token.TokenKind.TheVariants as kind
use Rattle.vb_syntax.specs.declared.expression.Expression.{Expression}
use Rattle.vb_syntax.specs.declared.expression.Expression.TheVariants as e
use Rattle.vb_syntax.specs.declared.expression.PathHead.{PathHead}
use Rattle.vb_syntax.specs.declared.expression.Step.{Step}
use Rattle.vb_syntax.specs.declared.statement.Statement.{Statement}
use Rattle.vb_syntax.specs.declared.statement.StatementKind.TheVariants as st
use Rattle.vb_syntax.specs.grammar.Rules.{Tokens, Rule}
use Rattle.vb_syntax.specs.grammar.Rules as rule
use Rattle.vb_syntax.specs.grammar.Words as words
use Rattle.vb_syntax.specs.grammar.Expressions as expressions
use Rattle.vb_syntax.specs.grammar.Expressions.{path_of}
use Rattle.vb_syntax.specs.grammar.Declarations as declarations
use Rattle.vb_syntax.specs.grammar.SimpleStatements as grammar
use Rattle.vb_syntax.specs.grammar.SimpleStatements.{Looser, ends_in_group, statement}
use Rattle.vb_read.specs.Reader.{Reader, Look, next}
use Rattle.vb_read.specs.Reader as reader
use Rattle.vb_read.specs.ReadExpressions as read
use Rattle.vb_read.specs.ReadExpressions.{goes_on_path}
use Rattle.vb_read.specs.ReadCalls as spec
use Rattle.vb_read.specs.ReadCalls.{Tail, plain, grouped, tail}
use Rattle.vb_read.specs.Depths.{opens, inside}
use Rattle.vb_read.proofs.Reading.{Reads, ReadsAt, Lives, wider_at, case_at, bind_at, lives_bind, reads_pure}
use Rattle.vb_read.proofs.Reading.{reads_refuse, reads_same, reads_wider, reads_bind, reads_choice, reads_many}
use Rattle.vb_read.proofs.Reading.{reads_word, full_bind, full_word}
use Rattle.vb_read.proofs.Taking.{only}
use Rattle.vb_read.proofs.Binding.{Within, bind_right}
use Rattle.vb_read.proofs.Guarding.{guarded, guard_at}
use Rattle.vb_read.proofs.ExpressionReading.{expressions_read, reads_list_of}
use Rattle.vb_read.proofs.ExpressionEnds.{PathEnds}
use Rattle.vb_read.proofs.OperandReading.{rest_from, from_operand, nothing_more, reads_operators_from, empty_pair}
use Rattle.vb_read.proofs.OperandReading.{one_held, none_held, several_held}
use Rattle.vb_read.proofs.PathReading.{Grouped, Tells, path_group, tail_tells, reads_path_at, path_stops}
use Rattle.vb_read.proofs.PathReading.{no_assignment}
use Rattle.vb_read.proofs.Turns.{rules_inside, inner_at}

-- ---- the same at a depth

pub operand_held : (depth : ℕ) (front : Tokens) (x : Expression) → path_group depth front (x ∷ [])
    → expressions.primary (opens depth) (rules_inside depth) front (e.Parenthesis x)
operand_held zero = one_held false expressions.closed
operand_held (suc depth) = one_held true (expressions.expressions depth)

pub pair_held : (depth : ℕ) (front : Tokens) → path_group depth front []
    → declarations.opened depth (λ within. empty_pair (opens depth) (rules_inside depth)) front []
pair_held zero front h = absurd (let no : false ≡ true = h.0 in cc)
pair_held (suc depth) front h = none_held true (expressions.expressions depth) front h

pub list_held : (depth : ℕ) (front : Tokens) (x y : Expression) (more : List Expression)
    → path_group depth front (x ∷ y ∷ more) → (looser : Looser) → grammar.several looser depth front (x ∷ y ∷ more)
list_held zero front x y more h looser = absurd (let no : false ≡ true = h.0 in cc)
list_held (suc depth) front x y more h looser = several_held true (expressions.expressions depth) front x y more h

pub expression_here : (depth : ℕ) → Within (expressions.operators (opens depth) (rules_inside depth) 12)
    (expressions.expressions depth).expression
expression_here zero front x h = h
expression_here (suc depth) front x h = h

pub or_false : (a b : Bool) → (a || b) ≡ false → (a ≡ false) × (b ≡ false)
or_false true b is = absurd cc
or_false false b is = (refl, is)

pub or_both : (a b : Bool) → a ≡ false → b ≡ false → (a || b) ≡ false
or_both a b p q = rw (p, q) refl

gate_open : {A : Type 0} (b : Bool) {p : Reader A} {r : Rule A} → b ≡ true → Reads p r
    → Reads (reader.gate b p) (rule.where_true b r)
gate_open true is reads = reads_wider (λ _ _ h. (refl, h)) reads
gate_open false is reads = absurd cc

-- "=", or what goes on with a path
abbrev pub goes_on_target : Look
goes_on_target token = goes_on_path token || reader.sees (kind.Symbol s.Equal) token

abbrev pub Target : Type 0
Target = ℕ × PathHead × List Step

module _ (looser : Looser) (depth : ℕ) where
  pub reads_here : Reads (spec.expression depth) (grammar.expression looser depth)
  reads_here = (expressions_read depth).expression refl

  -- ---- the rules of what stands behind a longest path

  abbrev pub value_behind : Rule Expression
  value_behind = rule.◌>>◌ (words.symbol s.Equal) (grammar.expression looser depth)

  abbrev pub assign_rest : Target → Rule Statement
  assign_rest target = rule.◌>>=◌ value_behind
      (λ value. rule.pure (statement target.0 (st.Assign (path_of target.1 target.2) value)))

  abbrev pub more_arguments : Rule (List Expression)
  more_arguments = rule.many (rule.◌>>◌ (words.symbol s.Comma) (grammar.expression looser depth))

  abbrev pub plain_arguments : Rule (List Expression)
  plain_arguments = rule.◌or◌ (words.list_of (grammar.expression looser depth)) (rule.pure [])

  abbrev pub held_arguments : List Expression → Rule (List Expression)
  held_arguments [] = rule.pure []
  held_arguments (held ∷ []) = rule.◌>>=◌ (rest_from (opens depth) (rules_inside depth) 12 (e.Parenthesis held))
      (λ first. rule.◌>>=◌ more_arguments (λ more. rule.pure (first ∷ more)))
  held_arguments (first ∷ next ∷ more) = rule.where_true looser.several (rule.pure (first ∷ next ∷ more))

  abbrev pub call_rest : Target → Tail → Rule Statement
  call_rest target plain = rule.◌>>=◌ plain_arguments
      (λ given. rule.pure (statement target.0 (st.Call (path_of target.1 target.2) given)))
  call_rest target (grouped front held) = rule.◌>>=◌ (held_arguments held)
      (λ given. rule.pure (statement target.0 (st.Call (path_of target.1 front) given)))

  abbrev pub rest_rule : Target → Rule Statement
  rest_rule target = rule.◌or◌ (assign_rest target) (guarded goes_on_target (call_rest target (tail target.2)))

  -- ---- they are read

  pub reads_value_behind : Reads (spec.value_behind depth) value_behind
  reads_value_behind = reads_bind (reads_word (kind.Symbol s.Equal)) (λ _. reads_here)

  abbrev assign_reader : Target → Reader Statement
  assign_reader target = reader.◌>>=◌ (spec.value_behind depth)
      (λ value. reader.pure (statement target.0 (st.Assign (path_of target.1 target.2) value)))

  reads_assign : (target : Target) → Reads (assign_reader target) (assign_rest target)
  reads_assign target = reads_bind reads_value_behind (λ value. reads_pure _)

  lives_rest : (target : Target) → Lives (rest_rule target)
  lives_rest target = let l = (reads_assign target).lives in record {
    tokens = l.tokens;
    thing = l.thing;
    spells = inl l.spells;
  }

  pub reads_more : Reads (read.more_of (spec.expression depth)) more_arguments
  reads_more = reads_many (reader.sees (kind.Symbol s.Comma)) (reads_bind (reads_word (kind.Symbol s.Comma))
      (λ _. reads_here)) (full_bind _ _ (full_word (kind.Symbol s.Comma))) refl

  reads_plain : Reads (spec.arguments depth) plain_arguments
  reads_plain = reads_choice spec.begins_expression (reads_list_of reads_here) (reads_pure [])

  -- the last rule, of a call whose statement is known, behind tokens with nothing that goes on with the path
  call_by : (target : Target) (t : Tail) (rest : Tokens) (p : Reader Statement) → goes_on_target (next rest) ≡ false
      → tail target.2 ≡ t → (x : Statement) → call_rest target t [] x → Reads p (call_rest target t)
      → ReadsAt p (rest_rule target) rest
  call_by target t rest p ends is x none reads = wider_at p (guarded goes_on_target (call_rest target t))
      (rest_rule target) rest (λ f x h. inr (h.0, subst (λ l. call_rest target l f x) (sym is) h.1))
      (guard_at goes_on_target p (call_rest target t) rest refl ends
      (record { tokens = []; thing = x; spells = (refl, none) }) (reads.meets rest))

  none_spells : {A B : Type 0} {r : Rule A} {f : A → B} (x : A) → r [] x → rule.◌>>=◌ r (λ y. rule.pure (f y)) [] (f x)
  none_spells x h = record {
    front = [];
    back = [];
    thing = x;
    split = refl;
    first_spells = h;
    next_spells = (refl, refl);
  }

  several_at : (target : Target) (front : List Step) (x y : Expression) (more : List Expression) (rest : Tokens)
      → goes_on_target (next rest) ≡ false → tail target.2 ≡ grouped front (x ∷ y ∷ more)
      → (b : Bool) → looser.several ≡ b → ReadsAt (spec.call_from looser depth target.0 target.1 target.2 (grouped front
      (x ∷ y ∷ more))) (rest_rule target) rest
  several_at target front x y more rest ends is true allowed = call_by target (grouped front (x ∷ y ∷ more)) rest _ ends
      is _ (none_spells (x ∷ y ∷ more) (allowed, (refl, refl))) (reads_bind (gate_open looser.several allowed
      (reads_pure (x ∷ y ∷ more))) (λ given. reads_pure _))
  several_at target front x y more rest ends is false allowed = reads_same _ reader.refuse (rest_rule target) rest
      (λ ts. ap (λ b. reader.◌>>=◌ (reader.gate b (reader.pure (x ∷ y ∷ more))) (λ given. reader.pure
      (statement target.0
      (st.Call (path_of target.1 front) given))) ts) allowed) ((reads_refuse (rest_rule target)
      (lives_rest target)).meets rest)

  -- a call, behind a path with nothing that goes on with it
  call_at : (target : Target) (t : Tail) (rest : Tokens) → goes_on_target (next rest) ≡ false → tail target.2 ≡ t
      → ReadsAt (spec.call_from looser depth target.0 target.1 target.2 t) (rest_rule target) rest
  call_at target plain rest ends is = call_by target plain rest _ ends is _ (none_spells [] (inr (refl, refl)))
      (reads_bind reads_plain (λ given. reads_pure _))
  call_at target (grouped front []) rest ends is = call_by target (grouped front []) rest _ ends is _
      (none_spells [] (refl, refl)) (reads_bind (reads_pure []) (λ given. reads_pure _))
  call_at target (grouped front (x ∷ [])) rest ends is = call_by target (grouped front (x ∷ [])) rest _ ends is _
      (none_spells (e.Parenthesis x ∷ []) (record {
        front = [];
        back = [];
        thing = e.Parenthesis x;
        split = refl;
        first_spells = nothing_more (opens depth) (rules_inside depth) 12 (e.Parenthesis x);
        next_spells = none_spells [] refl;
      }))
      (reads_bind (reads_bind (reads_operators_from (opens depth) (inside depth) (rules_inside depth)
      (inner_at depth) 12
      (omega arith) (e.Parenthesis x)) (λ first. reads_bind reads_more (λ more. reads_pure (first ∷ more))))
      (λ given. reads_pure _))
  call_at target (grouped front (x ∷ y ∷ more)) rest ends is = several_at target front x y more rest ends is
      looser.several refl

  -- what comes behind a longest path
  behind_at : (target : Target) (rest : Tokens) → goes_on_path (next rest) ≡ false
      → ReadsAt (spec.path_behind looser depth target) (rest_rule target) rest
  behind_at target rest ends = case_at (reader.sees (kind.Symbol s.Equal)) (assign_reader target)
      (spec.call_from looser depth target.0 target.1 target.2 (tail target.2)) (rest_rule target) rest
      (λ _. wider_at (assign_reader target) (assign_rest target) (rest_rule target) rest (λ _ _ h. inl h)
      ((reads_assign target).meets rest))
      (λ differs. call_at target (tail target.2) rest (or_both _ _ ends differs) refl)

  pub reads_path_behind : Reads (spec.from_path looser depth) (rule.◌>>=◌ (grammar.path_at looser depth) rest_rule)
  reads_path_behind = record {
    meets = λ tokens. bind_at (spec.path_at depth) (spec.path_behind looser depth) (grammar.path_at looser depth)
        rest_rule tokens ((reads_path_at looser depth).meets tokens)
        (λ target rest is. behind_at target rest (path_stops depth tokens rest target is)) lives_rest;
    lives = lives_bind (grammar.path_at looser depth) rest_rule (reads_path_at looser depth).lives lives_rest;
  }

  -- ---- the grammar's statements

  -- a longest path, and a callee and its arguments of which it is the beginning
  call_made : (longest back callee_tokens argument_tokens : Tokens) (path callee : Target) (given : List Expression)
      → grammar.path_at looser depth longest path → PathEnds back
      → reader.sees (kind.Symbol s.Equal) (next back) ≡ false → longest ++ back ≡ callee_tokens ++ argument_tokens
      → grammar.path_at looser depth callee_tokens callee → grammar.arguments looser depth argument_tokens given
      → (IsTrue (ends_in_group callee.2) → grammar.Begins (words.symbol s.Open) argument_tokens)
      → grammar.Call looser depth (longest ++ back) (statement callee.0 (st.Call (path_of callee.1 callee.2) given))
  call_made longest back callee_tokens argument_tokens path callee given path_is ends differs split callee_is given_is
      parenthesis = record {
        front = callee_tokens;
        back = argument_tokens;
        split = split;
        callee = callee;
        given = given;
        callee_spells = callee_is;
        given_spells = given_is;
        no_assignment = no_assignment looser depth longest back path path_is ends differs;
        parenthesis = parenthesis;
        is = refl;
      }

  -- the parts of a path
  pub record Parts (front : Tokens) (target : Target) : Type 0 where
    pub first : Tokens
    pub more : Tokens
    pub split : front ≡ first ++ more
    pub head_spells : grammar.head_at first (target.0, target.1)
    pub steps_spell : rule.many (grammar.path_step depth) more target.2

  pub path_parts : (front : Tokens) (target : Target) → grammar.path_at looser depth front target → Parts front target
  path_parts front target h = let g = h.next_spells in record {
    first = h.front;
    more = g.front;
    split = h.split ∙ ap (λ t. h.front ++ t) (g.split ∙ ap (λ t. g.front ++ t) g.next_spells.0 ∙ append-nil g.front);
    head_spells = subst (λ q. grammar.head_at h.front q) (sym (ap (λ (w : Target). (w.0, w.1)) g.next_spells.1))
        h.first_spells;
    steps_spell = subst (λ q. rule.many (grammar.path_step depth) g.front q) (sym (ap (λ (w : Target). w.2)
        g.next_spells.1)) g.first_spells;
  }

  pub path_made : (target : Target) (steps : List Step) (first before : Tokens)
      → grammar.head_at first (target.0, target.1) → rule.many (grammar.path_step depth) before steps
      → grammar.path_at looser depth (first ++ before) (target.0, target.1, steps)
  path_made target steps first before is are = record {
    front = first;
    back = before;
    thing = (target.0, target.1);
    split = refl;
    first_spells = is;
    next_spells = record {
      front = before;
      back = [];
      thing = steps;
      split = sym (append-nil before);
      first_spells = are;
      next_spells = (refl, refl);
    };
  }

  -- a call whose path ends in no parenthesis
  plain_spells : (front back : Tokens) (target : Target) (x : Statement) → grammar.path_at looser depth front target
      → goes_on_target (next back) ≡ false → ends_in_group target.2 ≡ false → call_rest target plain back x
      → grammar.Call looser depth (front ++ back) x
  plain_spells front back target x is ends told h =
      let both = or_false (goes_on_path (next back)) (reader.sees (kind.Symbol s.Equal) (next back)) ends in
      subst (λ y. grammar.Call looser depth (front ++ back) y) (sym h.next_spells.1)
      (call_made front back front back target target h.thing is both.0 both.1 refl is
      (given h.thing (only plain_arguments _ back x h)) (λ w. absurd (let no : false ≡ true = sym told ∙ w in cc)))
    where
      given : (found : List Expression) → plain_arguments back found → grammar.arguments looser depth back found
      given found (inl w) = inr (inr (inl w))
      given found (inr w) = inl w

  begins_group : (group back : Tokens) (held : List Expression) → path_group depth group held
      → grammar.Begins (words.symbol s.Open) (group ++ back)
  begins_group group back held h = go depth h
    where
      go : (d : ℕ) → path_group d group held → grammar.Begins (words.symbol s.Open) (group ++ back)
      go zero h = absurd (let no : false ≡ true = h.0 in cc)
      go (suc d) h = (
        h.1.front,
        h.1.back ++ back,
        h.1.thing,
        h.1.first_spells,
        ap (λ t. t ++ back) h.1.split ∙ append_assoc h.1.front h.1.back back,
      )

  -- the arguments that begin with the parenthesis at the end of the path
  given_held : (group back : Tokens) (held given : List Expression) → path_group depth group held
      → held_arguments held back given → grammar.arguments looser depth (group ++ back) given
  given_held group back [] given is h = inr (inl (subst (λ t. declarations.opened depth (λ within. empty_pair
      (opens depth)
      (rules_inside depth)) t given) (sym (ap (λ t. group ++ t) h.0 ∙ append-nil group)) (subst (λ l.
      declarations.opened depth (λ within. empty_pair (opens depth) (rules_inside depth)) group l) (sym h.1)
      (pair_held depth group is))))
  given_held group back (x ∷ []) given is h = inr (inr (inl (subst (λ t. words.list_of
      (grammar.expression looser depth) t
      given) (append_assoc group h.front h.back ∙ ap (λ t. group ++ t) (sym h.split)) (record {
        front = group ++ h.front;
        back = h.back;
        thing = h.thing;
        split = refl;
        first_spells = expression_here depth (group ++ h.front) h.thing (from_operand (opens depth)
            (rules_inside depth) 12
            group h.front (e.Parenthesis x) h.thing (operand_held depth group x is) h.first_spells);
        next_spells = h.next_spells;
      }))))
  given_held group back (x ∷ y ∷ more) given is h = inr (inr (inr (
    h.0,
    subst (λ t. grammar.several looser depth t given)
        (sym (ap (λ t. group ++ t) h.1.0 ∙ append-nil group)) (subst (λ l. grammar.several looser depth group l)
        (sym h.1.1)
        (list_held depth group x y more is looser)),
  )))

  -- a call whose path ends in a parenthesis
  grouped_spells : (front back : Tokens) (target : Target) (init : List Step) (held : List Expression) (x : Statement)
      → grammar.path_at looser depth front target → (parts : Parts front target) → goes_on_target (next back) ≡ false
      → Grouped (grammar.path_step depth) (path_group depth) parts.more init held
      → call_rest target (grouped init held) back x → grammar.Call looser depth (front ++ back) x
  grouped_spells front back target init held x is parts ends told h =
      let both = or_false (goes_on_path (next back)) (reader.sees (kind.Symbol s.Equal) (next back)) ends in
      let given = only (held_arguments held) _ back x h in
      let split : front ++ back ≡ (parts.first ++ told.before) ++ (told.group ++ back) = ap (λ t. t ++ back)
      (parts.split
      ∙ ap (λ t. parts.first ++ t) told.split ∙ sym (append_assoc parts.first told.before told.group))
      ∙ append_assoc (parts.first ++ told.before) told.group back in
      subst (λ y. grammar.Call looser depth (front ++ back) y) (sym h.next_spells.1)
      (call_made front back (parts.first ++ told.before) (told.group ++ back) target
      (target.0, target.1, init) h.thing is
      both.0 both.1 split (path_made target init parts.first told.before parts.head_spells told.steps_spell)
      (given_held told.group back held h.thing told.group_spells given)
      (λ _. begins_group told.group back held told.group_spells))

  rest_spells : (front back : Tokens) (target : Target) (x : Statement) → grammar.path_at looser depth front target
      → rest_rule target back x → rule.◌or◌ (grammar.assignment looser depth) (grammar.Call looser depth)
      (front ++ back) x
  rest_spells front back target x is (inl h) = inl (record {
    front = front;
    back = back;
    thing = target;
    split = refl;
    first_spells = is;
    next_spells = bind_right back x h;
  })
  rest_spells front back target x is (inr h) = inr (go (tail target.2) (tail_tells depth target.2 parts.more
      parts.steps_spell) h.1)
    where
      parts : Parts front target
      parts = path_parts front target is

      go : (t : Tail) → Tells (grammar.path_step depth) (path_group depth) parts.more target.2 t
          → call_rest target t back x
          → grammar.Call looser depth (front ++ back) x
      go plain told w = plain_spells front back target x is h.0 told w
      go (grouped init held) told w = grouped_spells front back target init held x is parts h.0 told w

  pub path_spells : Within (rule.◌>>=◌ (grammar.path_at looser depth) rest_rule)
      (rule.◌or◌ (grammar.assignment looser depth) (grammar.Call looser depth))
  path_spells front x h = subst (λ t. rule.◌or◌ (grammar.assignment looser depth) (grammar.Call looser depth) t x)
      (sym h.split) (rest_spells h.front h.back h.thing x h.first_spells h.next_spells)

  pub reads_from_path : Reads (spec.from_path looser depth)
      (rule.◌or◌ (grammar.assignment looser depth) (grammar.Call looser depth))
  reads_from_path = reads_wider path_spells reads_path_behind
