-- The readers of what begins with a path take whatever the grammar spells.
use Rattle.std.proofs.Common.{◌≡◌, ℕ, zero, suc, ◌==◌, ◌⊎◌, inl, inr, Bool, true, false, IsTrue, cond, List, [], ◌∷◌}
use Rattle.std.proofs.Common.{◌++◌, Ok, refl, sym, ap, ◌∙◌, append_assoc, append-nil, subst, arith}
use Rattle.vb_value.specs.declared.token.Keyword.TheVariants as k
use Rattle.vb_value.specs.declared.token.Symbol.TheVariants as s
use Rattle.vb_value.specs.declared.token.TokenKind.{TokenKind}
use Rattle.vb_value.specs.declared.token.TokenKind.TheVariants as kind
use Rattle.vb_syntax.specs.declared.expression.Expression.{Expression}
use Rattle.vb_syntax.specs.declared.expression.Expression.TheVariants as e
use Rattle.vb_syntax.specs.declared.expression.Step.{Step}
use Rattle.vb_syntax.specs.declared.expression.Step.TheVariants as behind
use Rattle.vb_syntax.specs.declared.expression.Step.TheVariants.{outs-Group}
use Rattle.vb_syntax.specs.declared.statement.Statement.{Statement}
use Rattle.vb_syntax.specs.declared.statement.StatementKind.TheVariants as st
use Rattle.vb_syntax.specs.grammar.Rules.{Tokens, Rule}
use Rattle.vb_syntax.specs.grammar.Rules as rule
use Rattle.vb_syntax.specs.grammar.Words as words
use Rattle.vb_syntax.specs.grammar.Words.{tag}
use Rattle.vb_syntax.specs.grammar.Expressions as expressions
use Rattle.vb_syntax.specs.grammar.Expressions.{path_of}
use Rattle.vb_syntax.specs.grammar.SimpleStatements as grammar
use Rattle.vb_syntax.specs.grammar.SimpleStatements.{Looser, named_at, ends_in_group, statement}
use Rattle.vb_read.specs.Reader.{Reader, Look, and_then, next, sees}
use Rattle.vb_read.specs.Reader as reader
use Rattle.vb_read.specs.ReadExpressions as read
use Rattle.vb_read.specs.ReadExpressions.{goes_on_path}
use Rattle.vb_read.specs.ReadCalls as spec
use Rattle.vb_read.specs.ReadCalls.{Tail, plain, grouped, tail}
use Rattle.vb_read.specs.Depths.{opens, inside}
use Rattle.vb_read.proofs.Taking.{Takes, takes_narrow}
use Rattle.vb_read.proofs.Beginning.{HeadIn}
use Rattle.vb_read.proofs.Binding.{Within, bind_left}
use Rattle.vb_read.proofs.ExpressionEnds.{PathEnds}
use Rattle.vb_read.proofs.OperandReading.{rest_from}
use Rattle.vb_read.proofs.OperandTaking.{rest_ends, takes_operators_from, listed_heads, Held, first_operand}
use Rattle.vb_read.proofs.PathReading.{begins_named, path_group, takes_path_at}
use Rattle.vb_read.proofs.GroupTaking.{tail_plain, tail_snoc, many_snoc, group_step, pair_group, Single}
use Rattle.vb_read.proofs.GroupTaking.{operand_group, several_group}
use Rattle.vb_read.proofs.CallReading.{Target, path_parts, path_made, more_arguments, held_arguments}
use Rattle.vb_read.proofs.Turns.{rules_inside, inner_at, taken_inside}
use Rattle.vb_read.proofs.Tags.{among, outside, all_have, among_has}
use Rattle.vb_read.proofs.Following.{Before, before_head, BeginsIn, Leads, leads_begins, leads_pure, leads_bind}
use Rattle.vb_read.proofs.Following.{leads_many, begins_in, one_among, name_head, begins_then, begins_either}
use Rattle.vb_read.proofs.Following.{begins_word_then, Asks, asks_kind, asks_either, asks_no, begins_kind, starts}
use Rattle.vb_read.proofs.Choosing.{takes_or, takes_on_word, takes_within, takes_word, takes_then, takes_map}
use Rattle.vb_read.proofs.Choosing.{takes_list, takes_more}
use Rattle.vb_read.proofs.Placing.{path_heads, ends_before, takes_expression, expression_heads}

-- what may stand behind a statement
abbrev pub statement_ends : List ℕ
statement_ends = tag (kind.Symbol s.Colon) ∷ tag kind.LineEnd ∷ tag (kind.Keyword k.Else) ∷ []

named_begins : BeginsIn name_head (rule.one named_at)
named_begins = begins_in name_head (one_among (tag (kind.Name [] false))) begins_named

-- ---- what comes next

-- the numbers of the tokens that go on with a path
abbrev pub step_heads : List ℕ
step_heads = tag (kind.Symbol s.PathPoint) ∷ tag (kind.Symbol s.Open) ∷ []

asks_path : Asks goes_on_path step_heads
asks_path = asks_either (asks_kind (kind.Symbol s.PathPoint)) (asks_kind (kind.Symbol s.Open))

-- a path ends before such tokens
pub path_before : (v : List ℕ) → all_have (outside step_heads) v ≡ true → (rest : Tokens) → Before v rest
    → PathEnds rest
path_before v none rest ok = asks_no asks_path none rest ok

expression_tag : (kind : TokenKind) → spec.kind_begins_expression kind ≡ among expression_heads (tag kind)
expression_tag (kind.Keyword k.And) = refl
expression_tag (kind.Keyword _) = refl
expression_tag (kind.Symbol s.Open) = refl
expression_tag (kind.Symbol _) = refl
expression_tag _ = refl

asks_expression : Asks spec.begins_expression expression_heads
asks_expression = record { none = refl; some = λ token. expression_tag token.kind }

abbrev equal_word : List ℕ
equal_word = tag (kind.Symbol s.Equal) ∷ []

abbrev open_word : List ℕ
open_word = tag (kind.Symbol s.Open) ∷ []

no_equal : (v : List ℕ) → all_have (outside equal_word) v ≡ true → (rest : Tokens) → Before v rest
    → sees (kind.Symbol s.Equal) (next rest) ≡ false
no_equal v none rest ok = asks_no (asks_kind (kind.Symbol s.Equal)) none rest ok

begins_open : (back : Tokens) → grammar.Begins (words.symbol s.Open) back → sees (kind.Symbol s.Open) (next back) ≡ true
begins_open back b = rw b.4 (starts (asks_kind (kind.Symbol s.Open)) (begins_kind
    (kind.Symbol s.Open)) refl b.0 b.1 b.2 b.3)

-- what may stand behind an argument
abbrev after_argument : List ℕ
after_argument = tag (kind.Symbol s.Comma) ∷ statement_ends

operators_here : (depth : ℕ) → Within (expressions.expressions depth).expression
    (expressions.operators (opens depth) (rules_inside depth) 12)
operators_here zero front x h = h
operators_here (suc depth) front x h = h

-- a path behind which no "(" stands ends in no parenthesis
ungrouped : (back : Tokens) (steps : List Step) → sees (kind.Symbol s.Open) (next back) ≡ false
    → (IsTrue (ends_in_group steps) → grammar.Begins (words.symbol s.Open) back) → ends_in_group steps ≡ false
ungrouped back steps closed parenthesis = go (ends_in_group steps) refl
  where
    go : (b : Bool) → ends_in_group steps ≡ b → ends_in_group steps ≡ false
    go false is = is
    go true is = absurd (let no : true ≡ false = sym (begins_open back (parenthesis is)) ∙ closed in cc)

module _ (looser : Looser) (depth : ℕ) where
  pub begins_path : BeginsIn path_heads (grammar.path_at looser depth)
  begins_path = begins_then (begins_either named_begins (begins_either (begins_word_then (kind.Keyword k.Me))
      (begins_word_then (kind.Symbol s.WithPoint))))

  pub begins_path_statement : BeginsIn path_heads (rule.◌or◌ (grammar.assignment looser depth)
      (grammar.Call looser depth))
  begins_path_statement = record { head = go }
    where
      go : (front : Tokens) (x : Statement) → rule.◌or◌ (grammar.assignment looser depth)
          (grammar.Call looser depth) front x
          → HeadIn (among path_heads) front
      go front x (inl h) = (begins_then begins_path).head front x h
      go front x (inr c) = let w = begins_path.head c.front c.callee c.callee_spells in
          (w.0, w.1 ++ c.back, c.split ∙ ap (λ t. t ++ c.back) w.2, w.3)

  abbrev path_rule : Rule Target
  path_rule = grammar.path_at looser depth

  abbrev statement_reader : Reader Statement
  statement_reader = spec.from_path looser depth

  -- the reader of statements comes behind the longest path
  behind_path : (front back : Tokens) (target : Target) → path_rule front target → PathEnds back
      → statement_reader (front ++ back) ≡ spec.path_behind looser depth target back
  behind_path front back target h ends = ap (λ o. and_then o (spec.path_behind looser depth))
      ((takes_path_at looser depth).takes front back target h ends)

  -- what does not go on as an assignment is a call
  behind_call : (back : Tokens) (target : Target) (t : Tail) → sees (kind.Symbol s.Equal) (next back) ≡ false
      → tail target.2 ≡ t → spec.path_behind looser depth target back
      ≡ spec.call_from looser depth target.0 target.1 target.2 t back
  behind_call back target t differs is = rw (differs, is) refl

  takes_assignment : Takes statement_reader (grammar.assignment looser depth) (Before statement_ends)
  takes_assignment = takes_then {l = equal_word} (takes_narrow (path_before equal_word refl)
      (takes_path_at looser depth))
      (λ target. takes_on_word (kind.Symbol s.Equal) _ (takes_within bind_left (takes_map _ (takes_word
      (λ _. takes_expression depth refl)))))
      (λ target. leads_begins (begins_word_then (kind.Symbol s.Equal)))

  -- ---- calls

  abbrev call_of : Target → List Expression → Statement
  call_of target given = statement target.0 (st.Call (path_of target.1 target.2) given)

  -- nothing behind the path
  takes_bare : (front rest : Tokens) (target : Target) → path_rule front target → ends_in_group target.2 ≡ false
      → Before statement_ends rest → statement_reader (front ++ rest) ≡ Ok (call_of target [], rest)
  takes_bare front rest target h plain_end ok =
      behind_path front rest target h (path_before statement_ends refl rest ok)
      ∙ behind_call rest target plain (no_equal statement_ends refl rest ok) (tail_plain target.2 plain_end)
      ∙ rw (asks_no asks_expression refl rest ok) refl

  abbrev longer_target : Target → List Expression → Target
  longer_target target held = (target.0, target.1, target.2 ++ behind.Group held ∷ [])

  -- a path, and a parenthesis behind it
  longer : (front group : Tokens) (target : Target) (held : List Expression) → path_rule front target
      → path_group depth group held → path_rule (front ++ group) (longer_target target held)
  longer front group target held h w = let parts = path_parts looser depth front target h in
      subst (λ t. path_rule t (longer_target target held)) (sym (ap (λ t. t ++ group) parts.split
      ∙ append_assoc parts.first parts.more group)) (path_made looser depth target (target.2 ++ behind.Group held ∷ [])
      parts.first (parts.more ++ group) parts.head_spells (many_snoc (grammar.path_step depth) target.2 parts.more group
      (behind.Group held) parts.steps_spell (group_step depth group held w)))

  -- a pair of parentheses behind the path
  takes_empty : (front group rest : Tokens) (target : Target) → path_rule front target → path_group depth group []
      → Before statement_ends rest → statement_reader ((front ++ group) ++ rest) ≡ Ok (call_of target [], rest)
  takes_empty front group rest target h w ok =
      behind_path (front ++ group) rest (longer_target target []) (longer front group target [] h w)
      (path_before statement_ends refl rest ok)
      ∙ behind_call rest (longer_target target []) (grouped target.2 []) (no_equal statement_ends refl rest ok)
      (tail_snoc target.2 [])

  -- several expressions in parentheses behind the path, where they are allowed
  takes_several : (front group rest : Tokens) (target : Target) (first second : Expression) (more : List Expression)
      → path_rule front target → path_group depth group (first ∷ second ∷ more) → looser.several ≡ true
      → Before statement_ends rest
      → statement_reader ((front ++ group) ++ rest) ≡ Ok (call_of target (first ∷ second ∷ more), rest)
  takes_several front group rest target first second more h w allowed ok =
      behind_path (front ++ group) rest (longer_target target (first ∷ second ∷ more)) (longer front group target (first
      ∷ second ∷ more) h w) (path_before statement_ends refl rest ok)
      ∙ behind_call rest (longer_target target (first ∷ second ∷ more)) (grouped target.2 (first ∷ second ∷ more))
      (no_equal statement_ends refl rest ok) (tail_snoc target.2 (first ∷ second ∷ more))
      ∙ ap (λ b. and_then (reader.gate b (reader.pure (first ∷ second ∷ more)) rest)
      (λ given. reader.pure (call_of target given))) allowed

  -- arguments that begin with no parenthesis
  takes_listed : (front back rest : Tokens) (target : Target) (given : List Expression) → path_rule front target
      → (IsTrue (ends_in_group target.2) → grammar.Begins (words.symbol s.Open) back)
      → HeadIn (among listed_heads) back → words.list_of (grammar.expression looser depth) back given
      → Before statement_ends rest → statement_reader (front ++ (back ++ rest)) ≡ Ok (call_of target given, rest)
  takes_listed front back rest target given h parenthesis w list ok =
      let fits : Before listed_heads (back ++ rest) = before_head listed_heads back rest w in
      let alone : Before listed_heads back = subst (λ t. Before listed_heads t) (append-nil back)
      (before_head listed_heads
      back [] w) in
      let begins : spec.begins_expression (next (back ++ rest)) ≡ true = rw w.2 (asks_expression.some w.0
      ∙ among_has (among expression_heads) listed_heads refl (tag w.0.kind) w.3) in
      behind_path front (back ++ rest) target h (path_before listed_heads refl (back ++ rest) fits)
      ∙ behind_call (back ++ rest) target plain (no_equal listed_heads refl (back ++ rest) fits) (tail_plain target.2
      (ungrouped back target.2 (asks_no (asks_kind (kind.Symbol s.Open)) refl back alone) parenthesis))
      ∙ ap (λ b. and_then (cond b (read.list_of (spec.expression depth) (back ++ rest)) (Ok ([], back ++ rest)))
      (λ given. reader.pure (call_of target given))) begins
      ∙ ap (λ o. and_then o (λ given. reader.pure (call_of target given)))
      (takes_arguments.takes back rest given list ok)
    where
      takes_arguments : Takes (read.list_of (spec.expression depth)) (words.list_of (grammar.expression looser depth))
          (Before statement_ends)
      takes_arguments = takes_list (takes_expression depth refl) refl

  takes_held : (held : Expression) → Takes (spec.arguments_from looser depth (held ∷ []))
      (held_arguments looser depth (held ∷ [])) (Before statement_ends)
  takes_held held = takes_then {l = after_argument} (takes_narrow (ends_before after_argument refl)
      (takes_operators_from (opens depth) (inside depth) (rules_inside depth)
      (inner_at depth) (taken_inside depth) 12 (omega arith) (e.Parenthesis held)))
      (λ first. takes_map (λ more. first ∷ more) (takes_more (takes_expression depth refl) refl))
      (λ first. leads_bind (leads_many (begins_word_then (kind.Symbol s.Comma))) (λ more. leads_pure))

  -- what is no assignment has no "=" behind the path
  not_equal : (front more rest : Tokens) (target : Target) → path_rule front target
      → ¬ (grammar.Begins (rule.◌>>◌ path_rule (words.symbol s.Equal)) (front ++ more))
      → sees (kind.Symbol s.Equal) (next rest) ≡ false → sees (kind.Symbol s.Equal) (next (more ++ rest)) ≡ false
  not_equal front [] rest target h none ok = ok
  not_equal front (t ∷ more) rest target h none ok = go (tag t.kind == tag (kind.Symbol s.Equal)) refl
    where
      go : (b : Bool) → (tag t.kind == tag (kind.Symbol s.Equal)) ≡ b → (tag t.kind == tag
          (kind.Symbol s.Equal)) ≡ false
      go false is = is
      go true is = absurd (none (
        front ++ t ∷ [],
        more,
        t.line,
        record {
          front = front;
          back = t ∷ [];
          thing = target;
          split = refl;
          first_spells = h;
          next_spells = record { token = t; alone = refl; passes = rw is refl };
        },
        sym (append_assoc front (t ∷ []) more),
      ))

  -- arguments that begin with a parenthesis
  takes_operand : (front back rest : Tokens) (target : Target) (given : List Expression) → path_rule front target
      → ¬ (grammar.Begins (rule.◌>>◌ path_rule (words.symbol s.Equal)) (front ++ back))
      → (l : words.list_of (grammar.expression looser depth) back given)
      → (f : Held (opens depth) (rules_inside depth) 12 l.front l.thing) → Before statement_ends rest
      → statement_reader (front ++ (back ++ rest)) ≡ Ok (call_of target given, rest)
  takes_operand front back rest target given h none l f ok =
      let single : Single depth f.operand f.first = operand_group depth f.operand f.first f.is in
      let behind : Tokens = f.rest ++ l.back in
      let whole : back ≡ f.operand ++ behind = l.split ∙ ap (λ t. t ++ l.back) f.split
      ∙ append_assoc f.operand f.rest l.back in
      let lined : front ++ back ≡ (front ++ f.operand) ++ behind = ap (λ t. front ++ t) whole
      ∙ sym (append_assoc front f.operand behind) in
      let path : path_rule (front ++ f.operand) (longer_target target
      (single.held ∷ [])) = longer front f.operand target
      (single.held ∷ []) h single.group in
      let differs : sees (kind.Symbol s.Equal) (next (behind ++ rest)) ≡ false = not_equal
      (front ++ f.operand) behind rest
      (longer_target target (single.held ∷ [])) path (subst (λ t. ¬ (grammar.Begins (rule.◌>>◌ path_rule (words.symbol
      s.Equal)) t)) lined none) (no_equal statement_ends refl rest ok) in
      let spelled : held_arguments looser depth (single.held ∷ []) behind given = record {
        front = f.rest;
        back = l.back;
        thing = l.thing;
        split = refl;
        first_spells = subst (λ y. rest_from (opens depth) (rules_inside depth) 12 y f.rest l.thing) single.is f.behind;
        next_spells = l.next_spells;
      } in
      ap statement_reader (sym (append_assoc front back rest) ∙ ap (λ t. t ++ rest) lined
      ∙ append_assoc (front ++ f.operand) behind rest)
      ∙ behind_path (front ++ f.operand) (behind ++ rest) (longer_target target (single.held ∷ [])) path (ends l f ok)
      ∙ behind_call (behind ++ rest) (longer_target target (single.held ∷ [])) (grouped target.2
      (single.held ∷ [])) differs
      (tail_snoc target.2 (single.held ∷ []))
      ∙ ap (λ o. and_then o (λ given. reader.pure (call_of target given)))
      ((takes_held single.held).takes behind rest given spelled ok)
    where
      ends : (l : words.list_of (grammar.expression looser depth) back given)
          → (f : Held (opens depth) (rules_inside depth) 12 l.front l.thing) → Before statement_ends rest
          → PathEnds ((f.rest ++ l.back) ++ rest)
      ends l f ok =
          let leads : Leads after_argument (rule.◌>>=◌ (more_arguments looser depth) (λ more. rule.pure
          (l.thing ∷ more)))
          (Before statement_ends) = leads_bind (leads_many (begins_word_then (kind.Symbol s.Comma)))
          (λ more. leads_pure) in
          let after : Before after_argument (l.back ++ rest) = leads.leads l.back rest given l.next_spells ok in
          subst (λ t. PathEnds t) (sym (append_assoc f.rest l.back rest)) (rest_ends (opens depth) (inside depth)
          (rules_inside depth) 12 f.first l.thing f.rest (l.back ++ rest) f.behind (ends_before after_argument refl
          (l.back
          ++ rest) after)).path

  takes_given : (front back rest : Tokens) (target : Target) (given : List Expression) → path_rule front target
      → ¬ (grammar.Begins (rule.◌>>◌ path_rule (words.symbol s.Equal)) (front ++ back))
      → (IsTrue (ends_in_group target.2) → grammar.Begins (words.symbol s.Open) back)
      → grammar.arguments looser depth back given → Before statement_ends rest
      → statement_reader (front ++ (back ++ rest)) ≡ Ok (call_of target given, rest)
  takes_given front back rest target given h none parenthesis (inl w) ok =
      ap statement_reader (ap (λ t. front ++ (t ++ rest)) w.0)
      ∙ takes_bare front rest target h (ungrouped back target.2 (rw w.0 refl) parenthesis) ok
      ∙ ap (λ l. Ok (call_of target l, rest)) (sym w.1)
  takes_given front back rest target given h none parenthesis (inr (inl w)) ok =
      let pair = pair_group depth back given w in
      ap statement_reader (sym (append_assoc front back rest)) ∙ takes_empty front back rest target h pair.0 ok
      ∙ ap (λ l. Ok (call_of target l, rest)) (sym pair.1)
  takes_given front back rest target given h none parenthesis (inr (inr (inl l))) ok =
      by_first (first_operand (opens depth) (rules_inside depth) 12 l.front l.thing
      (operators_here depth l.front l.thing
      l.first_spells))
    where
      by_first : HeadIn (among listed_heads) l.front ⊎ Held (opens depth) (rules_inside depth) 12 l.front l.thing
          → statement_reader (front ++ (back ++ rest)) ≡ Ok (call_of target given, rest)
      by_first (inl w) = takes_listed front back rest target given h parenthesis (
        w.0,
        w.1 ++ l.back,
        l.split ∙ ap (λ t. t ++ l.back) w.2,
        w.3,
      ) l ok
      by_first (inr f) = takes_operand front back rest target given h none l f ok
  takes_given front back rest target given h none parenthesis (inr (inr (inr w))) ok =
      let several = several_group looser depth back given w.1 in
      ap statement_reader (sym (append_assoc front back rest))
      ∙ takes_several front back rest target several.first several.second several.more h several.group w.0 ok
      ∙ ap (λ l. Ok (call_of target l, rest)) (sym several.is)

  takes_call : Takes statement_reader (grammar.Call looser depth) (Before statement_ends)
  takes_call = record {
    takes = λ front rest x c ok.
        ap statement_reader (ap (λ t. t ++ rest) c.split ∙ append_assoc c.front c.back rest)
        ∙ takes_given c.front c.back rest c.callee c.given c.callee_spells (subst (λ t. ¬ (grammar.Begins
        (rule.◌>>◌ path_rule
        (words.symbol s.Equal)) t)) c.split c.no_assignment) c.parenthesis c.given_spells ok
        ∙ ap (λ y. Ok (y, rest)) (sym c.is);
  }

  pub takes_path_statement : Takes statement_reader
      (rule.◌or◌ (grammar.assignment looser depth) (grammar.Call looser depth)) (Before statement_ends)
  takes_path_statement = takes_or takes_assignment takes_call
