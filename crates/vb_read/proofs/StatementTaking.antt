-- The readers of blocks and of statements that hold others take whatever the grammar spells.
use Rattle.std.proofs.Common.{◌≡◌, ℕ, inl, inr, true, List, [], ◌∷◌, ◌++◌, Option, Some, None, Ok, refl, sym, ap, ◌∙◌}
use Rattle.std.proofs.Common.{append_assoc, append-nil, codes}
use Rattle.std.specs.declared.ops.ControlFlow.TheVariants.{Continue, Break}
use Rattle.vb_value.specs.declared.token.Keyword.TheVariants as k
use Rattle.vb_value.specs.declared.token.Symbol.TheVariants as s
use Rattle.vb_value.specs.declared.token.TokenKind.TheVariants as kind
use Rattle.vb_syntax.specs.declared.expression.Expression.{Expression}
use Rattle.vb_syntax.specs.declared.statement.Case.{Case, roll-Case}
use Rattle.vb_syntax.specs.declared.statement.Repetition.{Repetition}
use Rattle.vb_syntax.specs.declared.statement.Repetition.TheVariants as repetition
use Rattle.vb_syntax.specs.declared.statement.Statement.{Statement}
use Rattle.vb_syntax.specs.declared.statement.StatementKind.TheVariants as st
use Rattle.vb_syntax.specs.grammar.Rules.{Tokens, Rule}
use Rattle.vb_syntax.specs.grammar.Rules as rule
use Rattle.vb_syntax.specs.grammar.Words as words
use Rattle.vb_syntax.specs.grammar.Words.{tag, name_of}
use Rattle.vb_syntax.specs.grammar.Expressions.{expressions}
use Rattle.vb_syntax.specs.grammar.SimpleStatements.{Looser, statement, quoted}
use Rattle.vb_syntax.specs.grammar.Statements as grammar
use Rattle.vb_syntax.specs.grammar.Statements.{break_of}
use Rattle.vb_read.specs.Reader.{Reader, Turn, Look, and_then, next, sees, passes, is_some}
use Rattle.vb_read.specs.Reader as reader
use Rattle.vb_read.specs.ReadSimpleStatements.{sees_quoted}
use Rattle.vb_read.specs.ReadLines as lines
use Rattle.vb_read.specs.ReadLines.{breaks}
use Rattle.vb_read.specs.ReadStatements as spec
use Rattle.vb_read.specs.ReadStatements.{begins_statement, kind_begins_statement, sees_const, sees_loop_word}
use Rattle.vb_read.specs.Depths.{opens}
use Rattle.vb_read.proofs.Taking.{Follow, Takes, takes_pure}
use Rattle.vb_read.proofs.Binding.{Within, within_then, bind_left, bind_right, bind_wider, first_wider, pure_in}
use Rattle.vb_read.proofs.Binding.{pure_out, or_out, or_within}
use Rattle.vb_read.proofs.Tags.{among, all_have}
use Rattle.vb_read.proofs.Following.{Before, before_wider, BeginsIn, Leads, leads_begins, leads_pure, leads_or}
use Rattle.vb_read.proofs.Following.{leads_bind, leads_many, leads_wider, begins_then, begins_word_then, full_begins}
use Rattle.vb_read.proofs.Following.{leads_within, name_begins, asks_kind, starts_one, skips, starts, closed_first}
use Rattle.vb_read.proofs.Following.{closed_next, closed_or}
use Rattle.vb_read.proofs.Choosing.{takes_on, takes_off, takes_on_word, takes_off_word, takes_or, takes_within}
use Rattle.vb_read.proofs.Choosing.{takes_word, takes_then, takes_map, takes_list, takes_before, until_takes}
use Rattle.vb_read.proofs.Choosing.{takes_gated}
use Rattle.vb_read.proofs.Placing.{begins_expression, takes_expression, takes_inside, begins_inside, closed_inside}
use Rattle.vb_read.proofs.Placing.{tag_ends}
use Rattle.vb_read.proofs.Following.{name_head}
use Rattle.vb_read.proofs.SimpleTaking.{quoted_begins}
use Rattle.vb_read.proofs.EndTaking.{break_heads, takes_end, begins_end, skips_quoted, takes_texts}
use Rattle.vb_read.proofs.BlankTexts.{text_head}
use Rattle.vb_read.proofs.EndTaking.{leads_texts}
use Rattle.vb_read.proofs.IfTaking.{block_ends, block_heads, BlocksTaken, last_apart, leads_inner, asks_loop}
use Rattle.vb_read.proofs.IfTaking.{takes_condition, begins_condition}

module _ (looser : Looser) (depth : ℕ) (ip : lines.Blocks) (ir : grammar.Blocks)
    (inner : BlocksTaken (opens depth) ip ir) where
  takes_place : {v : List ℕ} → all_have tag_ends v ≡ true → Takes (spec.within looser depth ip)
      (grammar.inside looser depth ir) (Before v)
  takes_place ends = takes_inside depth ends

  -- a block, and behind it a word
  leads_block : {B : Type 0} {f : List Statement → Rule B} {v : Follow} (l : List ℕ) → all_have
      (among block_ends) l ≡ true
      → ((x : List Statement) → BeginsIn l (f x)) → Leads block_heads (rule.◌>>=◌ ir.block f) v
  leads_block l all behind = leads_inner looser depth ip ir inner (λ x. leads_wider all (leads_begins (behind x)))

  abbrev end_word : List ℕ
  end_word = tag (kind.Keyword k.End) ∷ []

  -- ---- Select

  -- what stands behind the word of a case
  abbrev case_behind : ℕ → Rule Case
  case_behind line = rule.◌>>=◌ (words.list_of (grammar.inside looser depth ir)) (λ values. rule.◌>>◌ grammar.«end»
      (rule.◌>>=◌ ir.block (λ body. rule.pure (roll-Case (record { line = line; values = values; body = body })))))

  takes_case_from : (line : ℕ) → Takes (spec.case_from looser depth ip line) (case_behind line) (Before block_ends)
  takes_case_from line = takes_then {l = break_heads} (takes_list (takes_place refl) refl)
      (λ values. takes_then (takes_end refl) (λ _. takes_map _ inner.block)
      (λ _. leads_inner looser depth ip ir inner (λ body. leads_pure)))
      (λ values. leads_begins (begins_then begins_end))

  takes_case_else : Takes (spec.case_else looser depth ip) (rule.◌>>◌ (words.keyword k.Else) (rule.◌>>◌ grammar.«end»
      ir.block)) (Before block_ends)
  takes_case_else = takes_word (λ _. takes_then (takes_end refl) (λ _. inner.block) (λ _. inner.leads))

  abbrev TurnOf : Reader (Turn Case (Option (List Statement)))
  TurnOf = spec.case_turn looser depth ip

  onward : Takes TurnOf (rule.◌>>=◌ (grammar.case looser depth ir) (λ x. rule.pure (Continue x))) (Before block_ends)
  onward = takes_within bind_right (takes_on_word (kind.Keyword k.Case) _ (takes_word (λ line.
      takes_off_word (kind.Keyword k.Else) _ (leads_begins (begins_then (begins_then (begins_then
      (begins_inside depth))))) refl
      (takes_map (λ found. Continue found) (takes_case_from line)))))

  -- "Case" "Else" and its block, as the last turn
  else_apart : {A B : Type 0} {p q : Rule ℕ} {e : Rule (Unit {0})} {b : Rule A} {f : A → B} {g : B → Turn Case B}
      → Within (rule.◌>>=◌ (rule.◌>>◌ p (rule.◌>>◌ q (rule.◌>>◌ e (rule.◌>>=◌ b (λ x. rule.pure (f x))))))
      (λ y. rule.pure (g y)))
      (rule.◌>>◌ p (rule.◌>>=◌ (rule.◌>>◌ q (rule.◌>>◌ e b)) (λ x. rule.pure (g (f x)))))
  else_apart = within_then bind_right (bind_wider (λ _. within_then (first_wider last_apart)
      (within_then bind_right (bind_wider (λ x. pure_out)))))

  last : Takes TurnOf (rule.◌>>=◌ (grammar.case_else looser depth ir) (λ y. rule.pure (Break y))) (Before end_word)
  last = takes_within or_out (takes_or
      (takes_within else_apart (takes_on_word (kind.Keyword k.Case) _ (takes_word (λ line.
      takes_on (sees (kind.Keyword k.Else)) _ (starts (asks_kind (kind.Keyword k.Else)) (begins_then (begins_word_then
      (kind.Keyword k.Else))) refl) (takes_map _ (takes_before refl takes_case_else))))))
      (takes_within pure_out (takes_off_word (kind.Keyword k.Case) _ leads_pure refl (takes_pure (Break None) _))))

  abbrev cases_heads : List ℕ
  cases_heads = tag (kind.Keyword k.Case) ∷ end_word

  leads_case_else : Leads cases_heads (grammar.case_else looser depth ir) (Before end_word)
  leads_case_else = leads_or (leads_begins (begins_word_then (kind.Keyword k.Case))) leads_pure

  begins_case : BeginsIn (tag (kind.Keyword k.Case) ∷ []) (grammar.case looser depth ir)
  begins_case = begins_word_then (kind.Keyword k.Case)

  abbrev cases_rule : Rule (List Case × Option (List Statement))
  cases_rule = rule.◌>>=◌ (rule.many (grammar.case looser depth ir)) (λ xs. rule.◌>>=◌
      (grammar.case_else looser depth ir)
      (λ y. rule.pure (xs, y)))

  leads_cases : Leads cases_heads cases_rule (Before end_word)
  leads_cases = leads_wider refl (leads_bind (leads_many begins_case) (λ xs. leads_bind leads_case_else
      (λ y. leads_pure)))

  takes_cases : Takes (spec.cases looser depth ip) cases_rule (Before end_word)
  takes_cases = record { takes = go }
    where
      go : (front rest : Tokens) (x : List Case × Option (List Statement)) → cases_rule front x → Before end_word rest
          → reader.until TurnOf (front ++ rest) ≡ Ok (x, rest)
      go front rest x h ok =
          let z = h.next_spells in
          let at : Before cases_heads (z.front ++ rest) = leads_case_else.leads z.front rest z.thing z.first_spells ok
          in
          ap (reader.until TurnOf) (ap (λ t. t ++ rest) (h.split ∙ ap (λ t. h.front ++ t) (z.split
          ∙ ap (λ t. z.front ++ t) z.next_spells.0 ∙ append-nil z.front)) ∙ append_assoc h.front z.front rest)
          ∙ until_takes TurnOf (grammar.case looser depth ir) onward (full_begins
          (grammar.case looser depth ir) begins_case)
          h.thing h.front (z.front ++ rest) rest z.thing h.first_spells
          (λ ys more w. before_wider (tag (kind.Keyword k.Case) ∷ cases_heads) block_ends refl (more ++
          (z.front ++ rest))
          ((leads_many begins_case).leads more (z.front ++ rest) ys w at))
          (last.takes z.front rest (Break z.thing) (record {
            front = z.front;
            back = [];
            thing = z.thing;
            split = sym (append-nil z.front);
            first_spells = z.first_spells;
            next_spells = (refl, refl);
          }) ok)
          ∙ ap (λ y. Ok (y, rest)) (sym z.next_spells.1)

  until_apart : {A B C : Type 0} {r : Rule A} {q : Rule B} {f : A × B → Rule C}
      → Within (rule.◌>>=◌ r (λ x. rule.◌>>=◌ q (λ y. f (x, y))))
      (rule.◌>>=◌ (rule.◌>>=◌ r (λ x. rule.◌>>=◌ q (λ y. rule.pure (x, y)))) f)
  until_apart = within_then (bind_wider (λ x. within_then (bind_wider (λ y. pure_in)) bind_left)) bind_left

  -- what stands behind the cases
  abbrev select_behind : ℕ → Expression → List Case × Option (List Statement) → Rule Statement
  select_behind line subject found = rule.◌>>◌ (words.keyword k.End) (rule.◌>>◌ (words.keyword k.Select)
      (rule.pure (statement line (st.Select subject found.0 found.1))))

  abbrev select_cases : ℕ → Expression → Rule Statement
  select_cases line subject = rule.◌>>=◌ (rule.many (grammar.case looser depth ir)) (λ xs.
      rule.◌>>=◌ (grammar.case_else looser depth ir) (λ y. select_behind line subject (xs, y)))

  cases_apart : (line : ℕ) (subject : Expression) → Within (select_cases line subject)
      (rule.◌>>=◌ cases_rule (select_behind line subject))
  cases_apart line subject = until_apart {f = select_behind line subject}

  leads_select_cases : (line : ℕ) (subject : Expression) {v : Follow} → Leads cases_heads (select_cases line subject) v
  leads_select_cases line subject = leads_within (cases_apart line subject) (leads_bind leads_cases
      (λ found. leads_begins (begins_word_then (kind.Keyword k.End))))

  pub takes_select : {v : Follow} → Takes (spec.select looser depth ip) (grammar.select looser depth ir) v
  takes_select {v} = takes_gated (opens depth) (closed_next (λ line. closed_next (λ _. closed_first
      (closed_inside depth))))
      (takes_word (λ line. takes_word (λ _. takes_then {l = break_heads} (takes_place refl)
      (λ subject. takes_then {l = text_head ++ cases_heads} (takes_end refl)
      (λ _. takes_then {l = cases_heads} (takes_texts looser.texts refl refl)
      (λ _. takes_within (cases_apart line subject) (takes_then takes_cases
      (λ found. takes_word (λ _. takes_word (λ _. takes_pure _ v)))
      (λ found. leads_begins (begins_word_then (kind.Keyword k.End)))))
      (λ _. leads_select_cases line subject))
      (λ _. leads_bind (leads_texts looser.texts) (λ _. leads_select_cases line subject)))
      (λ subject. leads_begins (begins_then begins_end)))))

  -- ---- loops

  abbrev step_heads : List ℕ
  step_heads = name_head ++ break_heads

  abbrev step_rule : Rule (Option Expression)
  step_rule = rule.◌or◌ (rule.◌>>◌ (quoted (codes "step")) (rule.◌>>=◌ (grammar.inside looser depth ir)
      (λ found. rule.pure (Some found)))) (rule.pure None)

  takes_step : Takes (spec.step_part looser depth ip) step_rule (Before break_heads)
  takes_step = takes_or (takes_on (sees_quoted (codes "step")) _ starts_one (takes_word (λ _. takes_map _
      (takes_place refl))))
      (takes_off (sees_quoted (codes "step")) _ (skips_quoted (codes "step") leads_pure refl) (takes_pure None _))

  leads_step : Leads step_heads step_rule (Before break_heads)
  leads_step = leads_or (leads_begins (begins_then (quoted_begins (codes "step")))) leads_pure

  abbrev next_word : List ℕ
  next_word = tag (kind.Keyword k.Next) ∷ []

  abbrev for_behind : ℕ → Rule Statement
  for_behind line = rule.◌>>=◌ (rule.one name_of) (λ variable. rule.◌>>◌ (words.symbol s.Equal) (rule.◌>>=◌
      (grammar.inside
      looser depth ir) (λ from. rule.◌>>◌ (words.keyword k.To) (rule.◌>>=◌ (grammar.inside looser depth ir) (λ to.
      rule.◌>>=◌ step_rule (λ by. rule.◌>>◌ grammar.«end» (rule.◌>>=◌ ir.block (λ body. rule.◌>>◌ (words.keyword k.Next)
      (rule.pure (statement line (st.For variable from to by body)))))))))))

  takes_for_from : (line : ℕ) {v : Follow} → Takes (spec.for_from looser depth ip line) (for_behind line) v
  takes_for_from line {v} = takes_word (λ variable. takes_word (λ _. takes_then (takes_place refl)
      (λ from. takes_word (λ _. takes_then (takes_place refl)
      (λ to. takes_then takes_step
      (λ by. takes_then {l = block_heads} (takes_end refl)
      (λ _. takes_then inner.block (λ body. takes_word (λ _. takes_pure _ v))
      (λ body. leads_wider refl (leads_begins (begins_word_then (kind.Keyword k.Next)))))
      (λ _. leads_block next_word refl (λ body. begins_word_then (kind.Keyword k.Next))))
      (λ by. leads_begins (begins_then begins_end)))
      (λ to. leads_bind leads_step (λ by. leads_begins (begins_then begins_end)))))
      (λ from. leads_begins (begins_word_then (kind.Keyword k.To)))))

  abbrev for_each_behind : ℕ → Rule Statement
  for_each_behind line = rule.◌>>◌ (words.keyword k.Each) (rule.◌>>=◌ (rule.one name_of) (λ variable.
      rule.◌>>◌ (words.keyword k.In) (rule.◌>>=◌ (grammar.inside looser depth ir) (λ group. rule.◌>>◌ grammar.«end»
      (rule.◌>>=◌ ir.block (λ body. rule.◌>>◌ (words.keyword k.Next)
      (rule.pure (statement line (st.ForEach variable group body)))))))))

  takes_for_each_from : (line : ℕ) {v : Follow} → Takes (spec.for_each_from looser depth ip line)
      (for_each_behind line) v
  takes_for_each_from line {v} = takes_word (λ _. takes_word (λ variable. takes_word (λ _. takes_then (takes_place refl)
      (λ group. takes_then {l = block_heads} (takes_end refl)
      (λ _. takes_then inner.block (λ body. takes_word (λ _. takes_pure _ v))
      (λ body. leads_wider refl (leads_begins (begins_word_then (kind.Keyword k.Next)))))
      (λ _. leads_block next_word refl (λ body. begins_word_then (kind.Keyword k.Next))))
      (λ group. leads_begins (begins_then begins_end)))))

  -- two rules that begin with the same one
  pub shared : {A B : Type 0} {r : Rule A} {f g : A → Rule B} → Within (rule.◌or◌ (rule.◌>>=◌ r f) (rule.◌>>=◌ r g))
      (rule.◌>>=◌ r (λ x. rule.◌or◌ (f x) (g x)))
  shared = or_within (bind_wider (λ x front y h. inl h)) (bind_wider (λ x front y h. inr h))

  abbrev pub for_rule : Rule Statement
  for_rule = rule.◌or◌ (grammar.for looser depth ir) (grammar.for_each looser depth ir)

  pub takes_for : {v : Follow} → Takes (spec.for looser depth ip) for_rule v
  takes_for = takes_gated (opens depth) (closed_or
      (closed_next (λ line. closed_next (λ variable. closed_next (λ _. closed_first (closed_inside depth)))))
      (closed_next (λ line. closed_next (λ _. closed_next (λ variable. closed_next (λ _. closed_first (closed_inside
      depth)))))))
      (takes_within shared (takes_word (λ line. takes_or
      (takes_off_word (kind.Keyword k.Each) _ (leads_begins (begins_then name_begins)) refl (takes_for_from line))
      (takes_on_word (kind.Keyword k.Each) _ (takes_for_each_from line)))))

  abbrev loop_word : List ℕ
  loop_word = tag (kind.Keyword k.Loop) ∷ []

  takes_do_before : (line : ℕ) {v : Follow} → Takes (spec.do_before_from looser depth ip line) (rule.◌>>=◌
      (grammar.condition
      looser depth ir (grammar.inside looser depth ir)) (λ found. rule.◌>>◌ grammar.«end» (rule.◌>>=◌ ir.block
      (λ body. rule.◌>>◌ (words.keyword k.Loop) (rule.pure (statement line (st.Do
      (repetition.Before found.1) body))))))) v
  takes_do_before line {v} = takes_then {l = break_heads} (takes_condition looser depth ip ir inner (takes_place refl)
      (begins_inside depth))
      (λ found. takes_then {l = block_heads} (takes_end refl)
      (λ _. takes_then inner.block (λ body. takes_word (λ _. takes_pure _ v))
      (λ body. leads_wider refl (leads_begins (begins_word_then (kind.Keyword k.Loop)))))
      (λ _. leads_block loop_word refl (λ body. begins_word_then (kind.Keyword k.Loop))))
      (λ found. leads_begins (begins_then begins_end))

  abbrev loop_rule : Rule Repetition
  loop_rule = rule.◌or◌ (rule.pure repetition.Endless) (rule.◌>>=◌ (grammar.condition looser depth ir (expressions
      depth).expression) (λ found. rule.pure (repetition.After found.0 found.1)))

  takes_loop_condition : Takes (spec.loop_condition looser depth ip) loop_rule (Before break_heads)
  takes_loop_condition = takes_or
      (takes_off sees_loop_word _ (skips (asks_loop looser depth ip ir inner) leads_pure refl) (takes_pure _ _))
      (takes_on sees_loop_word _ (starts (asks_loop looser depth ip ir inner) (begins_then
      (begins_condition looser depth ip
      ir inner)) refl)
      (takes_map _ (takes_condition looser depth ip ir inner (takes_expression depth refl) (begins_expression depth))))

  takes_do_after : (line : ℕ) → Takes (spec.do_after_from looser depth ip line) (rule.◌>>◌ grammar.«end»
      (rule.◌>>=◌ ir.block
      (λ body. rule.◌>>◌ (words.keyword k.Loop) (rule.◌>>=◌ loop_rule (λ repeated. rule.pure (statement line
      (st.Do repeated
      body))))))) (Before break_heads)
  takes_do_after line = takes_then {l = block_heads} (takes_end refl)
      (λ _. takes_then inner.block (λ body. takes_word (λ _. takes_map _ takes_loop_condition))
      (λ body. leads_wider refl (leads_begins (begins_word_then (kind.Keyword k.Loop)))))
      (λ _. leads_block loop_word refl (λ body. begins_word_then (kind.Keyword k.Loop)))

  pub takes_do : Takes (spec.do_loop looser depth ip) (grammar.do_loop looser depth ir) (Before break_heads)
  takes_do = takes_gated (opens depth) (closed_next (λ line. closed_or
      (closed_first (closed_next (λ found. closed_first (closed_inside depth))))
      (closed_next (λ _. closed_first inner.closed))))
      (takes_word (λ line. takes_or
      (takes_on sees_loop_word _ (starts (asks_loop looser depth ip ir inner) (begins_then
      (begins_condition looser depth ip
      ir inner)) refl) (takes_do_before line))
      (takes_off sees_loop_word _ (skips (asks_loop looser depth ip ir inner) (leads_begins
      (begins_then begins_end)) refl)
      (takes_do_after line))))

  pub takes_while : {v : Follow} → Takes (spec.while looser depth ip) (grammar.while looser depth ir) v
  takes_while {v} = takes_gated (opens depth) (closed_next (λ line. closed_first (closed_inside depth)))
      (takes_word (λ line. takes_then {l = break_heads} (takes_place refl)
      (λ condition. takes_then {l = block_heads} (takes_end refl)
      (λ _. takes_then inner.block (λ body. takes_word (λ _. takes_pure _ v))
      (λ body. leads_wider refl (leads_begins (begins_word_then (kind.Keyword k.Wend)))))
      (λ _. leads_block (tag (kind.Keyword k.Wend) ∷ []) refl (λ body. begins_word_then (kind.Keyword k.Wend))))
      (λ condition. leads_begins (begins_then begins_end))))

  pub takes_with : {v : Follow} → Takes (spec.with_block looser depth ip) (grammar.with_block looser depth ir) v
  takes_with {v} = takes_gated (opens depth) (closed_next (λ line. closed_first (closed_inside depth)))
      (takes_word (λ line. takes_then {l = break_heads} (takes_place refl)
      (λ subject. takes_then {l = block_heads} (takes_end refl)
      (λ _. takes_then inner.block (λ body. takes_word (λ _. takes_word (λ _. takes_pure _ v)))
      (λ body. leads_wider refl (leads_begins (begins_word_then (kind.Keyword k.End)))))
      (λ _. leads_block end_word refl (λ body. begins_word_then (kind.Keyword k.End))))
      (λ subject. leads_begins (begins_then begins_end))))
