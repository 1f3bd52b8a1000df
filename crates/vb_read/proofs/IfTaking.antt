-- The readers of If take whatever the grammar spells.
use Rattle.std.proofs.Common.{◌≡◌, ℕ, Bool, true, List, [], ◌∷◌, ◌++◌, Option, Some, None, Ok, refl, sym, ap}
use Rattle.std.proofs.Common.{◌∙◌, append_assoc, append-nil}
use Rattle.vb_value.specs.declared.token.Keyword.TheVariants as k
use Rattle.vb_value.specs.declared.token.TokenKind.TheVariants as kind
use Rattle.vb_syntax.specs.declared.expression.Expression.{Expression}
use Rattle.vb_syntax.specs.declared.statement.Statement.{Statement}
use Rattle.vb_syntax.specs.declared.statement.StatementKind.TheVariants as st
use Rattle.vb_syntax.specs.grammar.Rules.{Tokens, Rule}
use Rattle.vb_syntax.specs.grammar.Rules as rule
use Rattle.vb_syntax.specs.grammar.Words as words
use Rattle.vb_syntax.specs.grammar.Words.{tag, name_of}
use Rattle.vb_syntax.specs.grammar.SimpleStatements.{Looser, statement}
use Rattle.vb_syntax.specs.grammar.Statements as grammar
use Rattle.vb_syntax.specs.grammar.Statements.{break_of}
use Rattle.vb_read.specs.Reader.{Reader, Turn, Look, and_then, next, sees, passes, is_some}
use Rattle.vb_read.specs.Reader as reader
use Rattle.vb_read.specs.ReadLines as lines
use Rattle.vb_read.specs.ReadLines.{breaks}
use Rattle.vb_read.specs.ReadStatements as spec
use Rattle.vb_read.specs.ReadStatements.{begins_statement, kind_begins_statement, sees_const, sees_loop_word}
use Rattle.vb_read.specs.Depths.{opens}
use Rattle.vb_read.proofs.Taking.{Follow, Takes, takes_pure}
use Rattle.vb_read.proofs.Binding.{Within, within_then, bind_left, bind_right, bind_wider}
use Rattle.vb_read.proofs.Tags.{outside, all_have}
use Rattle.vb_read.proofs.Following.{Before, BeginsIn, Leads, leads_begins, leads_pure, leads_or, leads_bind}
use Rattle.vb_read.proofs.Following.{leads_many, leads_wider, begins_then, begins_word_then, begins_either, Asks}
use Rattle.vb_read.proofs.Following.{asks_kind, asks_either, asks_no, skips, starts, Closed, closed_first}
use Rattle.vb_read.proofs.Following.{closed_next, closed_or}
use Rattle.vb_read.proofs.Choosing.{starts_word, takes_on, takes_off, takes_on_word, takes_off_word, takes_or}
use Rattle.vb_read.proofs.Choosing.{takes_within, takes_word, takes_then, takes_map, takes_each, takes_before}
use Rattle.vb_read.proofs.Choosing.{takes_gated}
use Rattle.vb_read.proofs.Placing.{takes_inside, closed_inside, tag_ends, expression_heads}
use Rattle.vb_read.proofs.SimpleTaking.{simple_heads, const_heads}
use Rattle.vb_read.proofs.LineTaking.{branches, TakesLine, line_heads, takes_line_if_from}
use Rattle.vb_read.proofs.EndTaking.{break_heads, asks_breaks, takes_end, begins_end, cut_end, takes_line_end}

-- ---- what stands inside

-- what may stand behind a block
abbrev pub block_ends : List ℕ
block_ends = tag (kind.Keyword k.End) ∷ tag (kind.Keyword k.Else) ∷ tag (kind.Keyword k.ElseIf)
    ∷ tag (kind.Keyword k.Case) ∷ tag (kind.Keyword k.Loop) ∷ tag (kind.Keyword k.Next) ∷ tag (kind.Keyword k.Wend) ∷ []

-- the numbers of the tokens that begin a statement or a constant
abbrev pub sentence_heads : List ℕ
sentence_heads = tag (kind.Keyword k.If) ∷ (const_heads ++ (tag (kind.Keyword k.Select) ∷ tag (kind.Keyword k.For)
    ∷ tag (kind.Keyword k.Do) ∷ tag (kind.Keyword k.While) ∷ tag (kind.Keyword k.With) ∷ simple_heads))

abbrev pub block_heads : List ℕ
block_heads = sentence_heads ++ block_ends

-- What is read inside a construct is whatever is spelled there.
pub record BlocksTaken (opens : Bool) (p : lines.Blocks) (r : grammar.Blocks) : Type 0 where
  pub block : Takes p.block r.block (Before block_ends)
  pub leads : Leads block_heads r.block (Before block_ends)
  pub closed : Closed opens r.block
  pub line : TakesLine p.line r.line
  pub line_begins : BeginsIn line_heads r.line

-- the last of four rules behind the three others as one
pub last_apart : {A B C D : Type 0} {p : Rule A} {q : Rule B} {r : Rule C} {f : C → Rule D}
    → Within (rule.◌>>◌ p (rule.◌>>◌ q (rule.◌>>=◌ r f))) (rule.◌>>=◌ (rule.◌>>◌ p (rule.◌>>◌ q r)) f)
last_apart = within_then (bind_wider (λ _. bind_left)) bind_left

-- ---- conditions of loops

module _ (looser : Looser) (depth : ℕ) (ip : lines.Blocks) (ir : grammar.Blocks)
    (inner : BlocksTaken (opens depth) ip ir) where
  pub takes_within_place : {v : List ℕ} → all_have tag_ends v ≡ true → Takes (spec.within looser depth ip)
      (grammar.inside looser depth ir) (Before v)
  takes_within_place ends = takes_inside depth ends

  -- a block, and behind it what may stand there
  pub leads_inner : {B : Type 0} {f : List Statement → Rule B} {v : Follow} → ((x : List Statement)
      → Leads block_ends (f x) v)
      → Leads block_heads (rule.◌>>=◌ ir.block f) v
  leads_inner behind = leads_bind inner.leads behind

  takes_loop_word : {v : Follow} → Takes spec.loop_word (grammar.loop_word looser depth ir) v
  takes_loop_word = takes_or (takes_on_word (kind.Keyword k.While) _ (takes_word (λ line. takes_pure _ _)))
      (takes_off_word (kind.Keyword k.While) _ (leads_begins (begins_word_then (kind.Keyword k.Until))) refl
      (takes_word (λ line. takes_pure _ _)))

  abbrev pub loop_heads : List ℕ
  loop_heads = tag (kind.Keyword k.While) ∷ tag (kind.Keyword k.Until) ∷ []

  pub asks_loop : Asks sees_loop_word loop_heads
  asks_loop = asks_either (asks_kind (kind.Keyword k.While)) (asks_kind (kind.Keyword k.Until))

  pub takes_condition : {p : Reader Expression} {r : Rule Expression} {v : Follow} → Takes p r v
      → BeginsIn expression_heads r → Takes (spec.condition p) (grammar.condition looser depth ir r) v
  takes_condition takes begins = takes_then takes_loop_word (λ found. takes_map _ takes)
      (λ found. leads_begins (begins_then begins))

  pub begins_condition : {r : Rule Expression} → BeginsIn loop_heads (grammar.condition looser depth ir r)
  begins_condition = begins_then (begins_either (begins_word_then (kind.Keyword k.While))
      (begins_word_then (kind.Keyword k.Until)))

  -- ---- If

  takes_else_block : Takes (spec.else_block looser depth ip) (rule.◌>>◌ (words.keyword k.Else) (rule.◌>>◌ grammar.«end»
      ir.block)) (Before block_ends)
  takes_else_block = takes_word (λ _. takes_then (takes_end refl) (λ _. inner.block) (λ _. inner.leads))

  takes_else_part : Takes (spec.else_part looser depth ip) (grammar.else_part looser depth ir)
      (Before (tag (kind.Keyword k.End) ∷ []))
  takes_else_part = takes_or (takes_on_word (kind.Keyword k.Else) _ (takes_within last_apart (takes_map
      (λ body. Some body)
      (takes_before refl takes_else_block))))
      (takes_off_word (kind.Keyword k.Else) _ leads_pure refl (takes_pure None _))

  takes_else_if : Takes (spec.else_if looser depth ip) (grammar.else_if looser depth ir) (Before block_ends)
  takes_else_if = takes_word (λ line. takes_then (takes_within_place refl)
      (λ condition. takes_word (λ _. takes_then (takes_end refl) (λ _. takes_map _ inner.block)
      (λ _. leads_inner (λ body. leads_pure))))
      (λ condition. leads_begins (begins_word_then (kind.Keyword k.Then))))

  takes_else_ifs : Takes (spec.else_ifs looser depth ip) (rule.many (grammar.else_if looser depth ir))
      (Before (tag (kind.Keyword k.Else) ∷ tag (kind.Keyword k.End) ∷ []))
  takes_else_ifs = takes_each (sees (kind.Keyword k.ElseIf)) (begins_word_then (kind.Keyword k.ElseIf))
      (starts_word (kind.Keyword k.ElseIf)) (asks_no (asks_kind (kind.Keyword k.ElseIf)) refl)
      (takes_before refl takes_else_if)

  -- a block If behind its first block
  abbrev others_behind : ℕ → Expression → List Statement → Rule Statement
  others_behind line condition body = rule.◌>>=◌ (rule.many (grammar.else_if looser depth ir)) (λ others.
      rule.◌>>=◌ (grammar.else_part looser depth ir) (λ otherwise. rule.◌>>◌ (words.keyword k.End)
      (rule.◌>>◌ (words.keyword k.If) (rule.pure (statement line (st.If condition body others otherwise))))))

  -- a block If behind its "Then"
  abbrev block_if_behind : ℕ → Expression → Rule Statement
  block_if_behind line condition = rule.◌>>◌ grammar.«end» (rule.◌>>=◌ ir.block (others_behind line condition))

  leads_else : {B : Type 0} {f : Option (List Statement) → Rule B} {v : Follow} → ((x : Option (List Statement))
      → BeginsIn (tag (kind.Keyword k.End) ∷ []) (f x))
      → Leads (tag (kind.Keyword k.Else) ∷ tag (kind.Keyword k.End) ∷ []) (rule.◌>>=◌
      (grammar.else_part looser depth ir) f) v
  leads_else begins = leads_bind (leads_or (leads_begins (begins_word_then (kind.Keyword k.Else))) leads_pure)
      (λ x. leads_begins (begins x))

  leads_others : (line : ℕ) (condition : Expression) (body : List Statement) {v : Follow}
      → Leads block_ends (others_behind line condition body) v
  leads_others line condition body = leads_wider refl (leads_bind (leads_many (begins_word_then
      (kind.Keyword k.ElseIf)))
      (λ others. leads_else (λ otherwise. begins_word_then (kind.Keyword k.End))))

  takes_block_if_from : (line : ℕ) (condition : Expression) {v : Follow} → Takes
      (spec.block_if_from looser depth ip line
      condition) (block_if_behind line condition) v
  takes_block_if_from line condition = takes_then (takes_end refl)
      (λ _. takes_then inner.block (λ body. takes_then takes_else_ifs (λ others. takes_then takes_else_part
      (λ otherwise. takes_word (λ _. takes_word (λ _. takes_pure _ _)))
      (λ otherwise. leads_begins (begins_word_then (kind.Keyword k.End))))
      (λ others. leads_else (λ otherwise. begins_word_then (kind.Keyword k.End))))
      (λ body. leads_others line condition body))
      (λ _. leads_inner (λ body. leads_others line condition body))

  -- a statement and its end
  pub ended : {p : Reader Statement} {r : Rule Statement} {v : List ℕ} → Takes p r (Before break_heads)
      → all_have (outside break_heads) v ≡ true
      → Takes (reader.◌>>=◌ p (λ found. reader.◌>>◌ lines.«end» (reader.pure found)))
      (rule.◌>>=◌ r (λ found. rule.◌>>◌ grammar.«end» (rule.pure found))) (Before v)
  ended takes none = takes_then takes (λ found. takes_map (λ _. found) (takes_end none))
      (λ found. leads_begins (begins_then begins_end))

  -- a one-line If behind its "Then"
  abbrev line_if_behind : ℕ → Expression → Rule (Statement × Bool)
  line_if_behind line condition = rule.◌>>=◌ ir.line (branches looser depth ip ir inner.line line condition)

  -- a one-line If behind its "Then", and its end
  takes_line_if_end : (line : ℕ) (condition : Expression) {v : List ℕ} → all_have (outside break_heads) v ≡ true
      → Takes (reader.◌>>=◌ (lines.line_if_from looser depth ip line condition)
      (λ found. reader.◌>>◌ lines.line_end (reader.pure found.0)))
      (rule.◌>>=◌ (line_if_behind line condition) (λ found. rule.◌>>◌ grammar.line_end (rule.pure found.0))) (Before v)
  takes_line_if_end line condition {v} none = record { takes = go }
    where
      go : (front rest : Tokens) (x : Statement) → rule.◌>>=◌ (line_if_behind line condition)
          (λ found. rule.◌>>◌ grammar.line_end (rule.pure found.0)) front x → Before v rest
          → reader.◌>>=◌ (lines.line_if_from looser depth ip line condition)
          (λ found. reader.◌>>◌ lines.line_end (reader.pure found.0)) (front ++ rest) ≡ Ok (x, rest)
      go front rest x h ok =
          let e = h.next_spells in
          let cut = cut_end e.front e.thing e.first_spells in
          let later = λ (found : lines.LastRead). reader.◌>>◌ lines.line_end (reader.pure {A = Statement} found.0) in
          ap (reader.◌>>=◌ (lines.line_if_from looser depth ip line condition) later)
          (ap (λ t. t ++ rest) (h.split ∙ ap (λ t. h.front ++ t) (e.split ∙ ap (λ t. e.front ++ t) e.next_spells.0
          ∙ append-nil e.front ∙ cut.split)) ∙ append_assoc h.front (cut.colon ++ cut.back) rest
          ∙ ap (λ t. h.front ++ t) (append_assoc cut.colon cut.back rest))
          ∙ ap (λ o. and_then o later) ((takes_line_if_from looser depth ip ir inner.line line condition).takes h.front
          cut.colon (cut.back ++ rest) h.thing cut.taken h.first_spells cut.trails (cut.behind h.thing.1 rest))
          ∙ ap (λ o. and_then o (λ _. reader.pure h.thing.0)) ((takes_line_end none).takes cut.back rest tt cut.ends ok)
          ∙ ap (λ y. Ok (y, rest)) (sym e.next_spells.1)

  -- a block If and its end, or a one-line If and its own
  abbrev pub if_rule : Rule Statement
  if_rule = rule.◌or◌
      (rule.◌>>=◌ (grammar.block_if looser depth ir) (λ found. rule.◌>>◌ grammar.«end» (rule.pure found)))
      (rule.◌>>=◌ (grammar.line_if looser depth ir) (λ found. rule.◌>>◌ grammar.line_end (rule.pure found.0)))

  block_if_behind_begins : (line : ℕ) (condition : Expression) → BeginsIn break_heads (block_if_behind line condition)
  block_if_behind_begins line condition = begins_then begins_end

  takes_if_from_block : (line : ℕ) (condition : Expression) {v : List ℕ} → all_have (outside break_heads) v ≡ true
      → Takes (spec.if_from looser depth ip line condition) (rule.◌>>=◌ (block_if_behind line condition)
      (λ found. rule.◌>>◌ grammar.«end» (rule.pure found))) (Before v)
  takes_if_from_block line condition none = takes_on breaks _ (starts asks_breaks (begins_then
      (block_if_behind_begins line
      condition)) refl) (ended (takes_block_if_from line condition) none)

  takes_if_from_line : (line : ℕ) (condition : Expression) {v : List ℕ} → all_have (outside break_heads) v ≡ true
      → Takes (spec.if_from looser depth ip line condition) (rule.◌>>=◌ (line_if_behind line condition)
      (λ found. rule.◌>>◌ grammar.line_end (rule.pure found.0))) (Before v)
  takes_if_from_line line condition none = takes_off breaks _ (skips asks_breaks (leads_begins (begins_then (begins_then
      inner.line_begins))) refl) (takes_line_if_end line condition none)

  -- "If" expr "Then" before the one or the other
  if_apart : {A B : Type 0} {word : Rule ℕ} {test : Rule Expression} {then : Rule ℕ} {behind : ℕ → Expression → Rule A}
      {f : A → Rule B}
      → Within (rule.◌>>=◌ (rule.◌>>=◌ word (λ line. rule.◌>>=◌ test (λ condition. rule.◌>>◌ then
      (behind line condition)))) f)
      (rule.◌>>=◌ word (λ line. rule.◌>>=◌ test (λ condition. rule.◌>>◌ then (rule.◌>>=◌ (behind line condition) f))))
  if_apart = within_then bind_right (bind_wider (λ line. within_then bind_right (bind_wider (λ condition. bind_right))))

  pub takes_if : {v : List ℕ} → all_have (outside break_heads) v ≡ true → Takes
      (spec.if_sentence looser depth ip) if_rule
      (Before v)
  takes_if none = takes_gated (opens depth) (closed_or
      (closed_first (closed_next (λ line. closed_first (closed_inside depth))))
      (closed_first (closed_next (λ line. closed_first (closed_inside depth)))))
      (takes_or
      (takes_within if_apart (takes_word (λ line. takes_then (takes_within_place refl)
      (λ condition. takes_word (λ _. takes_if_from_block line condition none))
      (λ condition. leads_begins (begins_word_then (kind.Keyword k.Then))))))
      (takes_within if_apart (takes_word (λ line. takes_then (takes_within_place refl)
      (λ condition. takes_word (λ _. takes_if_from_line line condition none))
      (λ condition. leads_begins (begins_word_then (kind.Keyword k.Then)))))))
