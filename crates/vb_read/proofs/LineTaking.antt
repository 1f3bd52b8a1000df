-- The readers of lines take whatever the grammar spells, and a ":" behind it that belongs to what ends the line.
use Rattle.std.proofs.Common.{◌≡◌, ℕ, ◌||◌, not, inl, inr, Bool, true, false, IsTrue, cond, List, [], ◌∷◌, ◌++◌}
use Rattle.std.proofs.Common.{Option, Some, None, Ok, refl, sym, ap, ◌∙◌, subst, append_assoc, append-nil}
use Rattle.std.specs.declared.ops.ControlFlow.TheVariants.{Continue, Break}
use Rattle.vb_value.specs.declared.token.Keyword.TheVariants as k
use Rattle.vb_value.specs.declared.token.Symbol.TheVariants as s
use Rattle.vb_value.specs.declared.token.Token.{Token}
use Rattle.vb_value.specs.declared.token.TokenKind.{TokenKind}
use Rattle.vb_value.specs.declared.token.TokenKind.TheVariants as kind
use Rattle.vb_syntax.specs.declared.expression.Expression.{Expression}
use Rattle.vb_syntax.specs.declared.statement.Statement.{Statement}
use Rattle.vb_syntax.specs.declared.statement.StatementKind.TheVariants as st
use Rattle.vb_syntax.specs.grammar.Rules.{Tokens, Rule}
use Rattle.vb_syntax.specs.grammar.Rules as rule
use Rattle.vb_syntax.specs.grammar.Words as words
use Rattle.vb_syntax.specs.grammar.Words.{tag}
use Rattle.vb_syntax.specs.grammar.SimpleStatements.{Looser, statement, simple}
use Rattle.vb_syntax.specs.grammar.Statements as grammar
use Rattle.vb_read.specs.Reader.{Reader, Turn, and_then, next, sees}
use Rattle.vb_read.specs.Reader as reader
use Rattle.vb_read.specs.ReadLines as spec
use Rattle.vb_read.specs.ReadLines.{begins_line_statement, kind_begins_line_statement, LineRead, LastRead}
use Rattle.vb_read.specs.Depths.{opens}
use Rattle.vb_read.proofs.Taking.{Any, Takes, takes_one}
use Rattle.vb_read.proofs.Binding.{within_then, bind_right, bind_wider, pure_out}
use Rattle.vb_read.proofs.Beginning.{HeadIn}
use Rattle.vb_read.proofs.Tags.{among}
use Rattle.vb_read.proofs.Following.{Before, before_head, before_wider, BeginsIn, leads_begins, begins_kind}
use Rattle.vb_read.proofs.Following.{begins_then, begins_word_then, begins_either, begins_more, full_begins, Asks}
use Rattle.vb_read.proofs.Following.{asks_kind, asks_no, skips, starts, Ahead, ahead_many, Closed, closed_first}
use Rattle.vb_read.proofs.Following.{closed_next}
use Rattle.vb_read.proofs.Choosing.{starts_word, takes_within, until_takes}
use Rattle.vb_read.proofs.Placing.{takes_inside, closed_inside}
use Rattle.vb_read.proofs.CallTaking.{statement_ends}
use Rattle.vb_read.proofs.SimpleTaking.{simple_heads, takes_simple, begins_simple}

-- ---- what stands behind a line

-- the ":" that the reader took, or nothing
abbrev pub Trailing : Bool → Tokens → Type 0
Trailing true colon = (line : ℕ) × words.symbol s.Colon colon line
Trailing false colon = colon ≡ []

-- what may stand behind, where an Else would belong to an If of the line or not, and where a ":" was taken or not
abbrev pub after_line : Bool → Bool → List ℕ
after_line takes_else true = tag (kind.Symbol s.Colon) ∷ tag kind.LineEnd ∷ []
after_line true false = tag kind.LineEnd ∷ []
after_line false false = tag kind.LineEnd ∷ tag (kind.Keyword k.Else) ∷ []

pub record TakesTrailing {A B : Type 0} (p : Reader B) (r : Rule A) (takes_else : A → Bool) (found : A → Bool → B)
    : Type 0 where
  pub takes : (front colon rest : Tokens) (x : A) (taken : Bool) → r front x → Trailing taken colon
      → Before (after_line (takes_else x) taken) rest → p (front ++ (colon ++ rest)) ≡ Ok (found x taken, rest)

-- lines, and one-line Ifs
abbrev pub TakesLine : Reader LineRead → Rule grammar.Line → Type 0
TakesLine p r = TakesTrailing p r (λ x. x.takes_else) (λ x taken. (x.statements, x.takes_else, taken))

abbrev pub TakesLast : Reader LastRead → Rule (Statement × Bool) → Type 0
TakesLast p r = TakesTrailing p r (λ x. x.1) (λ x taken. (x.0, x.1, taken))

trailing_bind : {A C D : Type 0} {p : Reader A} {f : A → Reader D} {r : Rule A} {g : A → Rule C} {e : C → Bool}
    {y : C → Bool → D} {l : List ℕ} → Takes p r (Before l) → ((x : A) → BeginsIn l (g x))
    → ((x : A) → TakesTrailing (f x) (g x) e y) → TakesTrailing (reader.◌>>=◌ p f) (rule.◌>>=◌ r g) e y
trailing_bind {A} {C} {D} {p} {f} {r} {g} {e} {y} {l} first begins second = record {
  takes = λ front colon rest x taken h trails ok.
      ap (λ t. and_then (p t) f) (ap (λ t. t ++ (colon ++ rest)) h.split ∙ append_assoc h.front h.back (colon ++ rest))
      ∙ ap (λ o. and_then o f) (first.takes h.front (h.back ++ (colon ++ rest)) h.thing h.first_spells
      (before_head l h.back (colon ++ rest) ((begins h.thing).head h.back x h.next_spells)))
      ∙ (second h.thing).takes h.back colon rest x taken h.next_spells trails ok;
}

trailing_word : {A C D : Type 0} {test : Token → Option A} {f : A → Reader D} {g : A → Rule C} {e : C → Bool}
    {y : C → Bool → D} → ((x : A) → TakesTrailing (f x) (g x) e y)
    → TakesTrailing (reader.◌>>=◌ (reader.one test) f) (rule.◌>>=◌ (rule.one test) g) e y
trailing_word {A} {C} {D} {test} {f} {g} {e} {y} second = record {
  takes = λ front colon rest x taken h trails ok.
      ap (λ t. and_then (reader.one test t) f) (ap (λ t. t ++ (colon ++ rest)) h.split
      ∙ append_assoc h.front h.back (colon ++ rest))
      ∙ ap (λ o. and_then o f) ((takes_one test Any).takes h.front (h.back ++
      (colon ++ rest)) h.thing h.first_spells tt)
      ∙ (second h.thing).takes h.back colon rest x taken h.next_spells trails ok;
}

trailing_map : {A B C D : Type 0} {p : Reader B} {r : Rule A} {e : A → Bool} {y : A → Bool → B} (f : B → D) (g : A → C)
    {more_e : C → Bool} {more_y : C → Bool → D} → ((x : A) → more_e (g x) ≡ e x)
    → ((x : A) (taken : Bool) → f (y x taken) ≡ more_y (g x) taken) → TakesTrailing p r e y
    → TakesTrailing (reader.◌>>=◌ p (λ z. reader.pure (f z))) (rule.◌>>=◌ r (λ x. rule.pure (g x))) more_e more_y
trailing_map {A} {B} {C} {D} {p} {r} {e} {y} f g {more_e} {more_y} same reads inner = record {
  takes = λ front colon rest x taken h trails ok.
      ap (λ t. and_then (p (t ++ (colon ++ rest))) (λ z. reader.pure (f z))) (h.split ∙ ap (λ t. h.front ++ t)
      h.next_spells.0 ∙ append-nil h.front)
      ∙ ap (λ o. and_then o (λ z. reader.pure (f z))) (inner.takes h.front colon rest h.thing taken h.first_spells
      trails
      (subst (λ b. Before (after_line b taken) rest) (ap more_e h.next_spells.1 ∙ same h.thing) ok))
      ∙ ap (λ z. Ok (z, rest)) (reads h.thing taken ∙ ap (λ z. more_y z taken) (sym h.next_spells.1));
}

trailing_gated : {A B : Type 0} (o : Bool) {p : Reader B} {r : Rule A} {e : A → Bool} {y : A → Bool → B} → Closed o r
    → TakesTrailing p r e y → TakesTrailing (reader.gate o p) r e y
trailing_gated true closed takes = takes
trailing_gated false closed takes = record {
  takes = λ front colon rest x taken h trails ok. absurd (closed.none refl front x h);
}

-- ---- what begins a statement of a line

abbrev pub line_heads : List ℕ
line_heads = tag (kind.Keyword k.If) ∷ simple_heads

line_tag : (kind : TokenKind) → kind_begins_line_statement kind ≡ among line_heads (tag kind)
line_tag (kind.Keyword k.And) = refl
line_tag (kind.Keyword _) = refl
line_tag (kind.Symbol s.Open) = refl
line_tag (kind.Symbol _) = refl
line_tag _ = refl

pub asks_line : Asks begins_line_statement line_heads
asks_line = record { none = refl; some = λ token. line_tag token.kind }

module _ (looser : Looser) (depth : ℕ) (lp : spec.Blocks) (lr : grammar.Blocks)
    (inner : TakesLine lp.line lr.line) where
  -- ---- one-line Ifs

  -- what stands behind the first branch
  abbrev pub branches : ℕ → Expression → grammar.Line → Rule (Statement × Bool)
  branches line condition body = rule.◌or◌
      (rule.pure (statement line (st.LineIf condition body.statements None), true))
      (rule.where_true (not body.takes_else) (rule.◌>>◌ (words.keyword k.Else) (rule.◌>>=◌ lr.line (λ other. rule.pure (
        statement line (st.LineIf condition body.statements (Some other.statements)),
        other.takes_else,
      )))))

  -- where no Else may stand, none may stand behind any line
  no_else : (takes_else taken : Bool) (rest : Tokens) → Before (after_line true taken) rest
      → Before (after_line takes_else taken) rest
  no_else takes_else true rest ok = ok
  no_else true false rest ok = ok
  no_else false false rest ok = before_wider (after_line true false) (after_line false false) refl rest ok

  without_else : (line : ℕ) (condition : Expression) (body : grammar.Line) (taken : Bool) (rest : Tokens)
      → Before (after_line true taken) rest → spec.else_line looser depth lp (taken || body.takes_else) line condition (
        body.statements,
        body.takes_else,
        taken,
      ) rest ≡ Ok ((statement line (st.LineIf condition body.statements None), true, taken), rest)
  without_else line condition body true rest ok = refl
  without_else line condition body false rest ok = go body.takes_else
    where
      go : (b : Bool) → spec.else_line looser depth lp b line condition (
        body.statements,
        body.takes_else,
        false,
      ) rest ≡ Ok ((statement line (st.LineIf condition body.statements None), true, false), rest)
      go true = refl
      go false = rw (asks_no (asks_kind (kind.Keyword k.Else)) refl rest ok) refl

  with_else : (line : ℕ) (condition : Expression) (body : grammar.Line) → TakesLast
      (reader.◌>>◌ (reader.keyword k.Else) (reader.◌>>=◌ lp.line (λ other. reader.pure (
        statement line (st.LineIf condition body.statements (Some other.0)),
        other.1,
        other.2,
      ))))
      (rule.◌>>◌ (words.keyword k.Else) (rule.◌>>=◌ lr.line (λ other. rule.pure (
        statement line (st.LineIf condition body.statements (Some other.statements)),
        other.takes_else,
      ))))
  with_else line condition body = trailing_word (λ _. trailing_map _ _ (λ x. refl) (λ x taken. refl) inner)

  not_true : (b : Bool) → IsTrue (not b) → b ≡ false
  not_true true is = absurd cc
  not_true false is = refl

  pub takes_line_if_from : (line : ℕ) (condition : Expression) → TakesLast
      (spec.line_if_from looser depth lp line condition)
      (rule.◌>>=◌ lr.line (branches line condition))
  takes_line_if_from line condition = record { takes = go }
    where
      go : (front colon rest : Tokens) (x : Statement × Bool) (taken : Bool)
          → rule.◌>>=◌ lr.line (branches line condition) front x → Trailing taken colon
          → Before (after_line x.1 taken) rest
          → spec.line_if_from looser depth lp line condition (front ++ (colon ++ rest)) ≡ Ok ((x.0, x.1, taken), rest)
      go front colon rest x taken h trails ok = which h.next_spells
        where
          which : branches line condition h.thing h.back x
              → spec.line_if_from looser depth lp line condition (front ++ (colon ++ rest)) ≡ Ok
              ((x.0, x.1, taken), rest)
          which (inl w) =
              let ends : Before (after_line true taken) rest = subst (λ y. Before (after_line y.1 taken) rest) w.1 ok in
              ap (λ t. spec.line_if_from looser depth lp line condition (t ++ (colon ++ rest))) (h.split
              ∙ ap (λ t. h.front ++ t) w.0 ∙ append-nil h.front)
              ∙ ap (λ o. and_then o (λ body. spec.else_line looser depth lp (body.2 || body.1) line condition body))
              (inner.takes h.front colon rest h.thing taken h.first_spells trails
              (no_else h.thing.takes_else taken rest ends))
              ∙ without_else line condition h.thing taken rest ends
              ∙ ap (λ y. Ok ((y.0, y.1, taken), rest)) (sym w.1)
          which (inr w) =
              let behind : Tokens = h.back ++ (colon ++ rest) in
              let closes : h.thing.takes_else ≡ false = not_true h.thing.takes_else w.0 in
              let head : Before (after_line false false) behind = before_wider (tag (kind.Keyword k.Else) ∷ [])
              (after_line false false) refl behind (before_head (tag (kind.Keyword k.Else) ∷ []) h.back (colon ++ rest)
              ((begins_word_then (kind.Keyword k.Else)).head h.back x w.1)) in
              let first : lp.line (h.front ++ behind) ≡ Ok ((h.thing.statements, h.thing.takes_else, false), behind) =
              inner.takes h.front [] behind h.thing false h.first_spells refl
              (subst (λ b. Before (after_line b false) behind) (sym closes) head) in
              ap (spec.line_if_from looser depth lp line condition) (ap (λ t. t ++ (colon ++ rest)) h.split
              ∙ append_assoc h.front h.back (colon ++ rest))
              ∙ ap (λ o. and_then o (λ body. spec.else_line looser depth lp
              (body.2 || body.1) line condition body)) first
              ∙ ap (λ b. spec.else_line looser depth lp b line condition (
                h.thing.statements,
                h.thing.takes_else,
                false,
              ) behind) closes
              ∙ (rw (starts_word (kind.Keyword k.Else) h.back (colon ++ rest) x w.1)
              ((with_else line condition h.thing).takes h.back colon rest x taken w.1 trails ok))

  begins_from : (line : ℕ) (condition : Expression) → BeginsIn (tag (kind.Keyword k.Then) ∷ [])
      (rule.◌>>◌ (words.keyword k.Then) (rule.◌>>=◌ lr.line (branches line condition)))
  begins_from line condition = begins_word_then (kind.Keyword k.Then)

  closed_line_if : Closed (opens depth) (grammar.line_if looser depth lr)
  closed_line_if = closed_next (λ line. closed_first (closed_inside depth))

  takes_line_if : TakesLast (spec.line_if looser depth lp) (grammar.line_if looser depth lr)
  takes_line_if = trailing_gated (opens depth) closed_line_if (trailing_word (λ line. trailing_bind
      (takes_inside depth refl) (begins_from line) (λ condition. trailing_word
      (λ _. takes_line_if_from line condition))))

  -- ---- lines

  abbrev TurnOf : Reader (Turn Statement LastRead)
  TurnOf = spec.line_turn looser depth lp

  abbrev first_rule : Rule Statement
  first_rule = rule.◌>>=◌ (simple looser depth) (λ found. rule.◌>>◌ (words.symbol s.Colon) (rule.pure found))

  abbrev last_rule : Rule (Statement × Bool)
  last_rule = rule.◌or◌ (rule.◌>>=◌ (simple looser depth) (λ found. rule.pure (found, false)))
      (grammar.line_if looser depth lr)

  -- a simple statement, and what the turn does behind it
  simple_turn : (front rest : Tokens) (x : Statement) → simple looser depth front x → Before statement_ends rest
      → TurnOf (front ++ rest) ≡ spec.behind_simple looser depth lp x rest
  simple_turn front rest x h ok = rw (skips (asks_kind (kind.Keyword k.If)) (leads_begins {v = Any}
      (begins_simple looser
      depth)) refl front rest x h tt) (ap (λ o. and_then o (spec.behind_simple looser depth lp))
      ((takes_simple looser depth).takes front rest x h ok))

  colon_ends : (colon rest : Tokens) (line : ℕ) → words.symbol s.Colon colon line → Before statement_ends
      (colon ++ rest)
  colon_ends colon rest line h = before_wider (tag (kind.Symbol s.Colon) ∷ []) statement_ends refl (colon ++ rest)
      (before_head (tag (kind.Symbol s.Colon) ∷ []) colon rest ((begins_kind (kind.Symbol s.Colon)).head colon line h))

  -- behind a ":" a statement comes, or none
  behind_colon : (colon rest : Tokens) (line : ℕ) (x : Statement) (begins : Bool) → words.symbol s.Colon colon line
      → begins_line_statement (next rest) ≡ begins
      → spec.behind_simple looser depth lp x (colon ++ rest) ≡ cond begins (Ok (Continue x, rest)) (Ok (
        Break (
          x,
          false,
          true,
        ),
        rest,
      ))
  behind_colon colon rest line x begins h is = rw (
    starts (asks_kind (kind.Symbol s.Colon)) (begins_kind (kind.Symbol s.Colon)) refl colon rest line h,
    (takes_one (words.line_of (tag (kind.Symbol s.Colon))) Any).takes colon rest line h tt,
    is,
  ) refl

  statement_ahead : (rest : Tokens) → Ahead line_heads rest → begins_line_statement (next rest) ≡ true
  statement_ahead rest ahead = rw ahead.head.2 (asks_line.some ahead.head.0 ∙ ahead.head.3)

  -- a statement and the ":" before the next one
  onward : Takes TurnOf (rule.◌>>=◌ first_rule (λ x. rule.pure (Continue x))) (Ahead line_heads)
  onward = takes_within (within_then bind_right (bind_wider (λ found. within_then bind_right (bind_wider
      (λ _. pure_out)))))
      (record { takes = go })
    where
      go : (front rest : Tokens) (x : Turn Statement LastRead) → rule.◌>>=◌ (simple looser depth)
          (λ found. rule.◌>>◌ (words.symbol s.Colon) (rule.pure (Continue found))) front x → Ahead line_heads rest
          → TurnOf (front ++ rest) ≡ Ok (x, rest)
      go front rest x h ahead = let c = h.next_spells in
          ap TurnOf (ap (λ t. t ++ rest) (h.split ∙ ap (λ t. h.front ++ t) (c.split ∙ ap
          (λ t. c.front ++ t) c.next_spells.0
          ∙ append-nil c.front)) ∙ append_assoc h.front c.front rest)
          ∙ simple_turn h.front (c.front ++ rest) h.thing h.first_spells
          (colon_ends c.front rest c.thing c.first_spells)
          ∙ behind_colon c.front rest c.thing h.thing true c.first_spells (statement_ahead rest ahead)
          ∙ ap (λ y. Ok (y, rest)) (sym c.next_spells.1)

  -- the last statement, where a ":" was taken behind it or not
  last_simple : (front colon rest : Tokens) (x : Statement) (taken : Bool) → simple looser depth front x
      → Trailing taken colon → Before (after_line false taken) rest
      → TurnOf (front ++ (colon ++ rest)) ≡ Ok (Break (x, false, taken), rest)
  last_simple front colon rest x true h trails ok = simple_turn front (colon ++ rest) x h
      (colon_ends colon rest trails.0
      trails.1) ∙ behind_colon colon rest trails.0 x false trails.1 (asks_no asks_line refl rest ok)
  last_simple front colon rest x false h trails ok = ap (λ t. TurnOf (front ++ (t ++ rest))) trails
      ∙ simple_turn front rest x h (before_wider (after_line false false) statement_ends refl rest ok)
      ∙ (rw (asks_no (asks_kind (kind.Symbol s.Colon)) refl rest ok) refl)

  last : TakesTrailing TurnOf last_rule (λ x. x.1) (λ x taken. Break (x.0, x.1, taken))
  last = record { takes = go }
    where
      go : (front colon rest : Tokens) (x : Statement × Bool) (taken : Bool) → last_rule front x → Trailing taken colon
          → Before (after_line x.1 taken) rest → TurnOf (front ++ (colon ++ rest)) ≡ Ok (Break (x.0, x.1, taken), rest)
      go front colon rest x taken (inl h) trails ok =
          ap (λ t. TurnOf (t ++ (colon ++ rest))) (h.split ∙ ap (λ t. h.front ++ t) h.next_spells.0
          ∙ append-nil h.front)
          ∙ last_simple h.front colon rest h.thing taken h.first_spells trails (subst (λ y. Before
          (after_line y.1 taken)
          rest) h.next_spells.1 ok)
          ∙ ap (λ y. Ok (Break (y.0, y.1, taken), rest)) (sym h.next_spells.1)
      go front colon rest x taken (inr h) trails ok = rw (starts_word (kind.Keyword k.If) front (colon ++ rest) x h)
          (ap (λ o. and_then o (λ found. reader.pure (Break found)))
          (takes_line_if.takes front colon rest x taken h trails
          ok))

  first_begins : BeginsIn line_heads first_rule
  first_begins = begins_more refl (begins_then (begins_simple looser depth))

  last_begins : BeginsIn line_heads last_rule
  last_begins = begins_more refl (begins_either (begins_then (begins_simple looser depth))
      (begins_word_then (kind.Keyword k.If)))

  pub begins_line : BeginsIn line_heads (grammar.line looser depth lr)
  begins_line = record { head = go }
    where
      go : (front : Tokens) (x : grammar.Line) → grammar.line looser depth lr front x → HeadIn (among line_heads) front
      go front x h = let z = h.next_spells in
          let behind : Ahead line_heads h.back = record { head = (begins_then last_begins).head h.back x z } in
          subst (λ t. HeadIn (among line_heads) t) (sym h.split)
          (ahead_many first_begins h.thing h.front h.back h.first_spells behind).head

  pub takes_line : TakesLine (spec.line looser depth lp) (grammar.line looser depth lr)
  takes_line = record { takes = go }
    where
      go : (front colon rest : Tokens) (x : grammar.Line) (taken : Bool) → grammar.line looser depth lr front x
          → Trailing taken colon → Before (after_line x.takes_else taken) rest
          → spec.line looser depth lp (front ++ (colon ++ rest)) ≡ Ok ((x.statements, x.takes_else, taken), rest)
      go front colon rest x taken h trails ok =
          let z = h.next_spells in
          let behind : Tokens = z.front ++ (colon ++ rest) in
          let head = last_begins.head z.front z.thing z.first_spells in
          let ahead : Ahead line_heads behind = record {
            head = (head.0, head.1 ++ (colon ++ rest), ap (λ t. t ++ (colon ++ rest)) head.2, head.3);
          } in
          ap (spec.line looser depth lp) (ap (λ t. t ++ (colon ++ rest)) (h.split ∙ ap (λ t. h.front ++ t) (z.split
          ∙ ap (λ t. z.front ++ t) z.next_spells.0 ∙ append-nil z.front)) ∙ append_assoc h.front z.front
          (colon ++ rest))
          ∙ ap (λ o. and_then o (λ found. reader.pure (found.0 ++ found.1.0 ∷ [], found.1.1, found.1.2)))
          (until_takes TurnOf first_rule onward (full_begins first_rule first_begins) h.thing h.front behind rest
          (z.thing.0, z.thing.1, taken) h.first_spells (λ ys more w. ahead_many first_begins ys more behind w ahead)
          (last.takes z.front colon rest z.thing taken z.first_spells trails
          (subst (λ y. Before (after_line y.takes_else taken) rest) z.next_spells.1 ok)))
          ∙ ap (λ y. Ok ((y.statements, y.takes_else, taken), rest)) (sym z.next_spells.1)
