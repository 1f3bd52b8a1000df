-- The longest path at the front, and what its steps end in.
use Rattle.std.proofs.Common.{◌≡◌, ℕ, zero, suc, ◌==◌, inl, inr, Bool, true, false, List, [], ◌∷◌, ◌++◌, Some, Ok, Err}
use Rattle.std.proofs.Common.{refl, sym, ap, ◌∙◌, append_assoc, append-nil, subst}
use Rattle.std.proofs.lemmas.Bool.{eqb-true}
use Rattle.vb_value.specs.declared.token.Keyword.TheVariants as k
use Rattle.vb_value.specs.declared.token.Symbol.TheVariants as s
use Rattle.vb_value.specs.declared.token.TokenKind.{TokenKind}
use Rattle.vb_value.specs.declared.token.TokenKind.TheVariants as kind
use Rattle.vb_syntax.specs.declared.expression.Expression.{Expression}
use Rattle.vb_syntax.specs.declared.expression.Expression.TheOpen.{Step-F}
use Rattle.vb_syntax.specs.declared.expression.PathHead.{PathHead}
use Rattle.vb_syntax.specs.declared.expression.PathHead.TheVariants as head
use Rattle.vb_syntax.specs.declared.expression.Step.{Step, out-Step}
use Rattle.vb_syntax.specs.declared.expression.Step.TheVariants as behind
use Rattle.vb_syntax.specs.declared.expression.Step.TheVariants.{outs-Group, outs-Member}
use Rattle.vb_syntax.specs.grammar.Rules.{Tokens, Rule}
use Rattle.vb_syntax.specs.grammar.Rules as rule
use Rattle.vb_syntax.specs.grammar.Words as words
use Rattle.vb_syntax.specs.grammar.Words.{tag, name_of, name_of_kind}
use Rattle.vb_syntax.specs.grammar.Expressions as expressions
use Rattle.vb_syntax.specs.grammar.SimpleStatements as grammar
use Rattle.vb_syntax.specs.grammar.SimpleStatements.{Looser, named_at, ends_in_group}
use Rattle.vb_read.specs.Reader.{Reader, Outcome, and_then, next}
use Rattle.vb_read.specs.Reader as reader
use Rattle.vb_read.specs.ReadExpressions as read
use Rattle.vb_read.specs.ReadExpressions.{goes_on_path}
use Rattle.vb_read.specs.ReadCalls as spec
use Rattle.vb_read.specs.ReadCalls.{Tail, plain, grouped, tail}
use Rattle.vb_read.specs.Depths.{opens, inside}
use Rattle.vb_read.proofs.Reading.{Reads, NoEmpty, Moves, moves, ok_tail, reads_pure, reads_bind, reads_one}
use Rattle.vb_read.proofs.Reading.{reads_choice, reads_many, reads_word, reads_name, full_one, full_bind, full_word}
use Rattle.vb_read.proofs.Reading.{token_of}
use Rattle.vb_read.proofs.Taking.{Any, Takes, takes_pure, takes_one, takes_bind, takes_case, only}
use Rattle.vb_read.proofs.Beginning.{HeadIn, Begins, begins_bind, begins_word, sees_true, sees_false, name_tag}
use Rattle.vb_read.proofs.ExpressionReading.{reads_step, full_step}
use Rattle.vb_read.proofs.ExpressionEnds.{PathEnds, answer, at_word}
use Rattle.vb_read.proofs.ExpressionTaking.{takes_steps}
use Rattle.vb_read.proofs.Turns.{inner_at, taken_inside}
use Rattle.vb_read.proofs.Guarding.{many_stops}

-- ---- steps

pub reads_path_step : (depth : ℕ) → Reads (read.step (opens depth) (inside depth)) (grammar.path_step depth)
reads_path_step zero = reads_step false _ _ (inner_at zero)
reads_path_step (suc depth) = reads_step true _ _ (inner_at (suc depth))

pub full_path_step : (depth : ℕ) → NoEmpty (grammar.path_step depth)
full_path_step zero = full_step false _ _ (inner_at zero)
full_path_step (suc depth) = full_step true _ _ (inner_at (suc depth))

pub moves_path_step : (depth : ℕ) → Moves (read.step (opens depth) (inside depth))
moves_path_step depth = moves _ _ (reads_path_step depth) (full_path_step depth)

pub reads_path_steps : (depth : ℕ) → Reads (read.steps (opens depth) (inside depth))
    (rule.many (grammar.path_step depth))
reads_path_steps depth = reads_many goes_on_path (reads_path_step depth) (full_path_step depth) refl

pub takes_path_steps : (depth : ℕ) → Takes (read.steps (opens depth) (inside depth))
    (rule.many (grammar.path_step depth)) PathEnds
takes_path_steps zero = takes_steps false _ _ (inner_at zero) (taken_inside zero)
takes_path_steps (suc depth) = takes_steps true _ _ (inner_at (suc depth)) (taken_inside (suc depth))

-- ---- paths

pub reads_head_at : Reads spec.head_at grammar.head_at
reads_head_at = reads_choice (reader.passes name_of)
    (reads_one named_at (token_of (kind.Name [] false)) (1, head.Name []) refl)
    (reads_choice (reader.sees (kind.Keyword k.Me))
    (reads_bind (reads_word (kind.Keyword k.Me)) (λ line. reads_pure (line, head.Me)))
    (reads_bind (reads_word (kind.Symbol s.WithPoint)) (λ line. reads_bind reads_name
    (λ name. reads_pure (line, head.With name)))))

pub full_head_at : NoEmpty grammar.head_at
full_head_at front x (inl h) = full_one named_at front x h
full_head_at front x (inr (inl h)) = full_bind _ _ (full_word (kind.Keyword k.Me)) front x h
full_head_at front x (inr (inr h)) = full_bind _ _ (full_word (kind.Symbol s.WithPoint)) front x h

module _ (looser : Looser) (depth : ℕ) where
  pub reads_path_at : Reads (spec.path_at depth) (grammar.path_at looser depth)
  reads_path_at = reads_bind reads_head_at (λ found. reads_bind (reads_path_steps depth)
      (λ steps. reads_pure (found.0, found.1, steps)))

  pub full_path_at : NoEmpty (grammar.path_at looser depth)
  full_path_at = full_bind _ _ full_head_at

-- behind a path that was read nothing goes on with it
pub path_stops : (depth : ℕ) (tokens rest : Tokens) (x : ℕ × PathHead × List Step)
    → spec.path_at depth tokens ≡ Ok (x, rest) → goes_on_path (next rest) ≡ false
path_stops depth tokens rest x e = head (spec.head_at tokens) e
  where
    more : (found : ℕ × PathHead) (behind : Tokens) (o : Outcome (List Step))
        → read.steps (opens depth) (inside depth) behind ≡ o
        → and_then o (λ steps. reader.pure (found.0, found.1, steps)) ≡ Ok (x, rest) → goes_on_path (next rest) ≡ false
    more found behind (Ok q) is e =
        let same : q.1 ≡ rest = ok_tail (found.0, found.1, q.0) x q.1 rest e in
        ap (λ t. goes_on_path (next t)) (sym same)
        ∙ many_stops goes_on_path (read.step (opens depth) (inside depth)) (moves_path_step depth) refl behind q.0 q.1
        is
    more found behind (Err w) is e = absurd cc

    head : (o : Outcome (ℕ × PathHead))
        → and_then o (λ found. reader.◌>>=◌ (read.steps (opens depth) (inside depth))
        (λ steps. reader.pure (found.0, found.1, steps))) ≡ Ok (x, rest) → goes_on_path (next rest) ≡ false
    head (Ok q) e = more q.0 q.1 (read.steps (opens depth) (inside depth) q.1) refl e
    head (Err w) e = absurd cc

-- ---- the longest path is taken

named-tag : (word : TokenKind) (line : ℕ) (found : ℕ × PathHead) → grammar.named_by
    (name_of_kind word) line ≡ Some found
    → (tag word == tag (kind.Name [] false)) ≡ true
named-tag (kind.Name text bracketed) line found e = refl
named-tag (kind.Keyword keyword) line found e = absurd cc
named-tag (kind.Symbol symbol) line found e = absurd cc
named-tag _ line found e = absurd cc

pub begins_named : Begins (λ n. n == tag (kind.Name [] false)) (rule.one named_at)
begins_named = record { head = λ front x h. (h.token, [], h.alone, named-tag h.token.kind h.token.line x h.passes) }

pub takes_head_at : Takes spec.head_at grammar.head_at Any
takes_head_at = takes_case (reader.passes name_of)
    (takes_one _ Any)
    (takes_case (reader.sees (kind.Keyword k.Me))
    (takes_bind (takes_one _ Any) (λ line. takes_pure (line, head.Me) Any) (λ _ _ _ _ _ _. tt))
    (takes_bind (takes_one _ Any) (λ line. takes_bind (takes_one _ Any)
    (λ name. takes_pure (line, head.With name) Any) (λ _ _ _ _ _ _. tt)) (λ _ _ _ _ _ _. tt))
    (λ front rest x h ok. sees_true (kind.Keyword k.Me) front rest ((begins_bind (begins_word (kind.Keyword
    k.Me))).head front x h))
    (λ front rest x h ok. sees_false (λ n. n == tag (kind.Symbol s.WithPoint))
    (kind.Keyword k.Me) front rest ((begins_bind (begins_word (kind.Symbol s.WithPoint))).head front x
    h) refl))
    (λ front rest x h ok. answer (reader.passes name_of) true begins_named
    (λ token e. name_tag token.kind ∙ e) front rest x h)
    other
  where
    other : (front rest : Tokens) (x : ℕ × PathHead)
        → rule.◌or◌ (rule.◌>>=◌ (words.keyword k.Me) (λ line. rule.pure (line, head.Me)))
        (rule.◌>>=◌ (words.symbol s.WithPoint) (λ line. rule.◌>>=◌ (rule.one name_of)
        (λ name. rule.pure (line, head.With name)))) front x → Any rest
        → reader.passes name_of (next (front ++ rest)) ≡ false
    other front rest x (inl h) ok = answer (reader.passes name_of) false (begins_bind (begins_word (kind.Keyword
        k.Me))) (λ token e. name_tag token.kind
        ∙ at_word (λ n. n == tag (kind.Name [] false)) (tag (kind.Keyword k.Me)) false refl (tag token.kind) e)
        front rest x h
    other front rest x (inr h) ok = answer (reader.passes name_of) false (begins_bind (begins_word (kind.Symbol
        s.WithPoint))) (λ token e. name_tag token.kind
        ∙ at_word (λ n. n == tag (kind.Name [] false)) (tag (kind.Symbol s.WithPoint)) false refl (tag token.kind) e)
        front rest x h

module _ (looser : Looser) (depth : ℕ) where
  pub takes_path_at : Takes (spec.path_at depth) (grammar.path_at looser depth) PathEnds
  takes_path_at = takes_bind takes_head_at (λ found. takes_bind (takes_path_steps depth)
      (λ steps. takes_pure (found.0, found.1, steps) PathEnds) (λ steps y back rest h ok. rw h.0 ok))
      (λ _ _ _ _ _ _. tt)

  -- a longest path that no "=" follows begins no assignment
  pub no_assignment : (front back : Tokens) (target : ℕ × PathHead × List Step)
      → grammar.path_at looser depth front target → PathEnds back
      → reader.sees (kind.Symbol s.Equal) (next back) ≡ false
      → ¬ (grammar.Begins (rule.◌>>◌ (grammar.path_at looser depth) (words.symbol s.Equal)) (front ++ back))
  no_assignment front back target h ends differs b =
      let t = b.3 in
      let w = (begins_word (kind.Symbol s.Equal)).head t.back b.2 t.next_spells in
      let behind : Tokens = t.back ++ b.1 in
      let is : reader.sees (kind.Symbol s.Equal) (next behind) ≡ true = sees_true (kind.Symbol s.Equal) t.back b.1 w in
      let longest : spec.path_at depth (front ++ back) ≡ Ok (target, back) = takes_path_at.takes front back target h
      ends in
      let other : spec.path_at depth (t.front ++ behind) ≡ Ok (
        t.thing,
        behind,
      ) = takes_path_at.takes t.front behind t.thing t.first_spells (stops t.back b.1 w) in
      let same : front ++ back ≡ t.front ++ behind = b.4 ∙ ap (λ l. l ++ b.1) t.split
      ∙ append_assoc t.front t.back b.1 in
      let tails : back ≡ behind = ok_tail target t.thing back behind (sym longest ∙ ap (spec.path_at depth) same
      ∙ other) in
      let clash : true ≡ false = sym is ∙ ap (λ l. reader.sees (kind.Symbol s.Equal) (next l)) (sym tails)
      ∙ differs in
      cc
    where
      stops : (front rest : Tokens) → HeadIn (λ n. n == tag (kind.Symbol s.Equal)) front → PathEnds (front ++ rest)
      stops front rest w = let is : tag w.0.kind ≡ tag (kind.Symbol s.Equal) = eqb-true _ _ w.3 in rw w.2 (rw is refl)

-- ---- what a path's steps end in

-- steps of which the last is a parenthesis are other steps and it
pub record Grouped (steps_rule : Rule Step) (group_rule : Rule (List Expression)) (front : Tokens) (steps : List Step)
    (held : List Expression) : Type 0 where
  pub before : Tokens
  pub group : Tokens
  pub split : front ≡ before ++ group
  pub steps_spell : rule.many steps_rule before steps
  pub group_spells : group_rule group held

-- what `tail` tells of steps that are spelled
abbrev pub Tells : Rule Step → Rule (List Expression) → Tokens → List Step → Tail → Type 0
Tells steps_rule group_rule front steps plain = ends_in_group steps ≡ false
Tells steps_rule group_rule front steps (grouped init held) = Grouped steps_rule group_rule front init held

module _ (o : Bool) (ir : expressions.Inside) where
  tells_one : (x : Step) (front : Tokens) → expressions.step o ir front x
      → Tells (expressions.step o ir) (expressions.group o ir) front (x ∷ []) (tail (x ∷ []))
  tells_one x front (inl h) =
      let is : out-Step x ≡ Step-F.Member h.next_spells.thing = ap out-Step h.next_spells.next_spells.1
      ∙ outs-Member h.next_spells.thing in
      subst (λ l. Tells (expressions.step o ir) (expressions.group o ir) front (x ∷ []) (spec.tail_of_last
      (spec.group_of_layer l))) (sym is) (ap grammar.is_group_layer is)
  tells_one x front (inr h) =
      let is : out-Step x ≡ Step-F.Group h.thing = ap out-Step h.next_spells.1 ∙ outs-Group h.thing in
      subst (λ l. Tells (expressions.step o ir) (expressions.group o ir) front (x ∷ []) (spec.tail_of_last
      (spec.group_of_layer l))) (sym is) (record {
        before = [];
        group = front;
        split = refl;
        steps_spell = refl;
        group_spells = only _ behind.Group front x h;
      })

  tells_more : (x : Step) (first back : Tokens) (more : List Step) (t : Tail) → expressions.step o ir first x
      → Tells (expressions.step o ir) (expressions.group o ir) back more t
      → (ends_in_group (x ∷ more) ≡ ends_in_group more)
      → Tells (expressions.step o ir) (expressions.group o ir) (first ++ back) (x ∷ more) (spec.tail_behind x t)
  tells_more x first back more plain h told same = same ∙ told
  tells_more x first back more (grouped init held) h told same = record {
    before = first ++ told.before;
    group = told.group;
    split = ap (λ t. first ++ t) told.split ∙ sym (append_assoc first told.before told.group);
    steps_spell = record { front = first; back = told.before; split = refl; first = h; second = told.steps_spell };
    group_spells = told.group_spells;
  }

  tail_tells_of : (steps : List Step) (front : Tokens) → rule.many (expressions.step o ir) front steps
      → Tells (expressions.step o ir) (expressions.group o ir) front steps (tail steps)
  tail_tells_of [] front h = refl
  tail_tells_of (x ∷ []) front h = subst (λ t. Tells (expressions.step o ir) (expressions.group o ir) t (x ∷ []) (tail (
      x ∷ []))) (sym (h.split ∙ ap (λ t. h.front ++ t) h.second ∙ append-nil h.front)) (tells_one x h.front h.first)
  tail_tells_of (x ∷ y ∷ more) front h = subst (λ t. Tells (expressions.step o ir) (expressions.group o ir) t
      (x ∷ y ∷ more)
      (tail (x ∷ y ∷ more))) (sym h.split) (tells_more x h.front h.back (y ∷ more) (tail (y ∷ more)) h.first
      (tail_tells_of
      (y ∷ more) h.back h.second) refl)

-- a parenthesis at the end of a path
abbrev pub path_group : ℕ → Rule (List Expression)
path_group zero = expressions.group false expressions.closed
path_group (suc depth) = expressions.group true (expressions.expressions depth)

pub tail_tells : (depth : ℕ) (steps : List Step) (front : Tokens) → rule.many (grammar.path_step depth) front steps
    → Tells (grammar.path_step depth) (path_group depth) front steps (tail steps)
tail_tells zero = tail_tells_of false expressions.closed
tail_tells (suc depth) = tail_tells_of true (expressions.expressions depth)
