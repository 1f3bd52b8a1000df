-- Loops that read, and where the readers of a depth come from.
use Rattle.std.proofs.Common.{◌≡◌, ℕ, zero, suc, ◌+◌, ◌<◌, ◌≢◌, ◌==◌, Bool, true, false, cond, List, [], ◌∷◌, ◌++◌}
use Rattle.std.proofs.Common.{None, Ok, Err, refl, sym, ap, ◌∙◌, append_assoc, subst, arith}
use Rattle.std.proofs.lemmas.Bool.{eqb-true}
use Rattle.vb_syntax.specs.grammar.Rules.{Tokens}
use Rattle.vb_syntax.specs.grammar.Expressions as grammar
use Rattle.vb_syntax.specs.grammar.Expressions.{not_level}
use Rattle.vb_read.specs.Reader as reader
use Rattle.vb_read.specs.Reader.{Reader, Outcome, Look, and_then, next}
use Rattle.vb_read.specs.ReadExpressions as spec
use Rattle.vb_read.specs.Depths.{opens, inside}
use Rattle.vb_read.proofs.Reading.{Moves, moves, more_with, many_step}
use Rattle.vb_read.proofs.ExpressionEnds.{Taken}
use Rattle.vb_read.proofs.ExpressionTaking.{closed_taken, expressions_taken}
use Rattle.vb_read.proofs.ExpressionReading.{Inner, Operator, closed_inner, expressions_read, reads_step, full_step}
use Rattle.vb_read.proofs.ExpressionReading.{reads_turn, full_turn, reads_operators, operator_of_level}

-- one turn of a loop that reads into a list
pub list_turn : {A B : Type 0} (look : Look) (p : Reader A) → Moves p → look None ≡ false → (f : List A
    → B) (whole : Outcome B) (tokens rest : Tokens) (x : A)
    → whole ≡ and_then (reader.many look p tokens) (λ more. reader.pure (f more))
    → look (next tokens) ≡ true → p tokens ≡ Ok (x, rest)
    → whole ≡ and_then (reader.many look p rest) (λ more. reader.pure (f (x ∷ more)))
list_turn {A} {B} look p mv quiet f whole tokens rest x inv is read =
    inv ∙ ap (λ o. and_then o (λ more. reader.pure (f more)))
    (many_step look p mv quiet tokens
    ∙ ap (λ b. cond b (and_then (p tokens) (λ x. more_with x (reader.many look p))) (Ok ([], tokens))) is
    ∙ ap (λ o. and_then o (λ x. more_with x (reader.many look p))) read)
    ∙ twice (reader.many look p rest)
  where
    twice : (o : Outcome (List A))
        → and_then (and_then o (λ xs. reader.pure (x ∷ xs)))
        (λ more. reader.pure (f more)) ≡ and_then o (λ more. reader.pure (f (x ∷ more)))
    twice (Ok q) = refl
    twice (Err w) = refl

-- the same, where what was found so far is kept
pub found_turn : {A B : Type 0} (look : Look) (p : Reader A) → Moves p → look None ≡ false → (f : List A
    → B) (whole : Outcome B) (found new : List A) (tokens rest : Tokens) (x : A)
    → whole ≡ and_then (reader.many look p tokens) (λ more. reader.pure (f (found ++ more)))
    → look (next tokens) ≡ true → p tokens ≡ Ok (x, rest) → new ≡ found ++ x ∷ []
    → whole ≡ and_then (reader.many look p rest) (λ more. reader.pure (f (new ++ more)))
found_turn look p mv quiet f whole found new tokens rest x inv is read e =
    list_turn look p mv quiet (λ more. f (found ++ more)) whole tokens rest x inv is read
    ∙ and_same (reader.many look p rest) (λ more. ap f (sym (append_assoc found (x ∷ []) more)
    ∙ ap (λ l. l ++ more) (sym e)))
  where
    and_same : {A B : Type 0} (o : Outcome A) {g h : A → B} → ((y : A) → g y ≡ h y)
        → and_then o (λ y. reader.pure (g y)) ≡ and_then o (λ y. reader.pure (h y))
    and_same (Ok q) e = ap (λ y. Ok (y, q.1)) (e q.0)
    and_same (Err w) e = refl

-- what is read, and nothing behind it
pub and_nothing : {A : Type 0} (o : Outcome A) → o ≡ and_then o reader.pure
and_nothing (Ok read) = refl
and_nothing (Err rest) = refl

-- the rules inside a construct
abbrev pub rules_inside : ℕ → grammar.Inside
rules_inside zero = grammar.closed
rules_inside (suc depth) = grammar.expressions depth

pub inner_at : (depth : ℕ) → Inner (opens depth) (inside depth) (rules_inside depth)
inner_at zero = closed_inner _ _
inner_at (suc depth) = expressions_read depth

pub taken_inside : (depth : ℕ) → Taken (opens depth) (inside depth) (rules_inside depth)
taken_inside zero = closed_taken
taken_inside (suc depth) = expressions_taken depth

-- the readers of a place
pub expressions_at : (depth : ℕ) → spec.expressions depth ≡ spec.readers_here (opens depth) (inside depth)
expressions_at zero = refl
expressions_at (suc depth) = refl

-- ---- what is read in a turn takes a token

pub step_moves : (depth : ℕ) → Moves (spec.step (opens depth) (inside depth))
step_moves depth = moves _ _ (reads_step (opens depth) (inside depth) (rules_inside depth) (inner_at depth))
    (full_step (opens depth) (inside depth) (rules_inside depth) (inner_at depth))

no_not_level : (level : ℕ) → level ≢ 6 → (suc level == not_level) ≡ false
no_not_level level other = go (suc level == 7) refl
  where
    go : (b : Bool) → (suc level == 7) ≡ b → (suc level == 7) ≡ false
    go true is = let same : suc level ≡ 7 = eqb-true (suc level) 7 is in let six : level ≡ 6 = omega arith in
        absurd (other six)
    go false is = is

pub turn_moves : (depth level : ℕ) → level < 12 → level ≢ 6
    → Moves (spec.turn (level + 1) (spec.operators (opens depth) (inside depth) level))
turn_moves depth level h other =
    let at : suc level ≡ level + 1 = omega arith in
    let has : Operator (level + 1) = subst (λ n. Operator n) at (operator_of_level level h (no_not_level
    level other)) in
    moves _ _ (reads_turn (level + 1) has (reads_operators (opens depth) (inside depth) (rules_inside depth)
    (inner_at depth) level (omega arith))) (full_turn (level + 1) _)

-- ---- levels

-- operators up to a level that is not that of `Not`
pub operators_chained : (o : Bool) (i : spec.Inside) (level tighter : ℕ) → level ≡ tighter + 1
    → tighter ≢ 6 → spec.operators o i level ≡ spec.chained (tighter + 1) (spec.operators o i tighter)
operators_chained o i level tighter at other =
    let next : level ≡ suc tighter = omega arith in
    let same : suc tighter ≡ tighter + 1 = omega arith in
    ap (spec.operators o i) next
    ∙ ap (λ b. spec.one_level o i b (suc tighter) (spec.operators o i tighter)) (no_not_level tighter other)
    ∙ ap (λ n. spec.chained n (spec.operators o i tighter)) same
