-- The end of a path, and the operators behind a first operand.
use Rattle.std.proofs.Common.{◌≡◌, ℕ, zero, suc, ◌+◌, ◌-◌, ◌<◌, ◌==◌, Bool, List, [], ◌∷◌, ◌++◌, Ok, Err}
use Rattle.std.proofs.Common.{MatchOption, ap, ◌∙◌, subst, arith}
use Rattle.vb_syntax.specs.declared.expression.Expression.{Expression}
use Rattle.vb_syntax.specs.declared.expression.Step.{Step}
use Rattle.vb_syntax.specs.declared.expression.Step.TheVariants as behind
use Rattle.vb_syntax.specs.declared.expression.Step.TheVariants.{outs-Group, outs-Member}
use Rattle.vb_syntax.specs.grammar.Rules.{Tokens}
use Rattle.vb_syntax.specs.grammar.Expressions.{not_level}
use Rattle.vb_read.specs.declared.cursor.ReadStop.{ReadStop}
use Rattle.vb_read.specs.declared.cursor.ReadStop.TheVariants.{Fault, Memory}
use Rattle.vb_read.specs.Reader.{Outcome, and_then, stopped_at}
use Rattle.vb_read.specs.ReadCalls as spec
use Rattle.vb_read.specs.ReadCalls.{plain, grouped, tail}
use Rattle.vb_read.specs.ReadExpressions.{Inside, operators}

-- a function stops where the reader does
abbrev Stops : {A : Type 0} → Outcome A → ReadStop → Tokens → Type 0
Stops outcome stop left = MatchOption (stopped_at stop left) (Unit {0}) (λ failed. outcome ≡ Err failed)

-- ---- the end of a path

more_grouped : (first : Step) (front : List Step) (last : Step) (more : List Step) (held : List Expression)
    → tail (front ++ last ∷ []) ≡ grouped more held → tail (first ∷ front ++ last ∷ []) ≡ grouped (first ∷ more) held
more_grouped first [] last more held e = ap (spec.tail_behind first) e
more_grouped first (next ∷ front) last more held e = ap (spec.tail_behind first) e

more_plain : (first : Step) (front : List Step) (last : Step) → tail (front ++ last ∷ []) ≡ plain
    → tail (first ∷ front ++ last ∷ []) ≡ plain
more_plain first [] last e = ap (spec.tail_behind first) e
more_plain first (next ∷ front) last e = ap (spec.tail_behind first) e

-- a parenthesis stands at the end
pub tail_group : (front : List Step) (held : List Expression)
    → tail (front ++ behind.Group held ∷ []) ≡ grouped front held
tail_group [] held = ap (λ l. spec.tail_of_last (spec.group_of_layer l)) (outs-Group held)
tail_group (first ∷ front) held = more_grouped first front (behind.Group held) front held (tail_group front held)

-- a name stands at the end
pub tail_member : (front : List Step) (name : List ℕ) → tail (front ++ behind.Member name ∷ []) ≡ plain
tail_member [] name = ap (λ l. spec.tail_of_last (spec.group_of_layer l)) (outs-Member name)
tail_member (first ∷ front) name = more_plain first front (behind.Member name) (tail_member front name)

-- ---- levels

module _ (opens : Bool) (inside : Inside) (first : Expression) (tokens : Tokens) where
  abbrev up_to : ℕ → Outcome Expression
  up_to level = spec.operators_from opens inside level first tokens

  -- the operators of one more level
  pub level_more : (level : ℕ) (found x : Expression) (middle rest : Tokens) → up_to level ≡ Ok (found, middle)
      → spec.level_from opens inside ((level + 1) == not_level) (level + 1) (operators opens inside level) found middle
      ≡ Ok (x, rest) → up_to (level + 1) ≡ Ok (x, rest)
  level_more level found x middle rest before here =
      let same : level + 1 ≡ suc level = omega arith in
      rw same (ap (λ o. and_then o (spec.level_from opens inside (suc level == not_level) (suc level)
      (operators opens inside level))) before ∙ (rw same at here))

  level_stops : (level : ℕ) (found : Expression) (middle left : Tokens) → up_to level ≡ Ok (found, middle)
      → spec.level_from opens inside ((level + 1) == not_level) (level + 1) (operators opens inside level) found middle
      ≡ Err left → up_to (suc level) ≡ Err left
  level_stops level found middle left before here =
      let same : level + 1 ≡ suc level = omega arith in
      ap (λ o. and_then o (spec.level_from opens inside (suc level == not_level) (suc level)
      (operators opens inside level))) before ∙ (rw same at here)

  stays : (more level : ℕ) (left : Tokens) → up_to level ≡ Err left → up_to (more + level) ≡ Err left
  stays zero level left e = let same : zero + level ≡ level = omega arith in rw same e
  stays (suc more) level left e =
      let same : suc more + level ≡ suc (more + level) = omega arith in
      rw same (ap (λ o. and_then o (spec.level_from opens inside (suc (more + level) == not_level)
      (suc (more + level)) (operators opens inside (more + level)))) (stays more level left e))

  level_fault : (level last : ℕ) (found : Expression) (middle left : Tokens) → level < last
      → up_to level ≡ Ok (found, middle)
      → spec.level_from opens inside ((level + 1) == not_level) (level + 1) (operators opens inside level) found middle
      ≡ Err left → up_to last ≡ Err left
  level_fault level last found middle left less before here =
      let same : (last - suc level) + suc level ≡ last = omega arith in
      subst (λ n. up_to n ≡ Err left) same (stays (last - suc level) (suc level) left (level_stops level found middle
      left before here))

  -- where the operators of a level stop, those up to a later one stop
  pub level_stop : (level last : ℕ) (found : Expression) (middle left : Tokens) (stop : ReadStop) → level < last
      → up_to level ≡ Ok (found, middle)
      → Stops (spec.level_from opens inside ((level + 1) == not_level) (level + 1) (operators opens inside level) found
      middle) stop left → Stops (up_to last) stop left
  level_stop level last found middle left Fault less before here = level_fault level last found middle left less
      before here
  level_stop level last found middle left Memory less before here = tt
