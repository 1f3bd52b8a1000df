use Rattle.std.proofs.Common.{◌≡◌, ◌<◌, ◌≤◌, ℕ, ◌+◌, ◌-◌, List, [], ◌∷◌, ◌++◌, length, get_or, sym, ◌∙◌, ap, subst, arith}
use Rattle.vb_strings.proofs.BorderTables.{Known, known_one, known_hit, known_miss, known_border, hit_read, miss_read}
use Rattle.vb_strings.proofs.borders.borders.Goals as goal

pub loop-start-preserved-in-Continue-branch-3 : goal.loop-start-preserved-in-Continue-branch-3
loop-start-preserved-in-Continue-branch-3 c =
    let hit = hit_read c.args.comparison c.args.pattern.now c.args.pattern.now
    (c.loop-start.start + c.loop-start.matched) c.loop-start.matched
    c.index-pattern-start.result c.index-pattern-matched.result (omega arith) (omega arith)
    c.index-pattern-start.is c.index-pattern-matched.is (sym c.same.ensures ∙ c.if-same.true) in
    let pushed = c.in_ok-push-2.ensures in
    subst (λ borders. Known c.args.comparison c.args.pattern.now borders c.loop-start.start (c.loop-start.matched + 1))
    (sym pushed)
    (known_hit c.args.comparison c.args.pattern.now c.loop-start.borders c.loop-start.start c.loop-start.matched
    c.loop-start.invariant (omega arith) hit)

pub loop-start-preserved-then-matched-eq0 : goal.loop-start-preserved-then-matched-eq0
loop-start-preserved-then-matched-eq0 c =
    let miss = miss_read c.args.comparison c.args.pattern.now c.args.pattern.now
    (c.loop-start.start + c.loop-start.matched) c.loop-start.matched
    c.index-pattern-start.result c.index-pattern-matched.result (omega arith) (omega arith)
    c.index-pattern-start.is c.index-pattern-matched.is (sym c.same.ensures ∙ c.if-same.false) in
    let pushed = c.in_ok-push-3.ensures in
    subst (λ borders. Known c.args.comparison c.args.pattern.now borders (c.loop-start.start + 1) c.loop-start.matched)
    (sym pushed)
    (known_miss c.args.comparison c.args.pattern.now c.loop-start.borders c.loop-start.start c.loop-start.matched
    c.loop-start.invariant (omega arith) (omega arith) miss)

pub loop-start-preserved : goal.loop-start-preserved
loop-start-preserved c =
    let miss = miss_read c.args.comparison c.args.pattern.now c.args.pattern.now
    (c.loop-start.start + c.loop-start.matched) c.loop-start.matched
    c.index-pattern-start.result c.index-pattern-matched.result (omega arith) (omega arith)
    c.index-pattern-start.is c.index-pattern-matched.is (sym c.same.ensures ∙ c.if-same.false) in
    let read = ap (λ (borders : List ℕ). get_or borders (c.loop-start.matched - 1) 0) c.as_slice.ensures in
    (known_border c.args.comparison c.args.pattern.now c.loop-start.borders c.loop-start.start c.loop-start.matched
    c.loop-start.invariant (omega arith) (omega arith) miss
    (get_or c.as_slice.result.now (c.loop-start.matched - 1) 0) read).1
