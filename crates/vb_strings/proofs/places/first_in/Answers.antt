use Rattle.std.proofs.Common.{◌+◌, ◌-◌, ℕ, get_or, refl, sym, ◌∙◌, arith}
use Rattle.vb_strings.proofs.BorderTables.{hit_read, miss_read}
use Rattle.vb_strings.proofs.Found.{first_is, none_found}
use Rattle.vb_strings.proofs.Searched.{Searched, searched_found, searched_border, searched_all}
use Rattle.vb_strings.proofs.places.first_in.Goals as goal

pub returns-then-matched-pattern-clause-place : goal.returns-then-matched-pattern-clause-place
returns-then-matched-pattern-clause-place c =
    let searched : Searched c.args.comparison c.args.text.now c.args.pattern.now 0 c.loop-start.start c.loop-start.matched =
    c.loop-start.invariant in
    let hit = hit_read c.args.comparison c.args.text.now c.args.pattern.now
    (c.loop-start.start + c.loop-start.matched) c.loop-start.matched
    c.index-text-start.result c.index-pattern-matched.result (omega arith) (omega arith)
    c.index-text-start.is c.index-pattern-matched.is (sym c.same.ensures ∙ c.if-same.true) in
    sym (first_is c.args.comparison c.args.text.now c.args.pattern.now c.loop-start.start (omega arith)
    (λ k below. searched.none k (omega arith) below)
    (searched_found c.args.comparison c.args.text.now c.args.pattern.now 0 c.loop-start.start c.loop-start.matched
    searched (omega arith) hit (omega arith)))

pub loop-start-preserved : goal.loop-start-preserved
loop-start-preserved c =
    let miss = miss_read c.args.comparison c.args.text.now c.args.pattern.now
    (c.loop-start.start + c.loop-start.matched) c.loop-start.matched
    c.index-text-start.result c.index-pattern-matched.result (omega arith) (omega arith)
    c.index-text-start.is c.index-pattern-matched.is (sym c.same.ensures ∙ c.if-same.false) in
    (searched_border c.args.comparison c.args.text.now c.args.pattern.now c.args.borders.now c.requires
    0 c.loop-start.start c.loop-start.matched (get_or c.args.borders.now (c.loop-start.matched - 1) 0)
    c.loop-start.invariant (omega arith) (omega arith) miss refl).1

pub returns-clause-place : goal.returns-clause-place
returns-clause-place c =
    sym (none_found c.args.comparison c.args.text.now c.args.pattern.now (λ k below.
    searched_all c.args.comparison c.args.text.now c.args.pattern.now 0 c.loop-start.start c.loop-start.matched
    c.loop-start.invariant (omega arith) k (omega arith) below))
