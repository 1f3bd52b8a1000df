use Rattle.std.proofs.Common.{◌≡◌, ◌+◌, ◌-◌, ℕ, List, [], true, length, get_or, refl, sym, ap, ◌∙◌, subst, arith}
use Rattle.std.proofs.lemmas.Bool.{eqb-true}
use Rattle.std.proofs.lemmas.List.{nil_from_length}
use Rattle.vb_strings.specs.Searching.{stands, last_in, place_of}
use Rattle.vb_strings.proofs.BorderTables.{hit_read, miss_read}
use Rattle.vb_strings.proofs.Found.{last_place_is, last_of_nothing}
use Rattle.vb_strings.proofs.Searched.{Searched, searched_found, searched_border, searched_on, searched_all}
use Rattle.vb_strings.proofs.places.last_place_in.Goals as goal

pub returns-then-is_empty : goal.returns-then-is_empty
returns-then-is_empty c =
    let none : c.args.pattern.now ≡ [] =
    nil_from_length c.args.pattern.now (eqb-true (length c.args.pattern.now) 0 (sym c.is_empty.ensures ∙ c.if-is_empty.true)) in
    last_of_nothing c.args.comparison c.args.text.now
    ∙ ap (λ pattern. place_of 0 (last_in c.args.comparison c.args.text.now pattern)) (sym none)

pub loop-start-preserved-then-matched-pattern : goal.loop-start-preserved-then-matched-pattern
loop-start-preserved-then-matched-pattern c =
    let searched : Searched c.args.comparison c.args.text.now c.args.pattern.now c.loop-start.last c.loop-start.start
    c.loop-start.matched = c.loop-start.invariant.searched in
    let hit = hit_read c.args.comparison c.args.text.now c.args.pattern.now
    (c.loop-start.start + c.loop-start.matched) c.loop-start.matched
    c.index-text-start.result c.index-pattern-matched.result (omega arith) (omega arith)
    c.index-text-start.is c.index-pattern-matched.is (sym c.same.ensures ∙ c.if-same.true) in
    let back : c.loop-start.start + 1 - 1 ≡ c.loop-start.start = omega arith in
    record {
      searched = (searched_on c.args.comparison c.args.text.now c.args.pattern.now c.args.borders.now c.requires
          c.loop-start.last c.loop-start.start c.loop-start.matched
          (get_or c.args.borders.now (c.loop-start.matched + 1 - 1) 0) searched (omega arith) hit (omega arith) refl).1;
      within = omega arith;
      last = λ some. subst (λ n. stands c.args.comparison c.args.text.now c.args.pattern.now n ≡ true) (sym back)
          (searched_found c.args.comparison c.args.text.now c.args.pattern.now c.loop-start.last c.loop-start.start
          c.loop-start.matched searched (omega arith) hit (omega arith));
    }

pub loop-start-preserved : goal.loop-start-preserved
loop-start-preserved c =
    let searched : Searched c.args.comparison c.args.text.now c.args.pattern.now c.loop-start.last c.loop-start.start
    c.loop-start.matched = c.loop-start.invariant.searched in
    let miss = miss_read c.args.comparison c.args.text.now c.args.pattern.now
    (c.loop-start.start + c.loop-start.matched) c.loop-start.matched
    c.index-text-start.result c.index-pattern-matched.result (omega arith) (omega arith)
    c.index-text-start.is c.index-pattern-matched.is (sym c.same.ensures ∙ c.if-same.false) in
    record {
      searched = (searched_border c.args.comparison c.args.text.now c.args.pattern.now c.args.borders.now c.requires
          c.loop-start.last c.loop-start.start c.loop-start.matched
          (get_or c.args.borders.now (c.loop-start.matched - 1) 0) searched (omega arith) (omega arith) miss refl).1;
      within = c.loop-start.invariant.within;
      last = c.loop-start.invariant.last;
    }

pub returns : goal.returns
returns c =
    last_place_is c.args.comparison c.args.text.now c.args.pattern.now c.loop-start.last c.loop-start.invariant.within
    c.loop-start.invariant.last
    (searched_all c.args.comparison c.args.text.now c.args.pattern.now c.loop-start.last c.loop-start.start
    c.loop-start.matched c.loop-start.invariant.searched (omega arith))
