use Rattle.std.proofs.Common.{◌≡◌, ℕ, List, ap, subst, ◌∙◌, rules, tests, map, sym}
use Rattle.std.specs.Prelude.{◌==◌}
use Rattle.std.specs.List.{find}
use Rattle.std.specs.Option.{option_map}
use Rattle.std.specs.Slice.Iter.{split_rest, split_done, split_callee}
use Rattle.std.proofs.lemmas.Iterator.Consumers.{YieldsList-end}
use Rattle.std.proofs.lemmas.Iterator.Splits.{YieldsList-from_slice_split}
use Rattle.httparse.specs.Grammar.{trim_ows}
use Rattle.asp_core.specs.Cookie.{is_cookie}
use Rattle.asp_core.proofs.Finding.{map_twice}
use Rattle.asp_core.proofs.cookie.cookie_in.Goals as goal

pub returns : goal.returns
returns c =
    let split = c.split-piece-items.ensures in
    let same = c.into_iter-piece-iterator.ensures.into_iter_gives in
    let pieces = YieldsList-end
    (YieldsList-from_slice_split {s = c.into_iter-piece-iterator.result} _ (λ b. b == 59) c.args.value.now
    (ap split_rest same ∙ split.rest) (ap split_done same ∙ split.done) (ap split_callee same ∙ split.closure)
    (λ x b q k. search (rules, tests)))
    c.loop-piece.yielded _ c.loop-piece.yielded_by _ _ c.in-None.is c.next.ensures.steps in
    let Found : List (List ℕ) → Type 0 = λ l. option_map (λ piece. piece.now) c.loop-piece.found
    ≡ find is_cookie (map trim_ows l) in
    subst Found pieces.0 (c.loop-piece.invariant ∙ ap (find is_cookie) (sym (map_twice _ trim_ows c.loop-piece.yielded)))
