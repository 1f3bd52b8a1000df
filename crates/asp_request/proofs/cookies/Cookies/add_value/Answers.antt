use Rattle.std.proofs.Common.{ℕ, List, ◌++◌, ap, subst, ◌∙◌, rules, tests}
use Rattle.std.specs.Prelude.{◌==◌}
use Rattle.std.specs.List.{flat_map}
use Rattle.std.specs.Slice.Iter.{split_rest, split_done, split_callee}
use Rattle.std.proofs.lemmas.Iterator.Consumers.{YieldsList-end}
use Rattle.std.proofs.lemmas.Iterator.Splits.{YieldsList-from_slice_split}
use Rattle.httparse.specs.Grammar.{trim_ows}
use Rattle.asp_request.specs.Cookies.{CollectsCookies}
use Rattle.asp_request.specs.Request.{piece_pairs}
use Rattle.asp_request.proofs.cookies.Cookies.add_value.Goals as goal

pub returns : goal.returns
returns c = λ pairs is.
    let split = c.split-piece-items.ensures in
    let same = c.into_iter-piece-iterator.ensures.into_iter_gives in
    let pieces = YieldsList-end
    (YieldsList-from_slice_split {s = c.into_iter-piece-iterator.result} _ (λ b. b == 59) c.args.value.now
    (ap split_rest same ∙ split.rest) (ap split_done same ∙ split.done) (ap split_callee same ∙ split.closure)
    (λ x b q k. search (rules, tests)))
    c.loop-piece.yielded _ c.loop-piece.yielded_by _ _ c.in-None.is c.next.ensures.steps in
    let Kept : List (List ℕ) → Type 0 =
    λ l. CollectsCookies c.loop-piece.self (pairs ++ flat_map (λ piece. piece_pairs (trim_ows piece)) l) in
    subst Kept pieces.0 (c.loop-piece.invariant pairs is)
