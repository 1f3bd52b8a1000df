use Rattle.std.proofs.Common.{rules, tests}
use Rattle.std.specs.Prelude.{codes, ◌==◌}
use Rattle.std.proofs.lemmas.Iterator.Search.{any_from_yields_List}
use Rattle.std.proofs.lemmas.Iterator.Splits.{YieldsList-from_slice_split}
use Rattle.httparse.specs.Grammar.{trim_ows}
use Rattle.http_front.specs.Fields.{same_name, lists_close}
use Rattle.http_front.proofs.connection.lists_close.Goals as goal

pub returns : goal.returns
unfolding lists_close
returns c =
    any_from_yields_List (λ part. same_name (trim_ows part) (codes "close")) _ _ _ c.any.ensures.ran
    (YieldsList-from_slice_split _ (λ b. b == 44) c.args.value.now c.split.ensures.rest c.split.ensures.done
    c.split.ensures.closure
    (λ x b q k. search (rules, tests)))
    (λ x b q k. search (rules, tests))
