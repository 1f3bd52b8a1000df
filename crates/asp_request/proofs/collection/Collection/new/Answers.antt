use Rattle.std.proofs.Common.{[], ap, unwrap_or, nat_cmp}
use Rattle.std.specs.Map.{lookup}
use Rattle.std.specs.BTreeMap.{is_at}
use Rattle.std.specs.Cmp.Lexicographic.{slice_cmp}
use Rattle.vb_value.specs.Folding.{folded}
use Rattle.asp_request.specs.Pairs.{firsts, values_in}
use Rattle.asp_request.proofs.collection.Collection.new.Goals as goal

pub returns : goal.returns
unfolding firsts values_in
returns c = record {
  names = c.new.ensures;
  values = λ name. ap (λ entries. unwrap_or (lookup (is_at (slice_cmp nat_cmp (folded name))) entries) []) c.new-2.ensures.empty;
}
