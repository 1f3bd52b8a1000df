use Rattle.std.proofs.Common.{ap, nat_cmp}
use Rattle.std.specs.Map.{lookup}
use Rattle.std.specs.BTreeMap.{is_at}
use Rattle.std.specs.Cmp.Lexicographic.{slice_cmp}
use Rattle.vb_value.specs.Folding.{folded}
use Rattle.asp_request.specs.Pairs.{firsts, values_in}
use Rattle.asp_request.proofs.cookies.Cookies.new.Goals as goal

pub returns : goal.returns
unfolding firsts values_in
returns c = record {
  first = c.new.ensures;
  raw = λ name. ap (lookup (is_at (slice_cmp nat_cmp (folded name)))) c.new-2.ensures.empty;
}
