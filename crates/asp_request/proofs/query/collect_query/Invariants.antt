use Rattle.std.proofs.Common.{map}
use Rattle.form_urlencoded.specs.Form.{pair_text}
use Rattle.asp_request.specs.Collection.{Collects}
use Rattle.asp_request.specs.Request.{decoded_pair}
use Rattle.asp_request.proofs.query.collect_query.Given as goal

abbrev pub invariant-loop-name : goal.invariant-loop-name
invariant-loop-name l = Collects l.kept (map decoded_pair (map pair_text l.yielded))
