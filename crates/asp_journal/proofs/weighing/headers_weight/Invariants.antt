use Rattle.std.proofs.Common.{◌≡◌, ◌-◌, ◌^◌, min, sum_by, take}
use Rattle.asp_job.specs.History as history
use Rattle.asp_journal.proofs.weighing.headers_weight.Given as goal

abbrev pub invariant-loop-header : goal.invariant-loop-header
invariant-loop-header l = l.total ≡ min (sum_by history.header_weight (take l.header-index l.headers)) (2 ^ 64 - 1)
