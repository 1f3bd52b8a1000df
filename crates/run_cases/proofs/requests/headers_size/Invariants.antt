use Rattle.std.proofs.Common.{◌≡◌, ◌-◌, ◌^◌, min, sum_by, take}
use Rattle.asp_job.specs.Size.{header_size}
use Rattle.run_cases.proofs.requests.headers_size.Given as goal

abbrev pub invariant-loop-header : goal.invariant-loop-header
invariant-loop-header l = l.total ≡ min (sum_by header_size (take l.header-index l.headers)) (2 ^ 64 - 1)
