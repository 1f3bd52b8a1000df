-- How large a job may be. The bound is our own, and far beyond what a request from bytes can be.
use Rattle.std.specs.Prelude.{ℕ, ◌+◌, ◌^◌, ◌<◌, length, sum_by}
use Rattle.asp_job.specs.declared.job.Job.{Job}
use Rattle.asp_job.specs.declared.job.Work.{Work}
use Rattle.asp_job.specs.declared.job.Work.TheVariants as work
use Rattle.asp_job.specs.declared.request.Header.{Header}
use Rattle.asp_job.specs.declared.request.Request.{Request}

-- a header, and the characters and bytes in it
abbrev pub header_size : Header → ℕ
header_size header = 1 + length header.name + length header.value

-- the headers, characters and bytes of a request
abbrev pub request_size : Request → ℕ
request_size request = length request.path + length request.query + sum_by header_size request.headers + length request.body

-- the headers, characters and bytes of what is to be done
abbrev pub work_size : Work → ℕ
work_size (work.Page request) = request_size request
work_size _ = 0

-- a job of fewer than 2^24 headers, characters and bytes
abbrev pub IsSmall : Job → Type 0
IsSmall job = work_size job.work < 2 ^ 24
