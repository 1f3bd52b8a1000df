-- The answers that stand in for that of a page. They are our own.
use Rattle.std.specs.Prelude.{Bool, true, false, Option, Some, None}
use Rattle.asp_job.specs.declared.answer.Answer.{Answer}
use Rattle.asp_job.specs.declared.job.Work.{Work}
use Rattle.asp_job.specs.declared.job.Work.TheVariants as work
use Rattle.asp_job.specs.declared.request.Verb.{Verb}
use Rattle.asp_job.specs.declared.request.Verb.TheVariants as verb
use Rattle.asp_response.specs.declared.fixed.Unavailable.{Unavailable}
use Rattle.asp_response.specs.declared.fixed.Unavailable.TheVariants as cause
use Rattle.asp_response.specs.Fixed.{unavailable_of}
use Rattle.asp_core.specs.declared.run.StandIns.{StandIns}

abbrev pub is_head : Verb → Bool
is_head verb.Head = true
is_head _ = false

-- the answer that stands in for that of a page
abbrev pub stand_in : Unavailable → Work → Option Answer
stand_in cause (work.Page request) = Some (unavailable_of cause (is_head request.verb) request.close)
stand_in cause _ = None

-- those of a run with this work
abbrev pub stand_ins : Work → StandIns
stand_ins work = record { memory = stand_in cause.OutOfMemory work; full = stand_in cause.JournalFull work }
