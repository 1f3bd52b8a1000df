-- The lines of a journal tell that the numbers of its answers' runs are of 64 bits.
use Rattle.std.proofs.Common.{ℕ, ◌^◌, ◌<◌, List, [], ◌∷◌, ◌++◌, Option, Some, None, arith}
use Rattle.asp_job.specs.declared.answer.Answer.{Answer}
use Rattle.asp_job.specs.declared.entry.Entry.{Entry}
use Rattle.asp_job.specs.declared.entry.What.{What}
use Rattle.asp_job.specs.declared.entry.What.TheVariants as entry
use Rattle.asp_job.specs.History.{with_lane}
use Rattle.asp_job.specs.Output.{answer_by, unavailable_in}
use Rattle.asp_job.specs.Rules.{Rules, TooManySessions}
use Rattle.asp_job.specs.Runs.{job_of}
use Rattle.asp_record.specs.EntryLines.{lines_in}
use Rattle.asp_record.specs.Journal.{AreLines}
use Rattle.asp_feed.specs.Shown.{Shown, shown_of, with_shown}
use Rattle.replay_laws.proofs.Records.{AreNumbered}

one_more : (shown : List Shown) (last : Shown) → AreNumbered shown → last.run < 2 ^ 64
    → AreNumbered (shown ++ last ∷ [])
one_more [] last are small = (small, tt)
one_more (first ∷ shown) last are small = (are.0, one_more shown last are.1 small)

maybe_more : (shown : List Shown) (run moment : ℕ) (answer : Option Answer) → AreNumbered shown → run < 2 ^ 32
    → AreNumbered (with_shown shown run moment answer)
maybe_more shown run moment None are small = are
maybe_more shown run moment (Some answer) are small =
    one_more shown (record { run = run; moment = moment; answer = answer }) are (omega (arith, small))

by_what : (rules : Rules) (lane : ℕ) (done : What) (past : List Entry)
    → AreLines (lines_in (with_lane lane done ∷ past)) → (AreLines (lines_in past) → AreNumbered (shown_of rules past))
    → AreNumbered (shown_of rules (with_lane lane done ∷ past))
by_what rules lane (entry.Queue run work key) past right more = more right.1
by_what rules lane (entry.Admit run key fresh job) past right more = more right.1
by_what rules lane (entry.Refuse run job) past right more =
    maybe_more (shown_of rules past) run job.moment (unavailable_in rules TooManySessions job.work) (more right.1)
    right.0.right.0
by_what rules lane (entry.Tick moment) past right more = more right.1
by_what rules lane (entry.Begin run serial) past right more = more right.1
by_what rules lane (entry.App run call reply) past right more = more right.1
by_what rules lane (entry.End run kind status size made finished) past right more =
    maybe_more (shown_of rules past) run (job_of past run).moment (answer_by rules past run kind) (more right.1)
    right.0.right.0
by_what rules lane (entry.Take run) past right more = more right
by_what rules lane entry.Stop past right more = more right.1
by_what rules lane entry.Halt past right more = more right

pub are_numbered : (rules : Rules) (past : List Entry) → AreLines (lines_in past) → AreNumbered (shown_of rules past)
are_numbered rules [] right = tt
are_numbered rules (one ∷ past) right =
    by_what rules one.lane one.what past right (λ lines. are_numbered rules past lines)
