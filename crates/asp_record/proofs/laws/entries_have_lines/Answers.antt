use Rattle.std.proofs.Common.{◌≡◌, ℕ, [], refl, MatchOption}
use Rattle.asp_job.specs.declared.entry.What.{What}
use Rattle.asp_job.specs.declared.entry.What.TheVariants as entry
use Rattle.asp_record.specs.Entries.{entry_text}
use Rattle.asp_record.specs.EntryLines.{line_what}
use Rattle.asp_record.specs.Journal.{line_text}
use Rattle.asp_record.proofs.laws.entries_have_lines.Goals as goal

by_what : (lane : ℕ) (done : What) → MatchOption (line_what done) (entry_text (record { lane = lane; what = done })
    ≡ [])
    (λ said. entry_text (record { lane = lane; what = done }) ≡ line_text (record { lane = lane; what = said }))
by_what lane (entry.Queue run work key) = refl
by_what lane (entry.Admit run key fresh job) = refl
by_what lane (entry.Refuse run job) = refl
by_what lane (entry.Tick moment) = refl
by_what lane (entry.Begin run serial) = refl
by_what lane (entry.App run call reply) = refl
by_what lane (entry.End run kind status size made finished) = refl
by_what lane (entry.Take run) = refl
by_what lane entry.Stop = refl
by_what lane entry.Halt = refl

pub returns : goal.returns
returns c one = by_what one.lane one.what
