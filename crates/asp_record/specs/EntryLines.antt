-- Which line an entry of a journal has, and the lines of a journal. It is our own.
use Rattle.std.specs.Prelude.{List, filter, Option, Some, None}
use Rattle.std.specs.List.{filter_map}
use Rattle.std.specs.Option.{option_map}
use Rattle.asp_job.specs.declared.entry.Entry.{Entry}
use Rattle.asp_job.specs.declared.entry.What.{What}
use Rattle.asp_job.specs.declared.entry.What.TheVariants as entry
use Rattle.asp_record.specs.declared.journal.Line.{Line}
use Rattle.asp_record.specs.declared.journal.LineWhat.{LineWhat}
use Rattle.asp_record.specs.declared.journal.LineWhat.TheVariants as what
use Rattle.asp_record.specs.Entries.{has_line}

-- what the line of an entry says, where it has one
abbrev pub line_what : What → Option LineWhat
line_what (entry.Queue run work key) = Some (what.Queue run work key)
line_what (entry.Admit run key fresh job) = Some (what.Admit run key job.moment)
line_what (entry.Refuse run job) = Some (what.Refuse run job.moment)
line_what (entry.Tick moment) = Some (what.Tick moment)
line_what (entry.Begin run serial) = Some (what.Begin run serial)
line_what (entry.App run call reply) = Some (what.App run call reply)
line_what (entry.End run kind status size made finished) = Some (what.End run kind status size made finished)
line_what (entry.Take run) = None
line_what entry.Stop = Some what.Stop
line_what entry.Halt = None

-- the line of an entry, where it has one
abbrev pub line_in : Entry → Option Line
line_in one = option_map (λ (said : LineWhat). record { lane = one.lane; what = said }) (line_what one.what)

-- the lines of a journal
abbrev pub lines_in : List Entry → List Line
lines_in past = filter_map line_in past

-- the entries that have lines: all but the answers that were handed out and a halt
abbrev pub printed : List Entry → List Entry
printed past = filter (λ one. has_line one.what) past
