-- The line of an entry of a journal. It is our own.
use Rattle.std.specs.Prelude.{ℕ, Bool, true, false, if◌then◌else◌, List, [], ◌++◌, codes}
use Rattle.vb_value.specs.declared.application.AppCall.{AppCall}
use Rattle.vb_value.specs.declared.application.AppReply.{AppReply}
use Rattle.asp_job.specs.declared.entry.EndKind.{EndKind}
use Rattle.asp_job.specs.declared.entry.EndKind.TheVariants as kind
use Rattle.asp_job.specs.declared.entry.Entry.{Entry}
use Rattle.asp_job.specs.declared.entry.What.{What}
use Rattle.asp_job.specs.declared.entry.What.TheVariants as what
use Rattle.asp_job.specs.declared.job.Work.{Work}
use Rattle.asp_job.specs.declared.job.Work.TheVariants as work
use Rattle.asp_record.specs.Lines.{field, line, number}
use Rattle.asp_record.specs.Values.{call_text, reply_text}

-- how a run ended
abbrev pub kind_text : EndKind → List ℕ
kind_text kind.Done = codes "done"
kind_text kind.Memory = codes "memory"
kind_text kind.JournalFull = codes "journal"

-- the host's own work, with the session key for the end of a session
abbrev pub queued : Work → ℕ → List ℕ
queued work.Start key = codes "start"
queued work.SessionEnd key = codes "end" ++ number key
queued work.Stop key = codes "stop"
queued (work.Page request) key = []

-- a run of the host's own waits
abbrev pub queue_text : ℕ → ℕ → Work → ℕ → List ℕ
queue_text lane run work key = codes "Q" ++ number lane ++ number run ++ field (queued work key)

-- a run called the Application object
abbrev pub app_text : ℕ → ℕ → AppCall → AppReply → List ℕ
app_text lane run call reply =
    codes "P" ++ number lane ++ number run ++ field (call_text call) ++ field (reply_text reply)

-- whether there is a line of what a lane did: not of an answer that was handed out, nor of a halt
abbrev pub has_line : What → Bool
has_line (what.Take run) = false
has_line what.Halt = false
has_line _ = true

-- what stands in the line
abbrev pub what_text : ℕ → What → List ℕ
what_text lane (what.Queue run work key) = queue_text lane run work key
what_text lane (what.Admit run key fresh job) =
    codes "A" ++ number lane ++ number run ++ number key ++ number job.moment
what_text lane (what.Refuse run job) = codes "X" ++ number lane ++ number run ++ number job.moment
what_text lane (what.Tick moment) = codes "T" ++ number lane ++ number moment
what_text lane (what.Begin run serial) = codes "B" ++ number lane ++ number run ++ number serial
what_text lane (what.App run call reply) = app_text lane run call reply
what_text lane (what.End run kind status size made finished) =
    codes "E" ++ number lane ++ number run ++ field (kind_text kind)
    ++ number status ++ number size ++ number made ++ number finished
what_text lane what.Stop = codes "S" ++ number lane
what_text lane (what.Take run) = []
what_text lane what.Halt = []

-- the line of an entry, and nothing where it has none
abbrev pub entry_text : Entry → List ℕ
entry_text entry = if has_line entry.what then line (what_text entry.lane entry.what) else []
