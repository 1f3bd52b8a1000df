-- How a command ended, as the number and the text that the program gives for it.
use Rattle.std.specs.Prelude.{ℕ, ◌+◌, ℤ, pos, negsuc, List, [], ◌++◌, codes}
use Rattle.std.specs.Fmt.{decimal}
use Rattle.vb_value.specs.declared.site_file.SiteFault.{SiteFault}
use Rattle.vb_value.specs.declared.site_file.FaultKind.{FaultKind}
use Rattle.vb_value.specs.declared.site_file.FaultKind.TheVariants as fault
use Rattle.asp_journal.specs.declared.full.Full.{Full}
use Rattle.asp_get.specs.declared.stop.GetStop.{GetStop}
use Rattle.asp_get.specs.declared.stop.GetStop.TheVariants as get
use Rattle.asp_job.specs.declared.answer.Fail.{Fail}
use Rattle.asp_job.specs.declared.answer.Fail.TheVariants as fail
use Rattle.asp_replay.specs.declared.stop.FeedStop.{FeedStop}
use Rattle.asp_replay.specs.declared.stop.FeedStop.TheVariants as feed
use Rattle.asp_acts.specs.Failures.{limit_name}
use Rattle.asp_serve.specs.declared.hosting.ServeStop.{ServeStop}
use Rattle.asp_serve.specs.declared.hosting.ServeStop.TheVariants as serve
use Rattle.site_load.specs.declared.stop.LoadStop.{LoadStop}
use Rattle.site_load.specs.declared.stop.LoadStop.TheVariants.{Refused, ReadFault as FolderFault, Memory as NoMemory}
use Rattle.asp_host.specs.declared.status.Status.{Status}
use Rattle.asp_host.specs.declared.status.Status.TheVariants.{Ok, Memory, Usage, SiteRefused, StartFailed}
use Rattle.asp_host.specs.declared.status.Status.TheVariants.{ReadFault, WriteFault, RecordRefused, JournalFull, AcceptFault}
use Rattle.asp_host.specs.declared.recording.RecordingStop.{RecordingStop}
use Rattle.asp_host.specs.declared.recording.RecordingStop.TheVariants as recording

-- how a command ends where the folder is no site
abbrev pub status_of : LoadStop → Status
status_of (Refused refused) = SiteRefused refused
status_of FolderFault = ReadFault
status_of NoMemory = Memory

-- how a command ends where a request was not answered
abbrev pub get_status_of : GetStop → Status
get_status_of (get.StartFailed fail) = StartFailed fail
get_status_of (get.JournalFull full) = JournalFull full
get_status_of get.Memory = Memory

-- how a command ends where no recording was read
abbrev pub recording_status_of : RecordingStop → Status
recording_status_of (recording.Refused offset) = RecordRefused offset
recording_status_of recording.ReadFault = ReadFault
recording_status_of recording.Memory = Memory

-- how a command ends where a recording was not replayed to its end
abbrev pub feed_status_of : FeedStop → Status
feed_status_of (feed.StartFailed fail) = StartFailed fail
feed_status_of (feed.JournalFull full) = JournalFull full
feed_status_of feed.WriteFault = WriteFault
feed_status_of feed.Memory = Memory

-- how a command ends where a host did not serve to its end
abbrev pub serve_status_of : ServeStop → Status
serve_status_of (serve.StartFailed fail) = StartFailed fail
serve_status_of (serve.JournalFull full) = JournalFull full
serve_status_of serve.AcceptFault = AcceptFault
serve_status_of serve.Memory = Memory

-- how words end that say no command: they are told so, unless memory ran out
abbrev pub IsUnsaid : Status → Type 0
IsUnsaid Usage = Unit {0}
IsUnsaid Memory = Unit {0}
IsUnsaid _ = ⊥

-- the exit status of the program
abbrev pub code_of : Status → ℕ
code_of Ok = 0
code_of Memory = 1
code_of Usage = 2
code_of (SiteRefused fault) = 3
code_of ReadFault = 4
code_of WriteFault = 5
code_of (RecordRefused offset) = 6
code_of (JournalFull full) = 7
code_of (StartFailed fail) = 8
code_of AcceptFault = 9

-- the name of what is wrong with a file
abbrev pub kind_text_of : FaultKind → List ℕ
kind_text_of fault.NotYet = codes "NotYet"
kind_text_of fault.NotUtf8 = codes "NotUtf8"
kind_text_of fault.OpenBlock = codes "OpenBlock"
kind_text_of fault.LateDirective = codes "LateDirective"
kind_text_of fault.BadDirective = codes "BadDirective"
kind_text_of fault.ObjectTag = codes "ObjectTag"
kind_text_of fault.NotFound = codes "NotFound"
kind_text_of fault.BadPath = codes "BadPath"
kind_text_of fault.Cycle = codes "Cycle"
kind_text_of fault.Depth = codes "Depth"
kind_text_of fault.BadGlobal = codes "BadGlobal"
kind_text_of fault.TooLarge = codes "TooLarge"
kind_text_of fault.OpenString = codes "OpenString"
kind_text_of fault.OpenBracket = codes "OpenBracket"
kind_text_of fault.LongName = codes "LongName"
kind_text_of fault.BadNumber = codes "BadNumber"
kind_text_of fault.DateLiteral = codes "DateLiteral"
kind_text_of fault.BadOperator = codes "BadOperator"
kind_text_of fault.BadCharacter = codes "BadCharacter"
kind_text_of fault.Unexpected = codes "Unexpected"
kind_text_of fault.CallParens = codes "CallParens"
kind_text_of fault.TextHere = codes "TextHere"
kind_text_of fault.TooDeep = codes "TooDeep"
kind_text_of fault.Redefined = codes "Redefined"
kind_text_of fault.BadExit = codes "BadExit"
kind_text_of fault.ConstTarget = codes "ConstTarget"
kind_text_of fault.BadMember = codes "BadMember"
kind_text_of fault.TooMany = codes "TooMany"

-- the line and the kind of a fault
abbrev pub place_text : ℕ → FaultKind → List ℕ
place_text line kind = codes ":" ++ decimal line ++ codes ": " ++ kind_text_of kind

-- the path, the line and the kind of a fault
abbrev pub fault_text_of : SiteFault → List ℕ
fault_text_of fault = fault.path ++ place_text fault.line fault.kind

-- a number with its sign
abbrev pub signed_text : ℤ → List ℕ
signed_text (pos n) = decimal n
signed_text (negsuc n) = codes "-" ++ decimal (n + 1)

-- why an act failed, with its line in the file
abbrev pub cause_text : Fail → List ℕ
cause_text (fail.Error number line) = codes "error " ++ signed_text number ++ codes ", line " ++ decimal line
cause_text (fail.Limit kind line) = codes "limit " ++ limit_name kind ++ codes ", line " ++ decimal line

-- where a recording was refused; what a journal would have that was full
abbrev pub refused_text_of : ℕ → List ℕ
refused_text_of offset = codes "recording refused at byte " ++ decimal offset

abbrev pub full_text_of : Full → List ℕ
full_text_of full =
    codes "journal full: " ++ decimal full.entries ++ codes " entries, " ++ decimal full.weight ++ codes " bytes"

-- what the program says of the end, without a line end
abbrev pub text_of : Status → List ℕ
text_of Ok = []
text_of Memory = codes "out of memory"
text_of Usage = codes "usage: get SITE PATH, check SITE, replay SITE, serve SITE --requests N, gen N"
text_of (SiteRefused fault) = fault_text_of fault
text_of (StartFailed fail) = codes "Application_OnStart failed: " ++ cause_text fail
text_of (RecordRefused offset) = refused_text_of offset
text_of (JournalFull full) = full_text_of full
text_of ReadFault = codes "read fault"
text_of WriteFault = codes "write fault"
text_of AcceptFault = codes "accept fault"
