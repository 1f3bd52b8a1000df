-- A number of requests and what `gen` wrote of them with the lines of the journal tell the journal.
use Rattle.std.proofs.Common.{◌≡◌, ◌∙◌, ℕ, true, List, ◌++◌, refl, sym, arith, false}
use Rattle.asp_host.specs.Around.{Change}
use Rattle.asp_host.specs.Gen.{GeneratesAll}
use Rattle.asp_host.specs.Replay.{rules_for}
use Rattle.asp_record.specs.EntryLines.{printed}
use Rattle.asp_record.specs.Generated.{generated}
use Rattle.asp_record.specs.Journal.{HasNoLine}
use Rattle.asp_summary.specs.Counted.{summary_of}
use Rattle.asp_summary.specs.declared.summary.Summary.{Summary}
use Rattle.asp_summary.specs.Lines.{summary_lines}
use Rattle.replay_laws.specs.Laws.{NoLineBegins, OneJournalOfLines, OneLines}
use Rattle.host_laws.specs.Laws.{TellsWritten}
use Rattle.host_laws.proofs.OneReplayJournal.{written_is}

-- a summary begins with a lower-case letter
no_line : NoLineBegins → (summary : Summary) → HasNoLine (summary_lines summary)
no_line begins summary = begins 114 _ (omega arith)

pub one_gen_journal : NoLineBegins → OneLines → OneJournalOfLines → (count : ℕ) (output : List ℕ)
    (sink other : Change) → TellsWritten sink output → TellsWritten other output
    → (one : GeneratesAll count true sink) → (also : GeneratesAll count true other)
    → printed one.all.summed.past ≡ printed also.all.summed.past
one_gen_journal begins lines journals count output sink other tells more one also =
    let first = one.all.summed in
    let second = also.all.summed in
    let wrote = written_is sink.before sink.after tells.held output one.all.output tells.before tells.after
    one.all.wrote in
    let wrote_too = written_is other.before other.after more.held output also.all.output more.before more.after
    also.all.wrote in
    let same = lines first.past second.past (summary_lines (summary_of count first.past))
    (summary_lines (summary_of count second.past)) (one.all.lines refl) (also.all.lines refl)
    (no_line begins (summary_of count first.past)) (no_line begins (summary_of count second.past))
    (sym first.output_is ∙ wrote ∙ sym wrote_too ∙ second.output_is) in
    journals (rules_for false one.site (generated count)) (rules_for false also.site (generated count)) (generated count).items
    first.past second.past (record { valid = first.account; fed = first.whole.fed })
    (record { valid = second.account; fed = second.whole.fed }) same.0
