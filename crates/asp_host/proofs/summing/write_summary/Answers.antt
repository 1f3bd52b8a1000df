use Rattle.std.proofs.Common.{◌≡◌, ℕ, true, List, Err, reverse, ap, ◌∙◌, subst}
use Rattle.std.specs.String.{string_bytes}
use Rattle.asp_core.specs.Kernel.{past_of, rules_of}
use Rattle.asp_io.specs.Sink.{with_bytes}
use Rattle.asp_job.specs.declared.entry.Entry.{Entry}
use Rattle.asp_record.specs.Ranged.{AreRanged}
use Rattle.asp_replay.proofs.Ranged.{ranged_reverse}
use Rattle.asp_feed.specs.Shown.{lines_of}
use Rattle.asp_replay.specs.Underway.{WritesText}
use Rattle.asp_summary.specs.Counted.{summary_of}
use Rattle.asp_summary.specs.Lines.{summary_lines}
use Rattle.asp_host.proofs.Outputs.{on_ok, text_begun, text_then}
use Rattle.asp_host.proofs.summing.write_summary.Goals as goal

pub returns-in_err-write_journal-clause-wrote : goal.returns-in_err-write_journal-clause-wrote
returns-in_err-write_journal-clause-wrote g c =
    let past = past_of c.args.core.now in
    let before = g.K.Sink.held c.args.sink.now in
    let after = g.K.Sink.held c.write_journal.new.sink in
    let ended = c.in_err-write_journal.field-0.0 in
    let part = subst (λ (one : List Entry). WritesText {T = Unit {0}} (lines_of c.args.journal one) (Err ended) before after)
    (ap reverse c.journal-entries.ensures.journal) c.in_err-write_journal.ensures.wrote in
    text_begun (Unit {0}) ended c.from_residual-in_err-write_journal.result before after (lines_of c.args.journal past)
    (summary_lines (summary_of c.args.count past)) c.from_residual-in_err-write_journal.ensures.1 part

pub returns-clause-wrote : goal.returns-clause-wrote
returns-clause-wrote g c =
    let past = past_of c.args.core.now in
    let before = g.K.Sink.held c.args.sink.now in
    let middle = g.K.Sink.held c.write_journal.new.sink in
    let after = g.K.Sink.held c.write_text.new.sink in
    let same = ap reverse c.journal-entries.ensures.journal in
    let was = subst (λ (one : List Entry). middle ≡ with_bytes before (lines_of c.args.journal one)) same
    c.in_ok-write_journal.ensures.wrote in
    let sums = subst
    (λ (one : List Entry). string_bytes c.in_ok-text.text ≡ summary_lines (summary_of c.args.count one)) same
    c.in_ok-text.ensures in
    let text = c.as_bytes.ensures.value ∙ sums in
    let wrote = subst (λ (bytes : List ℕ). WritesText bytes c.write_text.result middle after) text
    c.write_text.ensures.wrote in
    text_then c.write_text.result before middle after (lines_of c.args.journal past)
    (summary_lines (summary_of c.args.count past)) was wrote

pub returns-clause-lines : goal.returns-clause-lines
returns-clause-lines g c =
    let past = past_of c.args.core.now in
    let rules = rules_of g.R.Runner.meaning c.args.core.now in
    let entries = c.journal-entries.result.now in
    let same = ap reverse c.journal-entries.ensures.journal in
    on_ok c.write_text.result (λ (asked : c.args.journal ≡ true).
    c.journals_have_lines.ensures rules past c.journal-entries.ensures.valid c.journal-entries.ensures.formed
    (subst AreRanged same (ranged_reverse entries (c.in_ok-write_journal.ensures.ranged asked))))
