use Rattle.std.proofs.Common.{◌≡◌, ℕ, true, List, length, reverse, ap, sym, ◌∙◌, subst}
use Rattle.asp_core.specs.Kernel.{past_of, rules_of}
use Rattle.asp_core.specs.Ready.{IsAnswered}
use Rattle.asp_io.specs.Sink.{with_bytes}
use Rattle.asp_job.specs.declared.entry.Entry.{Entry}
use Rattle.asp_record.specs.Ranged.{AreRanged}
use Rattle.asp_feed.specs.Shown.{done_line, lines_of, shown_of}
use Rattle.asp_replay.specs.Underway.{WritesText}
use Rattle.asp_replay.proofs.Ranged.{ranged_reverse}
use Rattle.asp_host.proofs.Outputs.{on_ok, text_then}
use Rattle.asp_host.proofs.output.write_end.Goals as goal

pub returns-clause-wrote : goal.returns-clause-wrote
returns-clause-wrote g c =
    let past = past_of c.args.core.now in
    let rules = rules_of g.R.Runner.meaning c.args.core.now in
    let before = g.K.Sink.held c.args.sink.now in
    let middle = g.K.Sink.held c.write_journal.new.sink in
    let after = g.K.Sink.held c.write_done.new.sink in
    let same = ap reverse c.journal-entries.ensures.journal in
    let was = subst (λ (one : List Entry). middle ≡ with_bytes before (lines_of c.args.journal one)) same
    c.in_ok-write_journal.ensures.wrote in
    let answered = subst (λ (one : List Entry). IsAnswered rules one) (sym same) c.journal-entries.ensures.answered in
    let count = c.in_ok-count.ensures rules answered ∙ ap (λ (one : List Entry). length (shown_of rules one)) same in
    let wrote = subst (λ (n : ℕ). WritesText (done_line n) c.write_done.result middle after) count c.write_done.ensures.wrote in
    text_then c.write_done.result before middle after (lines_of c.args.journal past)
    (done_line (length (shown_of rules past))) was wrote

pub returns-clause-lines : goal.returns-clause-lines
returns-clause-lines g c =
    let past = past_of c.args.core.now in
    let rules = rules_of g.R.Runner.meaning c.args.core.now in
    let entries = c.journal-entries.result.now in
    let same = ap reverse c.journal-entries.ensures.journal in
    on_ok c.write_done.result (λ (asked : c.args.journal ≡ true).
    c.journals_have_lines.ensures rules past c.journal-entries.ensures.valid c.journal-entries.ensures.formed
    (subst AreRanged same (ranged_reverse entries (c.in_ok-write_journal.ensures.ranged asked))))
