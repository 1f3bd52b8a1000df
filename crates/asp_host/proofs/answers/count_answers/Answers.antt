use Rattle.std.proofs.Common.{◌+◌, ◌∷◌, reverse, take, sym, ap, ◌∙◌}
use Rattle.asp_job.specs.declared.entry.Entry.{Entry}
use Rattle.asp_host.specs.Answered.{one_if}
use Rattle.asp_host.proofs.Marks.{counted_more, marks_more, past_more}
use Rattle.asp_host.proofs.answers.count_answers.Goals as goal

pub loop-entry-preserved : goal.loop-entry-preserved
loop-entry-preserved c =
    let journal = c.args.journal.now in
    let at = c.loop-entry.entry-index in
    let entry = c.entry-item.result in
    let past = reverse (take at journal) in
    let pages = c.loop-entry.pages in
    let count = c.loop-entry.count in
    let grown = past_more journal at entry c.loop-entry-test.true
    ∙ ap (λ (one : Entry). one ∷ past) (sym c.entry-item.is) in
    let more = c.in_ok-count.ensures ∙ ap (λ one. count + one_if one) c.leaves_answer.ensures in
    let marks = marks_more past entry pages c.mark_drawn.new.pages c.loop-entry.invariant.0 c.in_ok-mark_drawn.ensures in
    let counted = counted_more past entry pages count c.loop-entry.invariant.0 c.loop-entry.invariant.1 in (
      rw grown marks,
      rw (grown, more) counted,
    )
