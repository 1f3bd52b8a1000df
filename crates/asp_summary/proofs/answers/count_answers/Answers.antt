use Rattle.std.proofs.Common.{◌+◌, ◌∷◌, ℕ, if◌then◌else◌, reverse, take, sym, ap, ◌∙◌}
use Rattle.asp_job.specs.declared.entry.Entry.{Entry}
use Rattle.asp_summary.specs.Counted.{answers_in, is_answer}
use Rattle.asp_summary.proofs.Past.{past_more}
use Rattle.asp_summary.proofs.answers.count_answers.Goals as goal

pub loop-entry-preserved : goal.loop-entry-preserved
loop-entry-preserved c =
    let journal = c.args.journal.now in
    let at = c.loop-entry.entry-index in
    let entry = c.entry-item.result in
    let past = reverse (take at journal) in
    let grown = past_more journal at entry c.loop-entry-test.true
    ∙ ap (λ (one : Entry). one ∷ past) (sym c.entry-item.is) in
    c.in_ok-count.ensures ∙ (ap (λ (n : ℕ). if is_answer entry.what then n + 1 else n) c.loop-entry.invariant
    ∙ sym (ap answers_in grown))
