use Rattle.std.proofs.Common.{◌∷◌, ℤ, unwrap_or, reverse, take, sym, ap, ◌∙◌, rules, SFits, w32}
use Rattle.std.proofs.lemmas.Int.{to_z-of_z}
use Rattle.asp_job.specs.declared.entry.Entry.{Entry}
use Rattle.asp_summary.specs.Counted.{last_total, put_in}
use Rattle.asp_summary.proofs.Past.{past_more}
use Rattle.asp_summary.proofs.total.last_total.Goals as goal

pub loop-entry-preserved : goal.loop-entry-preserved
loop-entry-preserved c =
    let journal = c.args.journal.now in
    let at = c.loop-entry.entry-index in
    let entry = c.entry-item.result in
    let past = reverse (take at journal) in
    let grown = past_more journal at entry c.loop-entry-test.true
    ∙ ap (λ (one : Entry). one ∷ past) (sym c.entry-item.is) in
    let total = c.total_after-total.result in
    let fits : SFits w32 total = search rules in
    to_z-of_z w32 total fits ∙ (c.total_after-total.ensures
    ∙ (ap (λ (before : ℤ). unwrap_or (put_in entry.what) before) c.loop-entry.invariant
    ∙ sym (ap last_total grown)))
