use Rattle.std.proofs.Common.{ℕ, List, ◌∷◌, reverse, take, sym, ap, subst, ◌∙◌}
use Rattle.asp_job.specs.declared.entry.Entry.{Entry}
use Rattle.asp_summary.specs.Counted.{serials_in}
use Rattle.asp_summary.specs.Gathered.{Holds, with_serial}
use Rattle.asp_summary.proofs.Past.{past_more}
use Rattle.asp_summary.proofs.sessions.add_all.Goals as goal

pub loop-entry-preserved : goal.loop-entry-preserved
loop-entry-preserved c =
    let journal = c.args.journal.now in
    let at = c.loop-entry.entry-index in
    let entry = c.entry-item.result in
    let past = reverse (take at journal) in
    let grown = past_more journal at entry c.loop-entry-test.true
    ∙ ap (λ (one : Entry). one ∷ past) (sym c.entry-item.is) in
    let same = ap (λ (serial : ℕ). with_serial serial (serials_in past)) c.serial_in.ensures
    ∙ sym (ap serials_in grown) in
    subst (λ (serials : List ℕ). Holds serials c.add.new.serials) same
    (c.in_ok-add.ensures (serials_in past) c.loop-entry.invariant)
