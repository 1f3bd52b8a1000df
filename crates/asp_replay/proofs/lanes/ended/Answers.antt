use Rattle.std.proofs.Common.{◌≡◌, All, false, subst}
use Rattle.asp_core.specs.Kernel.{past_of, rules_of}
use Rattle.asp_job.specs.declared.entry.Entry.{Entry}
use Rattle.asp_replay.specs.Feed.{is_full_end}
use Rattle.asp_replay.proofs.Endings.{fed_beside, is_true, none_full_in, part_fed, part_left}
use Rattle.asp_replay.proofs.lanes.ended.Goals as goal

pub returns-then-none_is_full-clause-ok : goal.returns-then-none_is_full-clause-ok
returns-then-none_is_full-clause-ok g c = λ items before after left.
    fed_beside (rules_of g.R.Runner.meaning c.args.core) items (past_of c.args.core) before after
    (none_full_in c.args.core.journal (subst (λ entries. All (λ (entry : Entry). is_full_end entry.what ≡ false) entries)
    c.journal.ensures.journal (c.none_is_full.ensures.0 (is_true c.none_is_full.result c.if-none_is_full.true))))
    (rw c.in-Ok.is at left)

pub returns-else-none_is_full-clause-err : goal.returns-else-none_is_full-clause-err
returns-else-none_is_full-clause-err g c = λ workers items before after left met.
    part_fed workers (rules_of g.R.Runner.meaning c.args.core) items (past_of c.args.core) before after
    c.requires.account c.requires.answered (rw c.in-Ok.is at left)

pub returns-in-Err-clause-err : goal.returns-in-Err-clause-err
returns-in-Err-clause-err g c = λ workers items before after left met.
    part_left workers (rules_of g.R.Runner.meaning c.args.core) items (past_of c.args.core) before after
    c.requires.account c.requires.answered c.in-Err.stop c.args.early c.stop_with-stop.result c.requires.none_left
    c.stop_with-stop.ensures (rw c.in-Err.is at left) met
