use Rattle.std.proofs.Common.{◌≡◌, true, List, reverse, Err, ap, sym, subst, ◌∙◌, refl}
use Rattle.asp_job.specs.Journal.{AreRight}
use Rattle.asp_job.specs.Turns.{may_begin}
use Rattle.asp_job.specs.declared.entry.Entry.{Entry}
use Rattle.asp_core.specs.Book.{past_in}
use Rattle.asp_core.specs.Kernel.{rules_by}
use Rattle.asp_core.proofs.Beginning.{begin_fits, begin_too_much, can_add, can_count, can_number, can_open}
use Rattle.asp_core.proofs.Beginning.{has_begun, not_idle}
use Rattle.asp_core.proofs.Begun.{begin_fit, begin_roomy}
use Rattle.asp_core.proofs.begin.begin_run.Goals as goal

pub next_with_room-requires-clause-numbered : goal.next_with_room-requires-clause-numbered
next_with_room-requires-clause-numbered g c =
    let m = rules_by (g.R.Runner.meaning c.args.lent.now.runner.now c.args.lent.now.site.now) c.args.lent.now.setting in
    can_number m (past_in c.args.book.now) c.args.sessions.now.account c.args.book.now.answers
    c.requires

pub next_with_room-requires-clause-few : goal.next_with_room-requires-clause-few
next_with_room-requires-clause-few g c =
    let m = rules_by (g.R.Runner.meaning c.args.lent.now.runner.now c.args.lent.now.site.now) c.args.lent.now.setting in
    can_add m (past_in c.args.book.now) c.args.sessions.now.account c.args.book.now.answers
    c.requires

pub next_with_room-requires-clause-count : goal.next_with_room-requires-clause-count
next_with_room-requires-clause-count g c =
    let m = rules_by (g.R.Runner.meaning c.args.lent.now.runner.now c.args.lent.now.site.now) c.args.lent.now.setting in
    can_count m (past_in c.args.book.now) c.args.sessions.now.account c.args.book.now.answers
    c.requires

pub returns-in-Err-clause-err : goal.returns-in-Err-clause-err
returns-in-Err-clause-err g c = (c.next_with_room.ensures.stays, refl)

pub returns-in-Err-clause-idle : goal.returns-in-Err-clause-idle
returns-in-Err-clause-idle g c = c.in-Err.ensures.idle

pub returns-in-Err-clause-full : goal.returns-in-Err-clause-full
returns-in-Err-clause-full g c full = λ e.
    let m = rules_by (g.R.Runner.meaning c.args.lent.now.runner.now c.args.lent.now.site.now) c.args.lent.now.setting in
    begin_too_much m (past_in c.args.book.now) c.args.sessions.now.account c.args.book.now.answers
    c.args.lane full c.requires
    (c.in-Err.ensures.full full (ap Err e))

pub returns-in-Err-clause-fits : goal.returns-in-Err-clause-fits
returns-in-Err-clause-fits g c = λ e.
    let m = rules_by (g.R.Runner.meaning c.args.lent.now.runner.now c.args.lent.now.site.now) c.args.lent.now.setting in
    begin_fits m (past_in c.args.book.now) c.args.sessions.now.account c.args.book.now.answers
    c.args.lane c.requires (c.in-Err.ensures.fits (ap Err e))

pub start_run-requires : goal.start_run-requires
start_run-requires g c =
    let m = rules_by (g.R.Runner.meaning c.args.lent.now.runner.now c.args.lent.now.site.now) c.args.lent.now.setting in
    rw (c.journal.ensures, c.next_with_room.ensures.stays.0) (can_open m (past_in c.args.book.now)
    c.args.sessions.now.account c.args.book.now.answers c.in-Ok.next.0 c.in-Ok.next.1 c.requires c.in-Ok.ensures.ok)

pub add_begin-requires-clause-fit : goal.add_begin-requires-clause-fit
add_begin-requires-clause-fit g c =
    let m = rules_by (g.R.Runner.meaning c.args.lent.now.runner.now c.args.lent.now.site.now) c.args.lent.now.setting in
    rw c.next_with_room.ensures.stays.0 (begin_fit m (past_in c.args.book.now) c.in-Ok.next.0
    c.in-Ok.next.1.serial c.requires.kept.sessions.journal.entries c.in-Ok.ensures.ok.next.first.begins)

pub add_begin-requires-clause-room : goal.add_begin-requires-clause-room
add_begin-requires-clause-room g c =
    let m = rules_by (g.R.Runner.meaning c.args.lent.now.runner.now c.args.lent.now.site.now) c.args.lent.now.setting in
    let items = sym c.next_with_room.ensures.stays.0 in
    let begins = c.in-Ok.ensures.ok.next.first.begins in
    begin_roomy m c.next_with_room.new.book c.args.lane c.in-Ok.next.0 c.in-Ok.next.1.serial
    (subst (λ (xs : List Entry). AreRight m (reverse xs)) items c.requires.kept.sessions.journal.entries)
    (subst (λ (xs : List Entry). may_begin (reverse xs) c.in-Ok.next.0 ≡ true) items begins) c.in-Ok.ensures.room

pub add_begin-requires-clause-count : goal.add_begin-requires-clause-count
add_begin-requires-clause-count g c =
    let m = rules_by (g.R.Runner.meaning c.args.lent.now.runner.now c.args.lent.now.site.now) c.args.lent.now.setting in
    can_count m (past_in c.args.book.now) c.args.sessions.now.account c.args.book.now.answers
    c.requires

pub returns-in-Ok-start_run-clause-ok : goal.returns-in-Ok-start_run-clause-ok
returns-in-Ok-start_run-clause-ok g c =
    let stays = c.next_with_room.ensures.stays in
    let adds = c.add_begin.ensures.adds in
    has_begun (g.R.Runner.meaning c.args.lent.now.runner.now c.args.lent.now.site.now) c.args.lent.now.setting
    (g.R.Runner.stands c.args.lent.now.runner.now c.args.lent.now.site.now) c.args.lane c.args.book.now c.add_begin.new.book
    c.args.sessions.now.account c.add_begin.new.sessions.account c.in-Ok-start_run.begun c.in-Ok.next.0 c.in-Ok.next.1
    c.requires c.in-Ok.ensures.ok (rw stays.0 at adds.0, adds.1 ∙ stays.1) (rw stays.0 at c.add_begin.ensures.account)
    (rw (c.journal.ensures, stays.0) at c.in-Ok-start_run.ensures)

pub returns-in-Err-start_run-clause-err : goal.returns-in-Err-start_run-clause-err
returns-in-Err-start_run-clause-err g c = (c.next_with_room.ensures.stays, refl)

pub returns-in-Err-start_run-clause-idle : goal.returns-in-Err-start_run-clause-idle
returns-in-Err-start_run-clause-idle g c =
    let is = c.in-Ok.ensures.ok in (
      λ e. absurd cc,
      λ idle. absurd (not_idle (past_in c.args.book.now) c.args.book.now.answers c.in-Ok.next.0 is.next is.light idle),
    )

pub returns-in-Err-start_run-clause-full : goal.returns-in-Err-start_run-clause-full
returns-in-Err-start_run-clause-full g c full = λ e. absurd cc

pub returns-in-Err-start_run-clause-fits : goal.returns-in-Err-start_run-clause-fits
returns-in-Err-start_run-clause-fits g c = λ e.
    let m = rules_by (g.R.Runner.meaning c.args.lent.now.runner.now c.args.lent.now.site.now) c.args.lent.now.setting in
    begin_fits m (past_in c.args.book.now) c.args.sessions.now.account c.args.book.now.answers
    c.args.lane c.requires c.in-Ok.ensures.ok.load
