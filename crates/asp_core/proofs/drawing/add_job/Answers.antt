use Rattle.std.proofs.Common.{◌≡◌, ◌++◌, ◌≤◌, ◌+◌, ◌-◌, ◌^◌, ◌∙◌, Err, ap, arith, length, min, reverse, sum_by}
use Rattle.std.proofs.Common.{subst, sym, List}
use Rattle.std.proofs.lemmas.Grind.{common_steps}
use Rattle.std.proofs.lemmas.Result.{err_from_is_err_and}
use Rattle.asp_job.specs.declared.entry.Entry.{Entry}
use Rattle.asp_job.specs.declared.entry.TheConstants.{MOST_ENTRIES}
use Rattle.asp_job.specs.History.{entries_in, work_weight}
use Rattle.asp_core.specs.Book.{past_in}
use Rattle.asp_core.specs.Calm.{entry_weight}
use Rattle.asp_core.specs.Drawing.{IsDrawn, drawn_then, entries_by, tick_before}
use Rattle.asp_core.specs.Kernel.{rules_by}
use Rattle.asp_core.specs.Sessions.{IsAccountOf, account_grown, sessions_in}
use Rattle.asp_core.specs.declared.stop.EventStop.TheVariants.{JournalFull}
use Rattle.asp_core.proofs.Coming.{job_much, job_within}
use Rattle.asp_core.proofs.drawing.add_job.Goals as goal

pub returns-in_err-room_for-clause-full : goal.returns-in_err-room_for-clause-full
returns-in_err-room_for-clause-full g c full e =
    let p = err_from_is_err_and c.from_residual.result c.from_residual.ensures.1 in
    let told : p.0 ≡ JournalFull full = cc (p.1, e) in
    let m = rules_by (g.R.Runner.meaning c.args.lent.now.runner.now c.args.lent.now.site.now) c.args.lent.now.setting in
    let sessions = sessions_in c.args.sessions.now.account in
    let past = past_in c.args.book.now in
    let count : c.len-count.result ≡ length c.args.coming.more = grind (arith, common_steps) in
    let weighs : c.job_weight-weight.result
    ≡ min (sum_by entry_weight c.args.coming.more + (64 + work_weight c.args.coming.job.work)) (2 ^ 64 - 1) =
    grind (arith, common_steps) in
    job_much m sessions past c.args.coming.more c.args.lane c.args.coming.job c.len-count.result
    c.job_weight-weight.result full c.requires.tick count weighs
    (c.in_err-room_for.ensures.full full (ap Err (sym p.2 ∙ told)))

pub add_ticked-requires-clause-few : goal.add_ticked-requires-clause-few
add_ticked-requires-clause-few g c =
    subst (λ (items : List Entry). entries_in (reverse items) ≤ MOST_ENTRIES) (sym c.room_for.ensures.stays.0) c.requires.few

pub add_ticked-requires-clause-account : goal.add_ticked-requires-clause-account
add_ticked-requires-clause-account g c =
    let m = rules_by (g.R.Runner.meaning c.args.lent.now.runner.now c.args.lent.now.site.now) c.args.lent.now.setting in
    let same = c.room_for.ensures.stays.0 in
    let still = c.make_key_room.ensures.account in
    subst (λ (items : List Entry). IsAccountOf m (reverse items) c.make_key_room.new.sessions.account) (sym same)
    (subst (IsAccountOf m (past_in c.args.book.now)) (sym still) c.requires.account)

pub add_ticked-requires-clause-tick : goal.add_ticked-requires-clause-tick
add_ticked-requires-clause-tick g c =
    let same = sym c.room_for.ensures.stays.0 in
    let still = sym c.make_key_room.ensures.account in
    c.requires.tick ∙ (λ i. tick_before (sessions_in (still i)) (reverse (same i)) c.args.lane c.args.coming.job)

pub returns-clause-drawn : goal.returns-clause-drawn
returns-clause-drawn g c =
    let m = rules_by (g.R.Runner.meaning c.args.lent.now.runner.now c.args.lent.now.site.now) c.args.lent.now.setting in
    let same = c.room_for.ensures.stays.0 in
    let still = c.make_key_room.ensures.account in
    subst (λ (entry : Entry). IsDrawn entry.what c.add_ticked.result)
    (λ i. drawn_then m (sessions_in (still i)) (reverse (same i)) c.args.lane c.args.coming.job) c.add_ticked.ensures.drawn

pub returns-clause-account : goal.returns-clause-account
returns-clause-account g c =
    let m = rules_by (g.R.Runner.meaning c.args.lent.now.runner.now c.args.lent.now.site.now) c.args.lent.now.setting in
    let same = c.room_for.ensures.stays.0 in
    let still = c.make_key_room.ensures.account in
    c.add_ticked.ensures.account ∙ (λ i. account_grown m (reverse (same i))
    (entries_by m (sessions_in (still i)) (reverse (same i)) c.args.lane c.args.coming.job) (still i))

pub returns-clause-grows : goal.returns-clause-grows
returns-clause-grows g c =
    let m = rules_by (g.R.Runner.meaning c.args.lent.now.runner.now c.args.lent.now.site.now) c.args.lent.now.setting in
    let sessions = sessions_in c.args.sessions.now.account in
    let stays = c.room_for.ensures.stays in
    let same = stays.0 in
    let still = c.make_key_room.ensures.account in
    let adds = c.add_ticked.ensures.adds in
    let next = adds.0 ∙ (λ i. same i ++ entries_by m (sessions_in (still i)) (reverse (same i)) c.args.lane c.args.coming.job) in
    let count : c.len-count.result ≡ length c.args.coming.more = grind (arith, common_steps) in
    let weighs : c.job_weight-weight.result
    ≡ min (sum_by entry_weight c.args.coming.more + (64 + work_weight c.args.coming.job.work)) (2 ^ 64 - 1) =
    grind (arith, common_steps) in (
      (next, adds.1 ∙ stays.1),
      job_within m sessions c.args.book.now.items c.add_ticked.new.book.items c.args.coming.more c.args.lane c.args.coming.job
          c.len-count.result c.job_weight-weight.result c.requires.tick next count weighs c.in_ok-room_for.ensures.ok.0,
    )
