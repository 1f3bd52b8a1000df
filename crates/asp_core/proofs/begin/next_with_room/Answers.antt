use Rattle.std.proofs.Common.{◌≡◌, Err, ap, arith, refl}
use Rattle.std.proofs.lemmas.Result.{err_from_is_err_and}
use Rattle.asp_core.specs.Book.{past_in}
use Rattle.asp_core.specs.declared.stop.BeginStop.TheVariants as stops
use Rattle.asp_core.proofs.Beginning.{few_drawn, full_over, memory_back, refused_busy}
use Rattle.asp_core.proofs.begin.next_with_room.Goals as goal

pub next_to_begin-requires : goal.next_to_begin-requires
next_to_begin-requires c = c.requires.numbered

pub returns-in_default-clause-idle : goal.returns-in_default-clause-idle
returns-in_default-clause-idle c = let idle = c.in_default.ensures.none in (λ e. idle, λ is. refl)

pub returns-in_default-clause-full : goal.returns-in_default-clause-full
returns-in_default-clause-full c full e = absurd cc

pub returns-in_default-clause-fits : goal.returns-in_default-clause-fits
returns-in_default-clause-fits c e = absurd cc

pub returns-in_err-room_for-clause-idle : goal.returns-in_err-room_for-clause-idle
returns-in_err-room_for-clause-idle c =
    let p = err_from_is_err_and c.from_residual.result c.from_residual.ensures.1 in
    rw p.1 (refused_busy (past_in c.args.book.now) c.args.book.now.answers c.in-Some.next c.in_err-room_for.field-0.0
    p.0 c.in-Some.ensures.next c.in-Some.ensures.light p.2)

pub returns-in_err-room_for-clause-full : goal.returns-in_err-room_for-clause-full
returns-in_err-room_for-clause-full c full e =
    let p = err_from_is_err_and c.from_residual.result c.from_residual.ensures.1 in
    let told : p.0 ≡ stops.JournalFull full = cc (p.1, e) in
    full_over (past_in c.args.book.now) c.in-Some.next full c.in_err-room_for.field-0.0 p.0 c.in-Some.ensures.next
    (λ full same. c.in_err-room_for.ensures.full full (ap Err same)) p.2 told

pub returns-in_err-room_for-clause-fits : goal.returns-in_err-room_for-clause-fits
returns-in_err-room_for-clause-fits c e =
    let p = err_from_is_err_and c.from_residual.result c.from_residual.ensures.1 in
    let told : p.0 ≡ stops.Memory = cc (p.1, e) in
    c.in_err-room_for.ensures.fits (ap Err (memory_back c.in_err-room_for.field-0.0 p.0 p.2 told))

pub overflow_cast-result : goal.overflow_cast-result
overflow_cast-result c =
    let small = few_drawn (past_in c.args.book.now) c.in-Some.next c.requires.few c.in-Some.ensures.within in
    omega arith

pub returns-clause-ok : goal.returns-clause-ok
returns-clause-ok c = record {
  next = c.in-Some.ensures.next;
  number_is = rw c.journal.ensures at c.session_number-number.ensures.number;
  may = rw c.journal.ensures at c.session_number-number.ensures.may;
  light = c.in-Some.ensures.light;
  load = c.in_ok-room_for.ensures.ok.0;
}

pub returns-clause-full : goal.returns-clause-full
returns-clause-full c full e = absurd cc

pub returns-clause-fits : goal.returns-clause-fits
returns-clause-fits c e = absurd cc
