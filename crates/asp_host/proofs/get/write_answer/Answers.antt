use Rattle.std.proofs.Common.{◌≡◌, ℕ, List, sym, subst}
use Rattle.asp_io.specs.Copying.{AddsPart}
use Rattle.asp_io.specs.Sink.{with_bytes}
use Rattle.asp_host.specs.declared.status.Status.{Status}
use Rattle.asp_host.specs.Get.{GetWrites}
use Rattle.asp_host.proofs.GetEnds.{nothing_answered}
use Rattle.asp_host.proofs.get.write_answer.Goals as goal

pub returns-in-Ok-write_all-clause-writes : goal.returns-in-Ok-write_all-clause-writes
returns-in-Ok-write_all-clause-writes g c = λ files accepted.
    let held = g.K.Sink.held c.args.sink.now in
    let after = g.K.Sink.held c.write_all.new.sink in
    let wrote = subst (λ (bytes : List ℕ). after ≡ with_bytes held bytes) c.as_slice.ensures
    c.in-Ok-write_all.ensures.ok in (
      c.in-Ok.answer,
      record { site = c.args.site.now; accepted = accepted; answered = c.in-Ok.ensures.ok },
      wrote,
    )

pub returns-clause-writes : goal.returns-clause-writes
returns-clause-writes g c = λ files accepted.
    let held = g.K.Sink.held c.args.sink.now in
    let after = g.K.Sink.held c.write_all.new.sink in
    let wrote = subst (λ (bytes : List ℕ). AddsPart held after bytes) c.as_slice.ensures
    c.in-Err-write_all.ensures.err in (
      c.in-Ok.answer,
      record { site = c.args.site.now; accepted = accepted; answered = c.in-Ok.ensures.ok },
      wrote,
    )

pub returns-in-Err-clause-writes : goal.returns-in-Err-clause-writes
returns-in-Err-clause-writes g c = λ files accepted.
    let held = g.K.Sink.held c.args.sink.now in
    let path = c.args.path.now in
    let query = c.args.query.now in
    subst (λ (status : Status). GetWrites path query files (record { before = held; after = held }) status)
    (sym c.from.ensures)
    (nothing_answered path query files c.args.site.now held c.in-Err.stop accepted c.in-Err.ensures.err)
