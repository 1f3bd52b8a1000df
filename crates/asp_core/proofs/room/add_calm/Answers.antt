use Rattle.std.proofs.Common.{◌≡◌, ◌++◌, ◌-◌, ◌^◌, Err, ap, arith, length, min, sum_by, sym, ◌∙◌}
use Rattle.std.proofs.lemmas.Grind.{common_steps}
use Rattle.std.proofs.lemmas.Result.{err_from_is_err_and}
use Rattle.asp_core.specs.Book.{past_in}
use Rattle.asp_core.specs.Calm.{entry_weight}
use Rattle.asp_core.specs.declared.stop.EventStop.TheVariants.{JournalFull}
use Rattle.asp_core.proofs.Calm.{calm_much, calm_within}
use Rattle.asp_core.proofs.room.add_calm.Goals as goal

pub returns-in_err-room_for-clause-full : goal.returns-in_err-room_for-clause-full
returns-in_err-room_for-clause-full c full e =
    let p = err_from_is_err_and c.from_residual.result c.from_residual.ensures.1 in
    let told : p.0 ≡ JournalFull full = cc (p.1, e) in
    let count : c.len.result ≡ length c.args.more = grind (arith, common_steps) in
    let weighs : c.entries_weight-weight.result ≡ min (sum_by entry_weight c.args.more) (2 ^ 64 - 1) =
    grind (arith, common_steps) in
    calm_much (past_in c.args.book.now) c.args.more c.len.result c.entries_weight-weight.result full
    c.requires.fit c.requires.calm count weighs (c.in_err-room_for.ensures.full full (ap Err (sym p.2 ∙ told)))

pub returns-clause-ok : goal.returns-clause-ok
returns-clause-ok c =
    let count : c.len.result ≡ length c.args.more = grind (arith, common_steps) in
    let weighs : c.entries_weight-weight.result ≡ min (sum_by entry_weight c.args.more) (2 ^ 64 - 1) =
    grind (arith, common_steps) in
    let stays = c.room_for.ensures.stays in
    let adds = c.add.ensures.adds in
    let items = adds.0 ∙ ap (λ items. items ++ c.args.more) stays.0 in (
      (items, adds.1 ∙ stays.1),
      calm_within c.args.book.now.items c.add.new.self.items c.args.more c.len.result c.entries_weight-weight.result
          items c.requires.fit c.requires.calm count weighs c.in_ok-room_for.ensures.ok.0,
    )
