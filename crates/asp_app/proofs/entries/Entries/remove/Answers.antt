use Rattle.std.proofs.Common.{◌≡◌, ◌∙◌, sym, subst, arith}
use Rattle.std.specs.List.{All}
use Rattle.std.specs.Map.{remove_entry}
use Rattle.asp_job.specs.Application.{IsAppEntry, is_name, without}
use Rattle.asp_app.proofs.Sharing.{shared_without}
use Rattle.asp_app.proofs.Weights.{held_within, remove_weight}
use Rattle.asp_app.proofs.entries.Entries.remove.Goals as goal

pub overflow_sub-self : goal.overflow_sub-self
overflow_sub-self c =
    let within = held_within c.args.name.now c.self.inside.map.entries in
    let held = c.held_weight.ensures in
    let weighed = c.self.invariant.weighed in
    omega arith

pub invariant_of-self : goal.invariant_of-self
invariant_of-self c =
    let after : c.shift_remove.new.self.entries ≡ without c.args.name.now c.self.inside.map.entries =
    c.shift_remove.ensures.entries ∙ (λ i. remove_entry (is_name (c.in_ok-key.ensures i)) c.self.inside.map.entries) in
    let less = remove_weight c.args.name.now c.self.inside.map.entries in
    let within = held_within c.args.name.now c.self.inside.map.entries in
    let held = c.held_weight.ensures in
    let weighed = c.self.invariant.weighed in
    let light = c.self.invariant.light in
    record {
      shared =
          subst (All IsAppEntry) (sym after)
          (shared_without c.args.name.now c.self.inside.map.entries c.self.invariant.shared);
      weighed = rw after (omega arith);
      light = omega arith;
    }
