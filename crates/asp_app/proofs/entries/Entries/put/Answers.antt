use Rattle.std.proofs.Common.{◌≡◌, ◌∙◌, sym, subst, arith, refl}
use Rattle.std.specs.List.{All}
use Rattle.indexmap.specs.IndexMap.{insert_entry}
use Rattle.asp_job.specs.Application.{IsAppEntry, is_name, with_value}
use Rattle.asp_app.proofs.Sharing.{inserted, shared_with}
use Rattle.asp_app.proofs.Weights.{held_within, light_enough, sum_is_weight, too_heavy}
use Rattle.asp_app.proofs.entries.Entries.put.Goals as goal

pub overflow_sub-rest : goal.overflow_sub-rest
overflow_sub-rest c =
    let within = held_within c.args.name.now c.self.inside.map.entries in
    let held = c.held_weight.ensures in
    let weighed = c.self.invariant.weighed in
    omega arith

pub returns-then-weight-gt-MOST_WEIGHT-clause-room : goal.returns-then-weight-gt-MOST_WEIGHT-clause-room
returns-then-weight-gt-MOST_WEIGHT-clause-room c =
    let sum = sum_is_weight c.args.name.now c.args.value.now c.self.inside.map.entries _ _ _ _ c.self.invariant.weighed
    c.self.invariant.light c.held_weight.ensures c.entry_weight.ensures c.saturating_add-weight.ensures in
    let heavy = c.if-weight-gt-MOST_WEIGHT.true in
    rw (sym c.self.view_is)
    (rw (too_heavy (with_value c.args.name.now c.args.value.now c.self.inside.map.entries) (omega arith)) refl)

pub returns-then-weight-gt-MOST_WEIGHT-clause-entries : goal.returns-then-weight-gt-MOST_WEIGHT-clause-entries
returns-then-weight-gt-MOST_WEIGHT-clause-entries c =
    let sum = sum_is_weight c.args.name.now c.args.value.now c.self.inside.map.entries _ _ _ _ c.self.invariant.weighed
    c.self.invariant.light c.held_weight.ensures c.entry_weight.ensures c.saturating_add-weight.ensures in
    let heavy = c.if-weight-gt-MOST_WEIGHT.true in
    rw (sym c.self.view_is)
    (rw (too_heavy (with_value c.args.name.now c.args.value.now c.self.inside.map.entries) (omega arith)) refl)

pub invariant_of-self-2 : goal.invariant_of-self-2
invariant_of-self-2 c =
    let after : c.insert.new.self.entries ≡ with_value c.args.name.now c.args.value.now c.self.inside.map.entries =
    c.in_ok-insert.ensures.entries
    ∙ (λ i. insert_entry is_name c.self.inside.map.entries (c.in_ok-key.ensures i) (c.in_ok-value.ensures i))
    ∙ inserted c.self.inside.map.entries c.args.name.now c.args.value.now in
    let sum = sum_is_weight c.args.name.now c.args.value.now c.self.inside.map.entries _ _ _ _ c.self.invariant.weighed
    c.self.invariant.light c.held_weight.ensures c.entry_weight.ensures c.saturating_add-weight.ensures in
    let fits = c.if-weight-gt-MOST_WEIGHT.false in
    record {
      shared =
          subst (All IsAppEntry) (sym after)
          (shared_with c.args.name.now c.args.value.now c.self.inside.map.entries c.requires.name c.requires.value
          c.self.invariant.shared);
      weighed = rw after (omega arith);
      light = omega arith;
    }

pub returns-clause-room : goal.returns-clause-room
returns-clause-room c =
    let sum = sum_is_weight c.args.name.now c.args.value.now c.self.inside.map.entries _ _ _ _ c.self.invariant.weighed
    c.self.invariant.light c.held_weight.ensures c.entry_weight.ensures c.saturating_add-weight.ensures in
    let fits = c.if-weight-gt-MOST_WEIGHT.false in
    rw (sym c.self.view_is)
    (rw (light_enough (with_value c.args.name.now c.args.value.now c.self.inside.map.entries) (omega arith)) refl)

pub returns-clause-entries : goal.returns-clause-entries
returns-clause-entries c =
    let after : c.insert.new.self.entries ≡ with_value c.args.name.now c.args.value.now c.self.inside.map.entries =
    c.in_ok-insert.ensures.entries
    ∙ (λ i. insert_entry is_name c.self.inside.map.entries (c.in_ok-key.ensures i) (c.in_ok-value.ensures i))
    ∙ inserted c.self.inside.map.entries c.args.name.now c.args.value.now in
    let sum = sum_is_weight c.args.name.now c.args.value.now c.self.inside.map.entries _ _ _ _ c.self.invariant.weighed
    c.self.invariant.light c.held_weight.ensures c.entry_weight.ensures c.saturating_add-weight.ensures in
    let fits = c.if-weight-gt-MOST_WEIGHT.false in
    rw (sym c.self.view_is)
    (rw (light_enough (with_value c.args.name.now c.args.value.now c.self.inside.map.entries) (omega arith)) after)
