use Rattle.std.proofs.Common.{◌≡◌, ◌∙◌, ◌-◌, ◌≤◌, ◌^◌, min, List, subst, arith}
use Rattle.asp_job.specs.declared.session.Named.{Named}
use Rattle.asp_objects.specs.Entries.{IsWithin, held_weight, place_of, put_at, weight_of_entries}
use Rattle.asp_objects.proofs.Keeping.{may_put, sum_is_weight}
use Rattle.asp_objects.proofs.session.HeldSession.store.Goals as goal

pub invariant_of-self : goal.invariant_of-self
invariant_of-self c =
    let values = c.self.inside.state.values in
    let at = c.place_of-at.result in
    let entry : Named = record { name = c.args.name; value = c.args.value } in
    let within = subst (λ (entries : List Named). IsWithin at entries) c.as_slice-entries.ensures
    c.place_of-at.ensures.within in
    let sum = sum_is_weight at entry values c.total_weight.result c.held_weight.result c.entry_weight.result
    c.saturating_add-weight.result within c.self.invariant.light
    (c.total_weight.ensures ∙ (λ i. min (weight_of_entries (c.as_slice-entries.ensures i)) (2 ^ 64 - 1)))
    (c.held_weight.ensures ∙ (λ i. min (held_weight at (c.as_slice-entries.ensures i)) (2 ^ 64 - 1)))
    c.entry_weight.ensures c.saturating_add-weight.ensures in
    let fits = c.if-weight-gt-MOST_WEIGHT.false in
    let light : weight_of_entries (put_at at entry values) ≤ 262144 = omega arith in
    may_put c.self.inside.state c.args.name c.args.value at c.put_at.result c.put_at.new.entries c.self.invariant
    (c.place_of-at.ensures.place ∙ (λ i. place_of (c.as_slice.ensures i) (c.as_slice-entries.ensures i)))
    within c.requires.name c.requires.value c.put_at.ensures light
