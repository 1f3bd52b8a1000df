use Rattle.std.proofs.Common.{◌++◌, ap, ◌∙◌, cond, Some, None, nat_cmp}
use Rattle.std.specs.BTreeMap.{get, is_at}
use Rattle.std.specs.Cmp.Lexicographic.{slice_cmp}
use Rattle.asp_request.specs.Collection.{new_name, values_at}
use Rattle.asp_request.proofs.Pairing.{collects_more}
use Rattle.asp_request.proofs.collection.Collection.add.Goals as goal

pub returns : goal.returns
returns c = λ pairs is.
    let key = c.in_ok-key.ensures in
    collects_more c.args.self.now c.note_name.new.names c.take_values-values.new.groups c.put_values.new.groups pairs
    c.args.name c.args.value c.take_values-values.result c.push.new.self is
    (c.take_values-values.ensures.values ∙ ap (values_at c.args.self.now.groups) key)
    (c.in_ok-note_name.ensures ∙ ap (λ v. c.args.self.now.names ++ new_name v c.args.name) c.as_slice.ensures)
    c.in_ok-push.ensures
    (λ other. c.take_values-values.ensures.others other ∙ ap (λ k. cond (is_at (slice_cmp nat_cmp k) other) None
    (get (slice_cmp nat_cmp) c.args.self.now.groups other)) key)
    (λ other. c.in_ok-put_values.ensures other ∙ ap (λ k. cond (is_at (slice_cmp nat_cmp k) other)
    (Some c.push.new.self) (get (slice_cmp nat_cmp) c.take_values-values.new.groups other)) key)
