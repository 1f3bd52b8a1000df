use Rattle.std.proofs.Common.{sym, ◌∙◌}
use Rattle.http_front.specs.Fields.{fields_with}
use Rattle.http_front.proofs.HeaderFields.{fields_of-nil, fields_of-more}
use Rattle.http_front.proofs.fields.Fields.from_spans.Goals as goal

pub loop-header-init : goal.loop-header-init
loop-header-init c = sym fields_of-nil

pub loop-header-preserved : goal.loop-header-preserved
loop-header-preserved c =
    c.with-fields.ensures ∙ (λ k. fields_with (c.loop-header.invariant k) (c.of.ensures k) (c.of-in-loop-header.ensures k))
    ∙ sym (fields_of-more c.args.buf.now c.args.headers.now c.loop-header.header-index _ c.loop-header-test.true)
