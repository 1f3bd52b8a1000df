use Rattle.std.proofs.Common.{reverse, ap, ◌∙◌}
use Rattle.asp_journal.specs.Rows.{row_at, row_of}
use Rattle.asp_journal.proofs.journal.Journal.row_of.Goals as goal

pub returns : goal.returns
returns c = c.look_up.ensures ∙ ap (λ rows. row_at rows c.args.run) c.as_slice.ensures.value
    ∙ ap (λ f. f c.args.run) c.self.invariant.0.rows_are
    ∙ ap (λ j. row_of (reverse j.items) c.args.run) c.self.view_is
