use Rattle.std.proofs.Common.{ap, ◌∙◌, subst}
use Rattle.vb_value.specs.Outcome.{Gives}
use Rattle.asp_journal.specs.Rows.{job_by}
use Rattle.asp_journal.proofs.Placing.{job_found}
use Rattle.asp_journal.proofs.journal.Journal.job_of.Goals as goal

pub returns : goal.returns
returns c =
    let journal = c.as_slice.ensures.value ∙ ap (λ j. j.items) c.self.view_is in
    subst (Gives c.job_by.result)
    (ap (λ xs. job_by xs c.row_of.result.place c.args.run) journal
    ∙ ap (λ row. job_by c.args.self.now.items row.place c.args.run) c.row_of.ensures
    ∙ job_found c.args.self.now.items c.args.run)
    c.job_by.ensures
