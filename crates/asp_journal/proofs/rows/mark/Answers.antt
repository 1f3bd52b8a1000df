use Rattle.std.proofs.Common.{◌≡◌, ◌+◌, ◌==◌, if◌then◌else◌, length, ap, ◌∙◌}
use Rattle.asp_journal.specs.Rows.{changed, marked, row_at, with_row}
use Rattle.asp_journal.proofs.Indexing.{length_marked, rows_marked}
use Rattle.asp_journal.proofs.rows.mark.Goals as goal

pub returns-clause-rows : goal.returns-clause-rows
returns-clause-rows c =
    let rows = c.args.rows.now.items in
    let what = c.args.entry.now.what in
    let by = changed c.args.place c.args.entry.now.lane what in
    let run : c.marked-run.result ≡ marked what = c.marked-run.ensures in
    let found : c.look_up.result ≡ row_at rows (marked what) = c.look_up.ensures
    ∙ ap (λ table. row_at table c.marked-run.result) c.as_slice.ensures.value ∙ ap (row_at rows) run in
    let row : c.changed-row.result ≡ by (row_at rows (marked what)) = c.changed-row.ensures ∙ ap by found in
    c.put.ensures.rows ∙ ap (λ i. with_row i c.changed-row.result (row_at rows)) run
    ∙ ap (λ x. with_row (marked what) x (row_at rows)) row
    ∙ rows_marked rows c.args.place c.args.entry.now.lane what c.requires.numbered

pub returns-clause-length : goal.returns-clause-length
returns-clause-length c =
    let n = length c.args.rows.now.items in
    c.put.ensures.length ∙ ap (λ i. if i == (n + 1) then i else n) c.marked-run.ensures
    ∙ length_marked n c.args.entry.now.what c.requires.numbered
