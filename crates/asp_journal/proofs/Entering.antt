-- The tables after an entry.
use Rattle.std.proofs.Common.{◌≡◌, ℕ, ◌+◌, ◌<◌, ◌≤◌, arith, if◌then◌else◌, List, [], ◌∷◌, ◌++◌, length, reverse}
use Rattle.std.proofs.Common.{ap, sym, ◌∙◌}
use Rattle.std.proofs.Math.Path.{fun_ext}
use Rattle.asp_job.specs.Runs.{draws}
use Rattle.asp_job.specs.declared.entry.Entry.{Entry}
use Rattle.asp_journal.specs.Tables.{HasSpare, IsFit, IsIndexed, open_after, tally_after}
use Rattle.asp_journal.specs.Rows.{row_at, row_of, rows_after}
use Rattle.asp_journal.specs.declared.rows.Row.{Row}
use Rattle.asp_journal.specs.declared.tally.Tally.{Tally}
use Rattle.asp_journal.proofs.Indexing.{row_more, tally_more}
use Rattle.asp_journal.proofs.Open.{open_more}
use Rattle.asp_journal.proofs.Past.{length_past, past_push}

pub indexed_more : (journal next : List Entry) (rows marked_rows : List Row) (tally later : Tally)
    (listed opened : List ℕ) (place : ℕ) (entry : Entry)
    → IsIndexed (reverse journal) rows tally listed → IsFit (reverse journal) entry.what
    → next ≡ journal ++ entry ∷ [] → place ≡ length journal
    → row_at marked_rows ≡ rows_after place entry.lane entry.what (row_at rows)
    → length marked_rows ≡ (if draws entry.what then length rows + 1 else length rows)
    → later ≡ tally_after entry.what tally → opened ≡ open_after entry.what listed
    → IsIndexed (reverse next) marked_rows later opened
indexed_more journal next rows marked_rows tally later listed opened place entry is fit e at f g h i =
    let past = reverse journal in
    let of : reverse next ≡ entry ∷ past = ap reverse e ∙ past_push journal entry in
    let here : place ≡ length past = at ∙ sym (length_past journal) in
    let whole : IsIndexed (entry ∷ past) marked_rows later opened = record {
      rows_are = f ∙ ap (rows_after place entry.lane entry.what) is.rows_are
          ∙ ap (λ n. rows_after n entry.lane entry.what (row_of past)) here
          ∙ sym (fun_ext (λ r. row_more past entry r));
      drawn_is = g ∙ ap (λ n. if draws entry.what then n + 1 else n) is.drawn_is;
      tally_is = h ∙ ap (tally_after entry.what) is.tally_is ∙ sym (tally_more past entry);
      open_are = i ∙ ap (open_after entry.what) is.open_are
          ∙ sym (open_more past entry.lane entry.what fit.numbered fit.timely);
    } in
    rw of whole

-- an entry takes at most one place of each table
pub spare_less : (entries rows listed capacity in_journal in_rows in_list : ℕ)
    (one_more rows_more listed_more : ℕ) (new_journal new_rows new_list : ℕ)
    → HasSpare entries rows listed capacity in_journal in_rows in_list → entries < capacity
    → one_more ≡ entries + 1 → rows_more ≤ rows + 1 → listed_more ≤ listed + 1
    → new_journal ≡ in_journal → new_rows ≡ in_rows → new_list ≡ in_list
    → HasSpare one_more rows_more listed_more capacity new_journal new_rows new_list
spare_less entries rows listed capacity in_journal in_rows in_list one_more rows_more listed_more new_journal new_rows
    new_list spare room a b c d e f =
    let s1 = spare.within in
    let s2 = spare.of_journal in
    let s3 = spare.of_rows in
    let s5 = spare.of_list in
    record {
      within = omega arith;
      of_journal = omega arith;
      of_rows = omega arith;
      of_list = omega arith;
    }
