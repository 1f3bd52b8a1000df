-- The bytes that a replay wrote with the lines of its journal determine the lines.
use Rattle.std.proofs.Common.{◌≡◌, ℕ, ◌^◌, ◌<◌, true, List, [], ◌∷◌, ◌++◌, length, subst, sym, ◌∙◌}
use Rattle.std.proofs.Common.{append_assoc, arith}
use Rattle.std.specs.Prelude.{codes}
use Rattle.std.specs.Fmt.{decimal}
use Rattle.asp_job.specs.declared.entry.Entry.{Entry}
use Rattle.asp_job.specs.Rules.{Rules}
use Rattle.asp_record.specs.EntryLines.{lines_in}
use Rattle.asp_record.specs.Journal.{AreLines}
use Rattle.asp_feed.specs.Shown.{IsOutput, done_line, lines_of, shown_of}
use Rattle.replay_laws.proofs.LineTexts.{LinesAreOne, NoneRefused}
use Rattle.replay_laws.proofs.Numbered.{are_numbered}
use Rattle.replay_laws.proofs.Records.{HasNoRecord, same_tails}
use Rattle.replay_laws.proofs.SameLines.{no_line_begins, one_lines, text_begins}

-- what follows the first letter of the last line
after_letter : ℕ → List ℕ
after_letter count = codes "one " ++ decimal count ++ 10 ∷ []

none_in_tail : (past : List Entry) (count : ℕ) → HasNoRecord (lines_of true past ++ done_line count)
unfolding after_letter
none_in_tail past count rest =
    text_begins past 100 (after_letter count) 97 rest (omega arith) (λ same. omega (arith, same))

-- an output, cut behind the records
cut : (rules : Rules) (past : List Entry) (bytes : List ℕ) (is : IsOutput rules past true bytes)
    → bytes ≡ is.records ++ (lines_of true past ++ done_line (length (shown_of rules past)))
cut rules past bytes is =
    is.bytes_are ∙ append_assoc is.records (lines_of true past) (done_line (length (shown_of rules past)))

pub same_output : LinesAreOne → NoneRefused → (rules other_rules : Rules) (past other : List Entry) (bytes : List ℕ)
    → AreLines (lines_in past) → AreLines (lines_in other) → length bytes < 2 ^ 64 → IsOutput rules past true bytes
    → IsOutput other_rules other true bytes → lines_in past ≡ lines_in other
unfolding after_letter
same_output one none_refused rules other_rules past other bytes right also short is is_also =
    let count = length (shown_of rules past) in
    let count_other = length (shown_of other_rules other) in
    let here = cut rules past bytes is in
    let there = cut other_rules other bytes is_also in
    let tails = same_tails (shown_of rules past) (shown_of other_rules other) is.records is_also.records
    (lines_of true past ++ done_line count) (lines_of true other ++ done_line count_other)
    (are_numbered rules past right) (are_numbered other_rules other also) is.are_records is_also.are_records
    (none_in_tail past count) (none_in_tail other count_other) (subst (λ some. length some < 2 ^ 64) here short)
    (sym here ∙ there) in
    (one_lines one none_refused past other (done_line count) (done_line count_other) right also
    (no_line_begins 100 (after_letter count) (omega arith))
    (no_line_begins 100 (after_letter count_other) (omega arith)) tails).0
