-- A journal has one output.
use Rattle.std.proofs.Common.{◌≡◌, ℕ, Bool, List, [], ◌∷◌, ◌++◌, length, sym, ap, ◌∙◌}
use Rattle.httpdate.specs.Text.{imf_fixdate}
use Rattle.httpdate.proofs.Theorems.{unix_secs_injective}
use Rattle.asp_job.specs.declared.answer.Answer.{Answer}
use Rattle.asp_job.specs.declared.entry.Entry.{Entry}
use Rattle.asp_job.specs.Rules.{Rules}
use Rattle.asp_response.specs.AnswerText.{IsAnswerText, IsDateOf, answer_text}
use Rattle.asp_feed.specs.Shown.{AreRecords, IsOutput, IsRecord, Shown, done_line, lines_of, record_text, shown_of}

-- a moment has one date
one_date : (moment : ℕ) (text other : List ℕ) → IsDateOf moment text → IsDateOf moment other → text ≡ other
one_date moment text other is also =
    is.shown ∙ ap imf_fixdate (unix_secs_injective is.date also.date (is.second ∙ sym also.second)) ∙ sym also.shown

-- an answer has one text at a moment
one_text : (answer : Answer) (moment : ℕ) (text other : List ℕ) → IsAnswerText answer moment text
    → IsAnswerText answer moment other → text ≡ other
one_text answer moment text other is also =
    is.written ∙ ap (answer_text answer) (one_date moment is.date also.date is.is_date also.is_date) ∙ sym also.written

one_record : (shown : Shown) (bytes other : List ℕ) → IsRecord shown bytes → IsRecord shown other → bytes ≡ other
one_record shown bytes other is also =
    is.bytes_are
    ∙ ap (record_text shown.run) (one_text shown.answer shown.moment is.text also.text is.is_text also.is_text)
    ∙ sym also.bytes_are

one_records : (all : List Shown) (bytes other : List ℕ) → AreRecords all bytes → AreRecords all other → bytes ≡ other
one_records [] bytes other is also = is ∙ sym also
one_records (first ∷ rest) bytes other is also =
    let front : is.0 ≡ also.0 = one_record first is.0 also.0 is.2 also.2 in
    let back : is.1 ≡ also.1 = one_records rest is.1 also.1 is.3 also.3 in
    let both : is.0 ++ is.1 ≡ also.0 ++ also.1 = λ i. front i ++ back i in
    is.4 ∙ both ∙ sym also.4

pub one_output : (rules : Rules) (past : List Entry) (journal : Bool) (bytes other : List ℕ)
    → IsOutput rules past journal bytes → IsOutput rules past journal other → bytes ≡ other
one_output rules past journal bytes other is also =
    let records = one_records (shown_of rules past) is.records also.records is.are_records also.are_records in
    is.bytes_are
    ∙ ap (λ some. some ++ lines_of journal past ++ done_line (length (shown_of rules past))) records
    ∙ sym also.bytes_are
