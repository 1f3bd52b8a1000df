-- The heads of sound answers are whole lines.
use Rattle.std.proofs.Common.{◌≡◌, ℕ, Bool, true, false, List, [], ◌∷◌, ◌++◌, length, refl, arith}
use Rattle.std.proofs.Common.{length-append, subst, sym}
use Rattle.std.specs.Prelude.{codes, encode_utf8_all, map}
use Rattle.std.specs.Fmt.{decimal}
use Rattle.std.specs.List.{All}
use Rattle.std.proofs.lemmas.List.Elements.{All-nil, All-cons, All-append, All-map, All-weaker}
use Rattle.asp_job.specs.declared.answer.Answer.{Answer}
use Rattle.asp_job.specs.declared.request.Header.{Header}
use Rattle.asp_response.specs.AnswerText.{IsAnswerText, answer_text, close_lines, content, field, field_of}
use Rattle.asp_response.specs.AnswerText.{head_lines, length_lines, may_have_content, status_line}
use Rattle.asp_response.specs.Sound.{HasWholeLines, IsHeadLine, IsPrintable, IsSound, IsSoundHeader}
use Rattle.asp_response.proofs.Dates.{date_printable}
use Rattle.asp_response.proofs.Printable.{both_printable, decimal_printable, printable_of, utf8_printable}

field_whole : (name value : List ℕ) → IsPrintable name → IsPrintable value → IsHeadLine (field name value)
field_whole name value named valued = record {
  some = omega (arith, length-append (name ++ codes ": ") value, length-append name (codes ": "));
  printable = both_printable (both_printable named (printable_of (codes ": ") refl)) valued;
}

header_whole : (header : Header) → IsSoundHeader header → IsHeadLine (field_of header)
header_whole header sound = field_whole (encode_utf8_all header.name) header.value (utf8_printable sound.name)
    sound.value

status_whole : (answer : Answer) → IsSound answer → IsHeadLine (status_line answer)
status_whole answer sound = record {
  some = grind arith;
  printable = both_printable (both_printable (both_printable (printable_of (codes "HTTP/1.1 ") refl)
      (decimal_printable answer.status)) (printable_of (codes " ") refl)) (utf8_printable sound.reason);
}

close_whole : (close : Bool) (answer : Answer) → answer.close ≡ close → All IsHeadLine (close_lines answer)
close_whole true answer is = rw is (All-cons IsHeadLine (field (codes "Connection") (codes "close")) []
    (field_whole (codes "Connection") (codes "close") (printable_of (codes "Connection") refl)
    (printable_of (codes "close") refl))
    (All-nil IsHeadLine))
close_whole false answer is = rw is (All-nil IsHeadLine)

length_whole : (may : Bool) (answer : Answer) → may_have_content answer.status ≡ may
    → All IsHeadLine (length_lines answer)
length_whole true answer is = rw is (All-cons IsHeadLine
    (field (codes "Content-Length") (decimal (length answer.body))) []
    (field_whole (codes "Content-Length") (decimal (length answer.body)) (printable_of (codes "Content-Length") refl)
    (decimal_printable (length answer.body)))
    (All-nil IsHeadLine))
length_whole false answer is = rw is (All-nil IsHeadLine)

lines_whole : (answer : Answer) (date : List ℕ) → IsSound answer → IsPrintable date
    → All IsHeadLine (head_lines answer date)
lines_whole answer date sound printable =
    let date_whole : IsHeadLine (field (codes "Date") date) =
    field_whole (codes "Date") date (printable_of (codes "Date") refl) printable in
    let fields : All IsHeadLine (map field_of answer.headers) =
    All-map IsHeadLine field_of answer.headers
    (All-weaker IsSoundHeader (λ header. IsHeadLine (field_of header)) header_whole answer.headers sound.headers) in
    let ending = length_lines answer ++ close_lines answer in
    let others = map field_of answer.headers ++ ending in
    All-cons IsHeadLine (status_line answer) (field (codes "Date") date ∷ others) (status_whole answer sound)
    (All-cons IsHeadLine (field (codes "Date") date) others date_whole
    (All-append IsHeadLine (map field_of answer.headers) ending fields
    (All-append IsHeadLine (length_lines answer) (close_lines answer)
    (length_whole (may_have_content answer.status) answer refl) (close_whole answer.close answer refl))))

pub head_is_whole : (answer : Answer) (moment : ℕ) (bytes : List ℕ)
    → IsSound answer → IsAnswerText answer moment bytes → HasWholeLines bytes
unfolding answer_text
head_is_whole answer moment bytes sound is = record {
  lines = head_lines answer is.date;
  content = content answer;
  whole = lines_whole answer is.date sound (subst IsPrintable (sym is.is_date.shown) (date_printable is.is_date.date));
  are = is.written;
}
