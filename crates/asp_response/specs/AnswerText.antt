-- The bytes of an answer (RFC 9112, sections 2.1 and 4 to 6; RFC 9110, sections 6.6.1, 8.6, 9.3.2, 15.3.5 and 15.4.5).
use Rattle.std.specs.Prelude.{◌≡◌, ℕ, min, ◌==◌, Bool, not, ◌&&◌, List, [], ◌∷◌, ◌++◌, if◌then◌else◌, length, map}
use Rattle.std.specs.Prelude.{codes}
use Rattle.std.specs.Prelude.{encode_utf8_all}
use Rattle.std.specs.List.{flat_map}
use Rattle.std.specs.Fmt.{decimal}
use Rattle.httpdate.specs.Date.{unix_secs, date_text}
use Rattle.httpdate.specs.declared.date.HttpDate.{HttpDate}
use Rattle.asp_job.specs.declared.answer.Answer.{Answer}
use Rattle.asp_job.specs.declared.request.Header.{Header}

-- a line ends in CR LF
abbrev pub line : List ℕ → List ℕ
line text = text ++ 13 ∷ 10 ∷ []

-- field-line = field-name ":" OWS field-value
abbrev pub field : List ℕ → List ℕ → List ℕ
field name value = name ++ codes ": " ++ value

abbrev pub field_of : Header → List ℕ
field_of header = field (encode_utf8_all header.name) header.value

-- status-line = HTTP-version SP status-code SP [ reason-phrase ]
abbrev pub status_text : ℕ → List ℕ → List ℕ
status_text status reason = codes "HTTP/1.1 " ++ decimal status ++ codes " " ++ encode_utf8_all reason

abbrev pub status_line : Answer → List ℕ
status_line answer = status_text answer.status answer.reason

-- whether an answer of this status may have content: 204 (No Content) and 304 (Not Modified) have none
abbrev pub may_have_content : ℕ → Bool
may_have_content status = not (status == 204) && not (status == 304)

-- the length of the content, whether it is sent or not, where the answer may have content
abbrev pub length_lines : Answer → List (List ℕ)
length_lines answer =
    if may_have_content answer.status then field (codes "Content-Length") (decimal (length answer.body)) ∷ [] else []

-- Connection, where this answer is the last one
abbrev pub close_lines : Answer → List (List ℕ)
close_lines answer = if answer.close then field (codes "Connection") (codes "close") ∷ [] else []

-- The lines of the head, given the date: the status, the date, the fields of the answer in their order, the length of the
-- content, and what is said of the connection.
abbrev pub head_lines : Answer → List ℕ → List (List ℕ)
head_lines answer date =
    status_line answer
    ∷ field (codes "Date") date
    ∷ (map field_of answer.headers
    ++ (length_lines answer ++ close_lines answer))

-- the content, which the answer to a HEAD has not
abbrev pub content : Answer → List ℕ
content answer = if answer.head_only then [] else if may_have_content answer.status then answer.body else []

-- the head, an empty line, and the content
unfoldable pub answer_text : Answer → List ℕ → List ℕ
answer_text answer date = flat_map line (head_lines answer date) ++ line [] ++ content answer

-- The date is that of the moment, in seconds since 1970, and the last second of the year 9999 for a later one.
pub record IsDateOf (moment : ℕ) (text : List ℕ) : Type 0 where
  pub date : HttpDate
  pub second : unix_secs date ≡ min moment 253402300799
  pub shown : text ≡ date_text date

-- the bytes are those of the answer at the moment
pub record IsAnswerText (answer : Answer) (moment : ℕ) (bytes : List ℕ) : Type 0 where
  pub date : List ℕ
  pub is_date : IsDateOf moment date
  pub written : bytes ≡ answer_text answer date
