-- Answers whose text is fixed: our own. Each is a plain text, the reason of its status or another one.
use Rattle.std.specs.Prelude.{ℕ, Bool, if◌then◌else◌, List, [], ◌∷◌, ◌++◌, codes, encode_utf8_all}
use Rattle.asp_job.specs.declared.answer.Answer.{Answer}
use Rattle.asp_job.specs.declared.request.Header.{Header}
use Rattle.asp_response.specs.declared.fixed.Unavailable.{Unavailable}
use Rattle.asp_response.specs.declared.fixed.Unavailable.TheVariants.{TooManySessions, OutOfMemory, JournalFull}
use Rattle.asp_response.specs.Finish.{header, reason_of}

abbrev pub plain_header : Header
plain_header = header (codes "Content-Type") (codes "text/plain")

-- a plain text and a line feed, under a status with its own reason
abbrev pub plain_answer : ℕ → List Header → List ℕ → Bool → Bool → Answer
plain_answer status headers text head_only close = record {
  status = status;
  reason = reason_of status;
  headers = headers;
  body = encode_utf8_all text ++ codes "\n";
  head_only = head_only;
  close = close;
}

-- the reason of a status
abbrev pub status_answer_of : ℕ → Bool → Bool → Answer
status_answer_of status = plain_answer status (plain_header ∷ []) (reason_of status)

-- the methods that pages and other files take (RFC 9110, section 10.2.1)
abbrev pub allowed : Bool → List ℕ
allowed page = if page then codes "GET, HEAD, POST" else codes "GET, HEAD"

abbrev pub not_allowed_headers : Bool → List Header
not_allowed_headers page = plain_header ∷ header (codes "Allow") (allowed page) ∷ []

abbrev pub not_allowed_of : Bool → Bool → Bool → Answer
not_allowed_of page = plain_answer 405 (not_allowed_headers page) (reason_of 405)

-- why no page could answer
abbrev pub why : Unavailable → List ℕ
why TooManySessions = codes "Too many sessions"
why OutOfMemory = codes "Out of memory"
why JournalFull = codes "Journal full"

abbrev pub unavailable_of : Unavailable → Bool → Bool → Answer
unavailable_of cause = plain_answer 503 (plain_header ∷ []) (why cause)
