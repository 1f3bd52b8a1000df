-- Heads that cannot be split: each of their lines is printable ASCII (RFC 9110, section 5.5; RFC 9112, section 2.2).
use Rattle.std.specs.Prelude.{◌≡◌, ℕ, ◌<◌, ◌≤◌, List, [], ◌++◌, length, Option, IfSome}
use Rattle.std.specs.List.{All, flat_map}
use Rattle.asp_job.specs.declared.answer.Answer.{Answer}
use Rattle.asp_job.specs.declared.request.Header.{Header}
use Rattle.asp_response.specs.AnswerText.{line}

-- a printable character of ASCII, or a space: no CR, no LF, and nothing beyond `~`
pub record IsGraphic (character : ℕ) : Type 0 where
  pub least : 32 ≤ character
  pub most : character ≤ 126

-- a text of such characters alone
pub record IsPrintable (text : List ℕ) : Type 0 where
  pub each : All IsGraphic text

-- a field whose name and value are printable
pub record IsSoundHeader (header : Header) : Type 0 where
  pub name : IsPrintable header.name
  pub value : IsPrintable header.value

-- an answer whose reason and fields are printable
pub record IsSound (answer : Answer) : Type 0 where
  pub reason : IsPrintable answer.reason
  pub headers : All IsSoundHeader answer.headers

-- a line of a head: it is printable, and not the empty line
pub record IsHeadLine (text : List ℕ) : Type 0 where
  pub some : 0 < length text
  pub printable : IsPrintable text

-- The bytes are lines of a head, each ended by CR LF, then the empty line, and what follows it.
pub record HasWholeLines (bytes : List ℕ) : Type 0 where
  pub lines : List (List ℕ)
  pub content : List ℕ
  pub whole : All IsHeadLine lines
  pub are : bytes ≡ flat_map line lines ++ line [] ++ content

-- the letters of a session's key, where there are any, are printable
abbrev pub ArePrintable : Option (List ℕ) → Type 0
ArePrintable text = IfSome text IsPrintable
