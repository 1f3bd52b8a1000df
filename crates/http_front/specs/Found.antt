-- This crate's own: what is found at the front of a connection's bytes.
use Rattle.std.specs.Prelude.{◌≡◌, ℕ, ◌<◌, ◌≤◌, List, ◌++◌, length, drop, slice_range, Some, None}
use Rattle.httparse.specs.declared.spans.HeaderSpan.{HeaderSpan}
use Rattle.httparse.specs.declared.spans.RequestSpans.{RequestSpans}
use Rattle.httparse.specs.Grammar.{RequestHead}
use Rattle.httparse.specs.Spans.{IsRequestWithin, IsRequestAt}
use Rattle.asp_job.specs.declared.request.Request as request
use Rattle.http_front.specs.Front as front
use Rattle.http_front.specs.Front.{IsFront, window}
use Rattle.http_front.specs.Mark.{IsMarked}
use Rattle.http_front.specs.Request.{IsRequestFor}
use Rattle.http_front.specs.Status.{status_of, body_size, closes}
use Rattle.http_front.specs.Target.{path_of}
use Rattle.http_front.specs.declared.found.Accepted.{Accepted}
use Rattle.http_front.specs.declared.found.Judged.{Judged}
use Rattle.http_front.specs.declared.found.Judged.TheVariants.{Taken, Refused as Judged-Refused}
use Rattle.http_front.specs.declared.found.Found.{Found}
use Rattle.http_front.specs.declared.found.Found.TheVariants.{More, Refused, Request}

-- whatever follows, more bytes are wanted while there are fewer than need
abbrev pub Waits : List ℕ → ℕ → Type 0
Waits bytes need = (more : List ℕ) → length (bytes ++ more) < need → IsFront (bytes ++ more) front.More

-- the head was judged: no status refuses it, or this one does
abbrev pub IsJudged : RequestHead → Judged → Type 0
IsJudged h (Taken path close size) =
    (status_of h ≡ None) × (path_of h.target ≡ Some path) × (close ≡ closes h) × (size ≡ body_size h)
IsJudged h (Judged-Refused status) = status_of h ≡ Some status

-- the head at the spans was judged so
abbrev pub IsJudgedAt : List ℕ → List HeaderSpan → RequestSpans → Judged → Type 0
IsJudgedAt buf spans head judged = (h : RequestHead) → IsRequestAt buf spans head h → IsJudged h judged

-- the accepted head is h, and its request ends at end
pub record IsAccepted (bytes : List ℕ) (spans : List HeaderSpan) (a : Accepted) (h : RequestHead) : Type 0 where
  pub within : IsRequestWithin (window bytes) spans a.head
  pub ordered : a.head.len ≤ a.end
  pub fits : a.end ≤ length bytes
  pub at : IsRequestAt (window bytes) spans a.head h
  pub path : path_of h.target ≡ Some a.path
  pub close : a.close ≡ closes h
  pub gives : IsFront bytes (front.Request h (slice_range bytes a.head.len a.end) (drop a.end bytes))

-- a request stands at the front
abbrev pub HasRequest : List ℕ → List HeaderSpan → Accepted → Type 0
HasRequest bytes spans a = (h : RequestHead) × IsAccepted bytes spans a h

-- what was found is what the bytes give first
abbrev pub Finds : List ℕ → List HeaderSpan → Found → Type 0
Finds bytes spans (More need mark) = IsFront bytes front.More × Waits bytes need × IsMarked bytes mark
Finds bytes spans (Refused status) = IsFront bytes (front.Refused status)
Finds bytes spans (Request accepted) = HasRequest bytes spans accepted

-- the bytes give this request first, and it ends at end
abbrev pub IsFirstRequest : List ℕ → ℕ → request.Request → Type 0
IsFirstRequest bytes end r =
    (h : RequestHead) × (body : List ℕ) × IsRequestFor h body r × IsFront bytes (front.Request h body (drop end bytes))
