-- This crate's own: what the parser's answer says of the window.
use Rattle.std.specs.Prelude.{ℕ, List, drop, ⊤}
use Rattle.httparse.specs.declared.spans.HeaderSpan.{HeaderSpan}
use Rattle.httparse.specs.Grammar.{NeverHasRequest, HasNoSection, MayBecomeSection, NeverHasSection}
use Rattle.httparse.specs.Spans.{IsRequestWithin, IsRequestOf}
use Rattle.http_front.specs.Front.{BeginsHead}
use Rattle.http_front.specs.declared.opening.Lines.{Lines}
use Rattle.http_front.specs.declared.opening.Lines.TheVariants.{Open as Lines-Open, Ended as Lines-Ended}
use Rattle.http_front.specs.declared.opening.Lines.TheVariants.{Hopeless as Lines-Hopeless}
use Rattle.http_front.specs.declared.opening.Parsed.{Parsed}
use Rattle.http_front.specs.declared.opening.Parsed.TheVariants.{Unfinished, Hopeless, Whole}

-- the window is the beginning of a head, or never begins with one, or begins with the one at the spans
abbrev pub Parses : List ℕ → List HeaderSpan → Parsed → Type 0
Parses window spans Unfinished = BeginsHead window
Parses window spans Hopeless = NeverHasRequest window
Parses window spans (Whole head) = IsRequestWithin window spans head × IsRequestOf window spans head

-- a section is begun behind the mark and not whole, or never can be one there
abbrev pub ReadsLines : List ℕ → ℕ → Lines → Type 0
ReadsLines window mark Lines-Open = MayBecomeSection (drop mark window) × HasNoSection (drop mark window)
ReadsLines window mark Lines-Ended = ⊤
ReadsLines window mark Lines-Hopeless = NeverHasSection (drop mark window)
