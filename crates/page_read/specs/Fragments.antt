-- Which pieces belong to which bytes of a page file, and what is wrong with bytes to which none belong.
use Rattle.std.specs.Prelude.{◌≡◌, ◌≢◌, ℕ, ◌-◌, ◌<◌, ◌⊎◌, ◌==◌, if◌then◌else◌, true, false, List, [], ◌∷◌, ◌++◌}
use Rattle.std.specs.Prelude.{length, take, drop, chars, IsUtf8}
use Rattle.std.specs.Prelude.{Ok, Err}
use Rattle.vb_value.specs.Lines.{line_at}
use Rattle.page_read.specs.declared.fault.PageFault.{PageFault}
use Rattle.page_read.specs.declared.fault.PageFault.TheVariants.{NotUtf8}
use Rattle.page_read.specs.declared.fragment.Fragment.{Fragment}
use Rattle.page_read.specs.declared.fragment.Fragment.TheVariants.{Text}
use Rattle.page_read.specs.Forms.{begins_form, opened}

-- ---- one piece

-- what stands before the end of a page's text
abbrev pub text_before : List ℕ → List ℕ → List ℕ
text_before page end = take (length page - length end) page

-- the line in which the end of a page's text begins
abbrev pub line_of : List ℕ → List ℕ → ℕ
line_of page end = line_at page (length page - length end)

-- no form begins at one of the first `count` places of the text
abbrev pub BeginsNoFormWithin : ℕ → List ℕ → Type 0
BeginsNoFormWithin count text = (at : ℕ) → at < count → begins_form (drop at text) ≡ false

-- a form begins here, or nothing is left
abbrev pub EndsPlain : List ℕ → Type 0
EndsPlain text = (text ≡ []) ⊎ (begins_form text ≡ true)

-- the text, the end of that page, begins with this piece of plain text: it isn't empty, no form begins in it, and it
-- goes on up to a form or the end
pub record IsPlain (page text : List ℕ) (found : Fragment) (rest : List ℕ) : Type 0 where
  pub front : List ℕ
  pub is_text : found ≡ Text front (line_of page text)
  pub spelled : text ≡ front ++ rest
  pub filled : front ≢ []
  pub plain : BeginsNoFormWithin (length front) text
  pub ends : EndsPlain rest

-- at the front of the text, the end of that page, a form begins that is this piece, and this follows it
pub record IsForm (page text : List ℕ) (found : Fragment) (rest : List ℕ) : Type 0 where
  pub form : begins_form text ≡ true
  pub piece : opened (text_before page text) (line_of page text) text ≡ Ok (found, rest)

-- the text, the end of that page, begins with the piece, and this follows it: a form is there, or plain text
abbrev pub IsFirst : List ℕ → List ℕ → Fragment → List ℕ → Type 0
IsFirst page text piece rest = IsForm page text piece rest ⊎ IsPlain page text piece rest

-- ---- all pieces

-- the text, the end of that page, is cut into the pieces, and this follows them
abbrev pub AreCut : List ℕ → List ℕ → List Fragment → List ℕ → Type 0
AreCut page text [] end = text ≡ end
AreCut page text (piece ∷ pieces) end = (rest : List ℕ) × IsFirst page text piece rest × AreCut page rest pieces end

-- the text without the byte order mark (U+FEFF) that may stand first in it
abbrev pub unmarked : List ℕ → List ℕ
unmarked [] = []
unmarked (c ∷ text) = if c == 0xFEFF then text else c ∷ text

-- the pieces are those of a file with these bytes: UTF-8 (RFC 3629), of which the text is cut into them
pub record IsFragmentsOf (bytes : List ℕ) (pieces : List Fragment) : Type 0 where
  pub utf8 : IsUtf8 bytes
  pub cut : AreCut (unmarked (chars bytes)) (unmarked (chars bytes)) pieces []

-- ---- what is wrong

-- at the front of the text, the end of that page, a form begins that has this fault
pub record HasFaultHere (page text : List ℕ) (kind : PageFault) : Type 0 where
  pub form : begins_form text ≡ true
  pub fault : opened (text_before page text) (line_of page text) text ≡ Err kind

-- the page's text is cut into pieces up to a place at which a form begins that has this fault, in this line
pub record StopsAt (page : List ℕ) (kind : PageFault) (line : ℕ) : Type 0 where
  pub pieces : List Fragment
  pub end : List ℕ
  pub cut : AreCut page page pieces end
  pub fault : HasFaultHere page end kind
  pub at_line : line ≡ line_of page end

-- the file with these bytes has this fault in this line: it is no UTF-8 as a whole, or the fault stands in its text
abbrev pub HasFault : List ℕ → PageFault → ℕ → Type 0
HasFault bytes kind line = ((kind ≡ NotUtf8) × (line ≡ 0) × ¬ (IsUtf8 bytes))
    ⊎ (IsUtf8 bytes × StopsAt (unmarked (chars bytes)) kind line)
