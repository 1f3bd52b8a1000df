-- What comes of a file and of its pieces, one after the other.
use Rattle.std.proofs.Common.{◌≡◌, ℕ, zero, suc, ◌≤◌, ◌<◌, ◌^◌, Bool, true, false, List, [], ◌∷◌, ◌++◌, Result, Ok, Err}
use Rattle.std.proofs.Common.{length, refl, sym, ap, subst, arith, append_assoc, append-nil, ◌⊎◌, inl, inr}
use Rattle.std.specs.Prelude.{Option, None, ◌==◌, cond}
use Rattle.std.specs.Str.{chars}
use Rattle.std.proofs.lemmas.List.{length-append}
use Rattle.std.proofs.lemmas.Str.{encodes-chars, length-le-encodes}
use Rattle.vb_value.specs.declared.site_file.SiteFault.{SiteFault}
use Rattle.vb_value.specs.declared.site_file.SiteFile.{SiteFile}
use Rattle.page_read.specs.declared.fault.PageFault.{PageFault}
use Rattle.page_read.specs.declared.fragment.Fragment.{Fragment}
use Rattle.page_read.specs.declared.fragment.Fragment.TheVariants.{Text}
use Rattle.page_read.specs.declared.located.Located.{Located}
use Rattle.page_read.specs.declared.located.SiteStop.{SiteStop}
use Rattle.page_read.specs.declared.located.SiteStop.TheVariants as stops
use Rattle.page_read.specs.Fragments.{HasFault, IsFragmentsOf, unmarked}
use Rattle.page_read.specs.Expansion.{ComesOf, IsOwnFault, Outcome, PieceGives, PiecesGive, UnlessLate, fault_at}
use Rattle.page_read.specs.Expansion.{followed, late_line, site_kind}
use Rattle.page_read.specs.Reading.{ComesNext, GivesPieces, IsLate, Shows, StartsShort, StopsAtFault}
use Rattle.page_read.proofs.SpelledForms.{pieces_spelled}

-- ---- the text that stands first

-- a text without its mark is no longer
unmarked_short : (text : List ℕ) → length (unmarked text) ≤ length text
unmarked_short [] = omega arith
unmarked_short (c ∷ text) =
    let both : (b : Bool) → length (cond b text (c ∷ text)) ≤ suc (length text) =
    elim [ true ↦ omega arith | false ↦ omega arith ] in
    both (c == 0xFEFF)

-- a spelling that stands first in a text is no longer
first_short : (front rest text : List ℕ) → text ≡ front ++ rest → length front ≤ length text
first_short front rest text is = omega (arith, ap length is, length-append front rest)

-- the text that stands first is no longer than the file
pub starts_short : (bytes : List ℕ) (pieces : List Fragment) → IsFragmentsOf bytes pieces → length bytes < 2 ^ 31
    → StartsShort pieces
starts_short bytes (Text text line ∷ pieces) of short =
    let spelled = pieces_spelled bytes (Text text line ∷ pieces) of in
    let within = first_short spelled.0 spelled.1 (unmarked (chars bytes)) spelled.2 in
    let same = ap length spelled.3 in
    let whole = ap length (encodes-chars bytes of.utf8) in
    omega (arith, within, same, whole, unmarked_short (chars bytes), length-le-encodes (chars bytes), short)
starts_short bytes pieces of short = tt

-- ---- pieces, one after the other

-- pieces give these parts as far as they are read: what comes of those that are left comes behind the parts
abbrev pub GivesSoFar : (Fragment → Outcome → Type 0) → List Fragment → List Fragment → List Located → Type 0
GivesSoFar Gives pieces left parts = (outcome : Outcome) → PiecesGive Gives left outcome
    → PiecesGive Gives pieces (followed parts outcome)

-- before the first piece
pub none_so_far : (Gives : Fragment → Outcome → Type 0) (pieces left : List Fragment) (parts : List Located)
    → left ≡ pieces → parts ≡ [] → GivesSoFar Gives pieces left parts
none_so_far Gives pieces left parts is none outcome gives =
    let same : (given : Outcome) → given ≡ followed [] given = elim [ Ok given ↦ refl | Err fault ↦ refl ] in
    subst (λ (so_far : List Located). PiecesGive Gives pieces (followed so_far outcome)) (sym none)
    (subst (PiecesGive Gives pieces) (same outcome) (subst (λ (all : List Fragment). PiecesGive Gives all outcome) is gives))

-- parts behind parts
followed_append : (parts more : List Located) (outcome : Outcome)
    → followed parts (followed more outcome) ≡ followed (parts ++ more) outcome
followed_append parts more (Ok rest) = ap Ok (sym (append_assoc parts more rest))
followed_append parts more (Err fault) = refl

-- one piece more
pub more_so_far : (Gives : Fragment → Outcome → Type 0) (pieces left later : List Fragment) (piece : Fragment)
    (parts more now : List Located) → left ≡ piece ∷ later → now ≡ parts ++ more → GivesSoFar Gives pieces left parts
    → Gives piece (Ok more) → GivesSoFar Gives pieces later now
more_so_far Gives pieces left later piece parts more now is now_is so_far gives outcome rest =
    let behind : PiecesGive Gives (piece ∷ later) (followed more outcome) = (Ok more, gives, (outcome, rest, refl)) in
    let whole = so_far (followed more outcome)
    (subst (λ (all : List Fragment). PiecesGive Gives all (followed more outcome)) (sym is) behind) in
    subst (λ (all : List Located). PiecesGive Gives pieces (followed all outcome)) (sym now_is)
    (subst (PiecesGive Gives pieces) (followed_append parts more outcome) whole)

-- a piece at which a call stops
pub stops_so_far : (Gives : Fragment → Outcome → Type 0) (pieces left later : List Fragment) (piece : Fragment)
    (parts : List Located) (stop : SiteStop) → left ≡ piece ∷ later → GivesSoFar Gives pieces left parts
    → Shows (Err stop) (Gives piece) → Shows (Err stop) (PiecesGive Gives pieces)
stops_so_far Gives pieces left later piece parts (stops.Fault fault) is so_far gives =
    let here : PiecesGive Gives (piece ∷ later) (Err fault) = (Err fault, gives, refl) in
    so_far (Err fault) (subst (λ (all : List Fragment). PiecesGive Gives all (Err fault)) (sym is) here)
stops_so_far Gives pieces left later piece parts stops.Memory is so_far gives = tt

-- no piece is left
pub all_so_far : (Gives : Fragment → Outcome → Type 0) (pieces left : List Fragment) (parts : List Located)
    → left ≡ [] → GivesSoFar Gives pieces left parts → PiecesGive Gives pieces (Ok parts)
all_so_far Gives pieces left parts none so_far =
    subst (λ (all : List Located). PiecesGive Gives pieces (Ok all)) (append-nil parts)
    (so_far (Ok []) (subst (λ (all : List Fragment). PiecesGive Gives all (Ok [])) (sym none) refl))

-- a list without length
pub no_items : (items : List Fragment) → length items ≡ 0 → items ≡ []
no_items [] none = refl
no_items (piece ∷ items) none = absurd (omega arith)

-- ---- files

-- what comes of a file's pieces comes of the file
file_gives : (left : ℕ) (files : List SiteFile) (around : List (List ℕ)) (file : SiteFile) (pieces : List Fragment)
    (outcome : Outcome) → IsFragmentsOf file.bytes pieces → late_line around pieces ≡ None
    → PiecesGive (PieceGives (ComesNext left files (around ++ file.path ∷ [])) files left (around ++ file.path ∷ [])
    file.path) pieces outcome
    → ComesOf left files around file outcome
unfolding ComesOf
file_gives zero files around file pieces outcome of none gives = inr (
  pieces,
  of,
  subst (λ (found : Option ℕ).
      UnlessLate file.path found (PiecesGive
      (PieceGives (ComesNext zero files (around ++ file.path ∷ [])) files zero (around ++ file.path ∷ []) file.path)
      pieces) outcome) (sym none) gives,
)
file_gives (suc left) files around file pieces outcome of none gives = inr (
  pieces,
  of,
  subst (λ (found : Option ℕ).
      UnlessLate file.path found (PiecesGive
      (PieceGives (ComesNext (suc left) files (around ++ file.path ∷ [])) files (suc left)
      (around ++ file.path ∷ []) file.path) pieces) outcome) (sym none) gives,
)

-- what stands in the way of a file's pieces is the fault of the file
file_stops : (left : ℕ) (files : List SiteFile) (around : List (List ℕ)) (file : SiteFile) (fault : SiteFault)
    → IsOwnFault file (Err fault) ⊎ IsLate around file fault → ComesOf left files around file (Err fault)
unfolding ComesOf
file_stops zero files around file fault (inl own) = inl own
file_stops zero files around file fault (inr late) = inr (
  late.pieces,
  late.of,
  subst (λ (found : Option ℕ).
      UnlessLate file.path found (PiecesGive
      (PieceGives (ComesNext zero files (around ++ file.path ∷ [])) files zero (around ++ file.path ∷ []) file.path)
      late.pieces) (Err fault)) (sym late.late) (ap Err late.told),
)
file_stops (suc left) files around file fault (inl own) = inl own
file_stops (suc left) files around file fault (inr late) = inr (
  late.pieces,
  late.of,
  subst (λ (found : Option ℕ).
      UnlessLate file.path found (PiecesGive
      (PieceGives (ComesNext (suc left) files (around ++ file.path ∷ [])) files (suc left)
      (around ++ file.path ∷ []) file.path) late.pieces) (Err fault)) (sym late.late) (ap Err late.told),
)

-- what a call answers of the pieces it answers of the file
pub file_shows : (left : ℕ) (files : List SiteFile) (around chain : List (List ℕ)) (file : SiteFile)
    (pieces : List Fragment) (result : Result (List Located) SiteStop)
    → IsFragmentsOf file.bytes pieces × (late_line around pieces ≡ None) → chain ≡ around ++ file.path ∷ []
    → Shows result (PiecesGive (PieceGives (ComesNext left files chain) files left chain file.path) pieces)
    → Shows result (ComesOf left files around file)
file_shows left files around chain file pieces (Ok parts) of is gives = file_gives left files around file pieces (Ok parts)
    of.0 of.1 (subst (λ (c : List (List ℕ)). PiecesGive (PieceGives (ComesNext left files c) files left c file.path)
    pieces (Ok parts)) is gives)
file_shows left files around chain file pieces (Err (stops.Fault fault)) of is gives =
    file_gives left files around file pieces (Err fault)
    of.0 of.1 (subst (λ (c : List (List ℕ)). PiecesGive (PieceGives (ComesNext left files c) files left c file.path)
    pieces (Err fault)) is gives)
file_shows left files around chain file pieces (Err stops.Memory) of is gives = tt

-- what a call answers in place of the pieces it answers of the file
pub file_stopped : (left : ℕ) (files : List SiteFile) (around : List (List ℕ)) (file : SiteFile) (stop : SiteStop)
    → GivesPieces (Err stop) around file → Shows (Err stop) (ComesOf left files around file)
file_stopped left files around file (stops.Fault fault) stops = file_stops left files around file fault stops
file_stopped left files around file stops.Memory stops = tt

-- the fault of the bytes of a file
pub own_fault : (file : SiteFile) (around : List (List ℕ)) (stop : SiteStop) (kind : PageFault) (line : ℕ)
    → HasFault file.bytes kind line → StopsAtFault (fault_at file.path line (site_kind kind)) stop
    → GivesPieces (Err stop) around file
own_fault file around (stops.Fault fault) kind line has told =
    inl (record { kind = kind; line = line; fault = has; told = ap Err told })
own_fault file around stops.Memory kind line has told = tt
