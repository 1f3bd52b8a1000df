-- One outcome comes of a page.
use Rattle.std.proofs.Common.{◌≡◌, ◌∙◌, ℕ, zero, suc, List, [], ◌∷◌, ◌++◌, Ok, Err, sym, ap, subst, inl, inr}
use Rattle.std.specs.Prelude.{Option, None, Some, Result}
use Rattle.vb_value.specs.declared.site_file.FaultKind.{FaultKind}
use Rattle.vb_value.specs.declared.site_file.SiteFile.{SiteFile}
use Rattle.page_read.specs.declared.fault.PageFault.{PageFault}
use Rattle.page_read.specs.declared.fragment.Fragment.{Fragment}
use Rattle.page_read.specs.declared.fragment.Fragment.TheVariants.{Directive, Text, Script, Write, Element, Include}
use Rattle.page_read.specs.Including.{file_at, included}
use Rattle.page_read.specs.Expansion.{ComesOf, ComesOfPage, ComesToNothing, FileGives, GoesOn, IncludeGives, Outcome}
use Rattle.page_read.specs.Expansion.{PageGives, PieceGives, PiecesGive, UnlessLate, fault_at, followed, late_line}
use Rattle.page_read.specs.Expansion.{most_nested, site_kind}
use Rattle.page_read.proofs.Pieces.{list_or_fault, one_fault, one_list}

-- at most one outcome comes of each file
abbrev IsOne : (SiteFile → Outcome → Type 0) → Type 0
IsOne Comes = (file : SiteFile) (one other : Outcome) → Comes file one → Comes file other → one ≡ other

-- of an include
include_one : (Comes : SiteFile → Outcome → Type 0) → IsOne Comes → (path : List ℕ) (line : ℕ)
    (found : Result SiteFile FaultKind) (one other : Outcome) → IncludeGives Comes path line found one
    → IncludeGives Comes path line found other → one ≡ other
include_one Comes is path line (Ok file) one other a b = is file one other a b
include_one Comes is path line (Err kind) one other a b = a ∙ sym b

-- of a piece
piece_one : (Comes : SiteFile → Outcome → Type 0) → IsOne Comes → (files : List SiteFile) (left : ℕ)
    (chain : List (List ℕ)) (path : List ℕ) (piece : Fragment) (one other : Outcome)
    → PieceGives Comes files left chain path piece one → PieceGives Comes files left chain path piece other → one ≡ other
piece_one Comes is files left chain path (Include from_root target line) one other a b =
    include_one Comes is path line (included files left chain path from_root target) one other a b
piece_one Comes is files left chain path (Directive session) one other a b = a ∙ sym b
piece_one Comes is files left chain path (Text text line) one other a b = a ∙ sym b
piece_one Comes is files left chain path (Script text line) one other a b = a ∙ sym b
piece_one Comes is files left chain path (Write text line) one other a b = a ∙ sym b
piece_one Comes is files left chain path (Element text line) one other a b = a ∙ sym b

-- behind a piece
goes_one : (Later : Outcome → Type 0) → ((one other : Outcome) → Later one → Later other → one ≡ other)
    → (first one other : Outcome) → GoesOn first Later one → GoesOn first Later other → one ≡ other
goes_one Later is (Ok parts) one other a b = a.2 ∙ ap (followed parts) (is a.0 b.0 a.1 b.1) ∙ sym b.2
goes_one Later is (Err fault) one other a b = a ∙ sym b

-- of pieces
pieces_one : (Gives : Fragment → Outcome → Type 0)
    → ((piece : Fragment) (one other : Outcome) → Gives piece one → Gives piece other → one ≡ other)
    → (pieces : List Fragment) (one other : Outcome) → PiecesGive Gives pieces one → PiecesGive Gives pieces other
    → one ≡ other
pieces_one Gives is [] one other a b = a ∙ sym b
pieces_one Gives is (piece ∷ pieces) one other a b =
    let first : a.0 ≡ b.0 = is piece a.0 b.0 a.1 b.1 in
    goes_one (PiecesGive Gives pieces) (pieces_one Gives is pieces) b.0 one other
    (subst (λ (given : Outcome). GoesOn given (PiecesGive Gives pieces) one) first a.2) b.2

-- of pieces, unless a directive is among them
unless_one : (Gives : Outcome → Type 0) → ((one other : Outcome) → Gives one → Gives other → one ≡ other)
    → (path : List ℕ) (late : Option ℕ) (one other : Outcome) → UnlessLate path late Gives one
    → UnlessLate path late Gives other → one ≡ other
unless_one Gives is path (Some line) one other a b = a ∙ sym b
unless_one Gives is path None one other a b = is one other a b

-- of a file
file_one : (Comes : SiteFile → Outcome → Type 0) → IsOne Comes → (files : List SiteFile) (left : ℕ)
    (around : List (List ℕ)) (file : SiteFile) (one other : Outcome) → FileGives Comes files left around file one
    → FileGives Comes files left around file other → one ≡ other
file_one Comes is files left around file one other (inl a) (inl b) =
    let same = one_fault file.bytes a.kind b.kind a.line b.line a.fault b.fault in
    a.told ∙ ap (λ (kind : PageFault). Err (fault_at file.path a.line (site_kind kind))) same.0
    ∙ ap (λ (line : ℕ). Err (fault_at file.path line (site_kind b.kind))) same.1 ∙ sym b.told
file_one Comes is files left around file one other (inl a) (inr b) =
    absurd (list_or_fault file.bytes b.0 a.kind a.line b.1 a.fault)
file_one Comes is files left around file one other (inr a) (inl b) =
    absurd (list_or_fault file.bytes a.0 b.kind b.line a.1 b.fault)
file_one Comes is files left around file one other (inr a) (inr b) =
    let Gives : Fragment → Outcome → Type 0 = PieceGives Comes files left (around ++ file.path ∷ []) file.path in
    let same : a.0 ≡ b.0 = one_list file.bytes a.0 b.0 a.1 b.1 in
    unless_one (PiecesGive Gives b.0)
    (pieces_one Gives (piece_one Comes is files left (around ++ file.path ∷ []) file.path) b.0) file.path
    (late_line around b.0) one other
    (subst (λ (pieces : List Fragment). UnlessLate file.path (late_line around pieces) (PiecesGive Gives pieces) one)
    same a.2) b.2

-- of a file at any depth
comes_one : (left : ℕ) (files : List SiteFile) (around : List (List ℕ)) → IsOne (ComesOf left files around)
unfolding ComesOf
comes_one zero files around file one other a b =
    file_one ComesToNothing (λ file one other a b. absurd a) files zero around file one other a b
comes_one (suc left) files around file one other a b =
    file_one (ComesOf left files (around ++ file.path ∷ [])) (comes_one left files (around ++ file.path ∷ [])) files
    (suc left) around file one other a b

-- of the page at a path
page_one : (files : List SiteFile) (path : List ℕ) (found : Option SiteFile) (one other : Outcome)
    → PageGives files path found one → PageGives files path found other → one ≡ other
page_one files path (Some file) one other a b = comes_one most_nested files [] file one other a b
page_one files path None one other a b = a ∙ sym b

pub one_of_page : (files : List SiteFile) (path : List ℕ) (one other : Outcome) → ComesOfPage files path one
    → ComesOfPage files path other → one ≡ other
one_of_page files path one other a b = page_one files path (file_at files path) one other a b
