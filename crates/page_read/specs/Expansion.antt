-- What comes of a page when each include in it is replaced by its file (ASP 3.0, "Including Files"): the parts of the
-- page, each with the file that it stands in, or the first fault in the order in which the page is read.
use Rattle.std.specs.Prelude.{◌≡◌, ℕ, zero, suc, ◌⊎◌, List, [], ◌∷◌, ◌++◌, length}
use Rattle.std.specs.Prelude.{Option, None, Some, Result, Ok, Err}
use Rattle.vb_value.specs.Lines.{line_at}
use Rattle.vb_value.specs.declared.site_file.FaultKind.{FaultKind}
use Rattle.vb_value.specs.declared.site_file.FaultKind.TheVariants as kinds
use Rattle.vb_value.specs.declared.site_file.SiteFile.{SiteFile}
use Rattle.vb_value.specs.declared.site_file.SiteFault.{SiteFault}
use Rattle.page_read.specs.declared.fault.PageFault.{PageFault}
use Rattle.page_read.specs.declared.fault.PageFault.TheVariants.{NotUtf8, OpenBlock, LateDirective, BadDirective, ObjectTag}
use Rattle.page_read.specs.declared.fragment.Fragment.{Fragment}
use Rattle.page_read.specs.declared.fragment.Fragment.TheVariants.{Directive, Text, Include}
use Rattle.page_read.specs.declared.located.Located.{Located}
use Rattle.page_read.specs.Fragments.{HasFault, IsFragmentsOf}
use Rattle.page_read.specs.Including.{file_at, included}

-- ---- parts and faults

-- the parts of a page, or the first fault
abbrev pub Outcome : Type 0
Outcome = Result (List Located) SiteFault

-- the fault of this kind, in this line of the file at this path
abbrev pub fault_at : List ℕ → ℕ → FaultKind → SiteFault
fault_at path line kind = record { path = path; line = line; kind = kind }

-- a fault of a file's pieces, as one of the site
abbrev pub site_kind : PageFault → FaultKind
site_kind NotUtf8 = kinds.NotUtf8
site_kind OpenBlock = kinds.OpenBlock
site_kind LateDirective = kinds.LateDirective
site_kind BadDirective = kinds.BadDirective
site_kind ObjectTag = kinds.ObjectTag

-- the piece, as one of the file at this path
abbrev pub placed : List ℕ → Fragment → Located
placed path piece = record { path = path; fragment = piece }

-- these parts and what comes behind them
abbrev pub followed : List Located → Outcome → Outcome
followed parts (Ok more) = Ok (parts ++ more)
followed parts (Err fault) = Err fault

-- ---- the pieces of a file

-- what comes of an include in this line, which names this file, where `Comes` says what comes of the file; or the fault
-- of the include
abbrev pub IncludeGives : (SiteFile → Outcome → Type 0) → List ℕ → ℕ → Result SiteFile FaultKind → Outcome → Type 0
IncludeGives Comes path line (Ok file) outcome = Comes file outcome
IncludeGives Comes path line (Err kind) outcome = outcome ≡ Err (fault_at path line kind)

-- What comes of a piece of the file at this path, at the end of this chain of files of which each includes the next:
-- an include becomes what `Comes` of its file, and any other piece stays.
abbrev pub PieceGives : (SiteFile → Outcome → Type 0) → List SiteFile → ℕ → List (List ℕ) → List ℕ → Fragment → Outcome
    → Type 0
PieceGives Comes files left chain path (Include from_root target line) outcome =
    IncludeGives Comes path line (included files left chain path from_root target) outcome
PieceGives Comes files left chain path piece outcome = outcome ≡ Ok (placed path piece ∷ [])

-- behind what has come of a piece: its fault, or its parts and what comes of the later pieces
abbrev pub GoesOn : Outcome → (Outcome → Type 0) → Outcome → Type 0
GoesOn (Err fault) Later outcome = outcome ≡ Err fault
GoesOn (Ok parts) Later outcome = (rest : Outcome) × Later rest × (outcome ≡ followed parts rest)

-- what comes of pieces, one after the other, where `Gives` says what comes of one
abbrev pub PiecesGive : (Fragment → Outcome → Type 0) → List Fragment → Outcome → Type 0
PiecesGive Gives [] outcome = outcome ≡ Ok []
PiecesGive Gives (piece ∷ pieces) outcome = (first : Outcome) × Gives piece first
    × GoesOn first (PiecesGive Gives pieces) outcome

-- ---- directives in included files

-- the line of the directive, which stands first in a file or behind blank text
abbrev pub directive_line : List Fragment → Option ℕ
directive_line (Directive session ∷ pieces) = Some 1
directive_line (Text text line ∷ Directive session ∷ pieces) = Some (line_at text (length text))
directive_line pieces = None

-- the line of a directive in a file that is included behind the files at these paths; a page's own may have one
abbrev pub late_line : List (List ℕ) → List Fragment → Option ℕ
late_line [] pieces = None
late_line (path ∷ around) pieces = directive_line pieces

-- the fault of a directive in this line, if there is one, or else what comes of the pieces
abbrev pub UnlessLate : List ℕ → Option ℕ → (Outcome → Type 0) → Outcome → Type 0
UnlessLate path (Some line) Gives outcome = outcome ≡ Err (fault_at path line kinds.LateDirective)
UnlessLate path None Gives outcome = Gives outcome

-- ---- files

-- the fault of the bytes of a file
pub record IsOwnFault (file : SiteFile) (outcome : Outcome) : Type 0 where
  pub kind : PageFault
  pub line : ℕ
  pub fault : HasFault file.bytes kind line
  pub told : outcome ≡ Err (fault_at file.path line (site_kind kind))

-- What comes of a file that is included behind the files at the paths `around`, each of which includes the next, where
-- `Comes` says what comes of a file that it includes and `left` more may nest: its own fault, that of a directive, or
-- what comes of its pieces.
abbrev pub FileGives : (SiteFile → Outcome → Type 0) → List SiteFile → ℕ → List (List ℕ) → SiteFile → Outcome → Type 0
FileGives Comes files left around file outcome = IsOwnFault file outcome ⊎ ((pieces : List Fragment)
    × IsFragmentsOf file.bytes pieces × UnlessLate file.path (late_line around pieces)
    (PiecesGive (PieceGives Comes files left (around ++ file.path ∷ []) file.path) pieces) outcome)

-- nothing comes of a file
abbrev pub ComesToNothing : SiteFile → Outcome → Type 0
ComesToNothing file outcome = ⊥

-- what comes of a file that is included behind those at these paths, where so many more may nest in it
unfoldable pub ComesOf : ℕ → List SiteFile → List (List ℕ) → SiteFile → Outcome → Type 0
ComesOf zero files around file outcome = FileGives ComesToNothing files zero around file outcome
ComesOf (suc left) files around file outcome =
    FileGives (ComesOf left files (around ++ file.path ∷ [])) files (suc left) around file outcome

-- ---- pages

-- how many files may include one another, behind the page
abbrev pub most_nested : ℕ
most_nested = 32

-- what comes of the page of this file, or of the path at which there is no file
abbrev pub PageGives : List SiteFile → List ℕ → Option SiteFile → Outcome → Type 0
PageGives files path (Some file) outcome = ComesOf most_nested files [] file outcome
PageGives files path None outcome = outcome ≡ Err (fault_at path 0 kinds.NotFound)

-- what comes of the page at a path
abbrev pub ComesOfPage : List SiteFile → List ℕ → Outcome → Type 0
ComesOfPage files path outcome = PageGives files path (file_at files path) outcome

-- the page at the path has these parts, in which each include is replaced by the parts of its file
abbrev pub Expands : List SiteFile → List ℕ → List Located → Type 0
Expands files path parts = ComesOfPage files path (Ok parts)

-- the first fault of the page at the path is this one
abbrev pub HasExpansionFault : List SiteFile → List ℕ → SiteFault → Type 0
HasExpansionFault files path fault = ComesOfPage files path (Err fault)
