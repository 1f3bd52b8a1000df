-- This crate's own: what its readers give, with slices as the texts that they show, and what a stop below becomes.
use Rattle.std.specs.Prelude.{◌≡◌, ◌⊎◌, ℕ, zero, suc, ◌<◌, ◌^◌, ◌∷◌, Bool, List, length, Option, Some, None, Result, Ok, Err}
use Rattle.std.specs.Borrow.{Bor}
use Rattle.std.specs.Option.{option_map}
use Rattle.vb_value.specs.declared.stop.Stop.{Stop}
use Rattle.vb_value.specs.declared.stop.Stop.TheVariants.{Fault, Memory}
use Rattle.page_read.specs.declared.attribute.Attribute.{Attribute}
use Rattle.page_read.specs.declared.fault.PageFault.{PageFault}
use Rattle.page_read.specs.declared.fragment.Fragment.{Fragment}
use Rattle.page_read.specs.declared.fragment.Fragment.TheVariants.{Text}
use Rattle.page_read.specs.declared.included.Nest.{Nest}
use Rattle.page_read.specs.Fragments.{HasFaultHere, IsFirst, IsFragmentsOf, line_of}
use Rattle.vb_value.specs.declared.site_file.FaultKind.{FaultKind}
use Rattle.vb_value.specs.declared.site_file.FaultKind.TheVariants as kinds
use Rattle.vb_value.specs.declared.site_file.SiteFault.{SiteFault}
use Rattle.vb_value.specs.declared.site_file.SiteFile.{SiteFile}
use Rattle.page_read.specs.declared.located.Located.{Located}
use Rattle.page_read.specs.declared.located.SiteStop.{SiteStop}
use Rattle.page_read.specs.declared.located.SiteStop.TheVariants as stops
use Rattle.page_read.specs.Expansion.{ComesOf, ComesToNothing, IsOwnFault, Outcome, PieceGives, fault_at, late_line}

-- the texts that a pair of slices shows
abbrev pub shown_pair : Option (Bor (List ℕ) × Bor (List ℕ)) → Option (List ℕ × List ℕ)
shown_pair found = option_map (λ pair. (pair.0.now, pair.1.now)) found

-- a value beside the text that a slice shows
abbrev pub shown_beside : {T : Type 0} → Option (T × Bor (List ℕ)) → Option (T × List ℕ)
shown_beside found = option_map (λ pair. (pair.0, pair.1.now)) found

-- the include with the texts that its slices show
abbrev pub shown_include : Option (Bool × Bor (List ℕ) × Bor (List ℕ)) → Option (Bool × List ℕ × List ℕ)
shown_include found = option_map (λ (one : Bool × Bor (List ℕ) × Bor (List ℕ)). (one.0, one.1.now, one.2.now)) found

-- the reader gives the piece that the definition has, or stops at its fault, in this line
abbrev pub Reads : Result Fragment (Stop PageFault) → ℕ → Result Fragment PageFault → Type 0
Reads (Ok piece) line answer = answer ≡ Ok piece
Reads (Err (Fault fault at)) line answer = (answer ≡ Err fault) × (at ≡ line)
Reads (Err Memory) line answer = Unit {0}

-- the same, with what follows the piece
abbrev pub ReadsOn : Result (Fragment × Bor (List ℕ)) (Stop PageFault) → ℕ → Result (Fragment × List ℕ) PageFault
    → Type 0
ReadsOn (Ok found) line answer = answer ≡ Ok (found.0, found.1.now)
ReadsOn (Err (Fault fault at)) line answer = (answer ≡ Err fault) × (at ≡ line)
ReadsOn (Err Memory) line answer = Unit {0}

-- the attribute with the texts that its slices show, and what follows it
abbrev pub shown_attribute : Option (Bor (List ℕ) × Bor (List ℕ) × Bor (List ℕ)) → Option (Attribute × List ℕ)
shown_attribute found =
    option_map (λ (one : Bor (List ℕ) × Bor (List ℕ) × Bor (List ℕ)).
    (record { name = one.0.now; value = one.1.now }, one.2.now)) found

-- the stop at this fault in this line
abbrev pub stopped : PageFault → ℕ → Stop PageFault
stopped kind line = Fault kind line

-- the reader gives the first piece of the text, the end of that page, or stops at the fault that stands there
abbrev pub ReadsFirst : Result (Fragment × Bor (List ℕ)) (Stop PageFault) → List ℕ → List ℕ → Type 0
ReadsFirst (Ok found) page text = IsFirst page text found.0 found.1.now
ReadsFirst (Err (Fault kind at)) page text = HasFaultHere page text kind × (at ≡ line_of page text)
ReadsFirst (Err Memory) page text = Unit {0}

-- ---- includes

-- a file of fewer than 2^31 bytes
abbrev pub IsShort : SiteFile → Type 0
IsShort file = length file.bytes < 2 ^ 31

-- the fact holds of the parts or of the fault that the call answers
abbrev pub Shows : Result (List Located) SiteStop → (Outcome → Type 0) → Type 0
Shows (Ok parts) fact = fact (Ok parts)
Shows (Err (stops.Fault fault)) fact = fact (Err fault)
Shows (Err stops.Memory) fact = Unit {0}

-- the fact holds of the fault that the call answers
abbrev pub OnSiteFault : {T : Type 0} → Result T SiteStop → (SiteFault → Type 0) → Type 0
OnSiteFault (Ok given) fact = Unit {0}
OnSiteFault (Err (stops.Fault fault)) fact = fact fault
OnSiteFault (Err stops.Memory) fact = Unit {0}

-- what comes of a file behind this chain, where `left` may nest in the file that includes it
abbrev pub ComesNext : ℕ → List SiteFile → List (List ℕ) → SiteFile → Outcome → Type 0
ComesNext zero files chain file outcome = ComesToNothing file outcome
ComesNext (suc left) files chain file outcome = ComesOf left files chain file outcome

-- the file that an include names, or what is wrong with the include, in this line
abbrev pub Names : Result (Bor SiteFile) (Stop FaultKind) → ℕ → Result SiteFile FaultKind → Type 0
Names (Ok file) line answer = answer ≡ Ok file.now
Names (Err (Fault kind at)) line answer = (answer ≡ Err kind) × (at ≡ line)
Names (Err Memory) line answer = Unit {0}

-- what comes of a piece of the file that is read
abbrev pub GivesNext : Nest → Fragment → Outcome → Type 0
GivesNext nest piece outcome =
    PieceGives (ComesNext nest.left nest.files.now nest.chain.now) nest.files.now nest.left nest.chain.now nest.path.now
    piece outcome

-- the stop is at this fault, or memory ran out
abbrev pub StopsAtFault : SiteFault → SiteStop → Type 0
StopsAtFault fault (stops.Fault told) = told ≡ fault
StopsAtFault fault stops.Memory = Unit {0}

-- the text that stands first in a file has fewer than 2^31 characters
abbrev pub StartsShort : List Fragment → Type 0
StartsShort (Text text line ∷ pieces) = length text < 2 ^ 31
StartsShort pieces = Unit {0}

-- an included file has a directive, which is this fault
pub record IsLate (around : List (List ℕ)) (file : SiteFile) (fault : SiteFault) : Type 0 where
  pub pieces : List Fragment
  pub of : IsFragmentsOf file.bytes pieces
  pub line : ℕ
  pub late : late_line around pieces ≡ Some line
  pub told : fault ≡ fault_at file.path line kinds.LateDirective

-- the pieces of a file that is included behind those at these paths, or the fault that stands before any include
abbrev pub GivesPieces : Result (List Fragment) SiteStop → List (List ℕ) → SiteFile → Type 0
GivesPieces (Ok pieces) around file = IsFragmentsOf file.bytes pieces × (late_line around pieces ≡ None)
GivesPieces (Err (stops.Fault fault)) around file = IsOwnFault file (Err fault) ⊎ IsLate around file fault
GivesPieces (Err stops.Memory) around file = Unit {0}
