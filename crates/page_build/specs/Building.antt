-- The page that parts make, or what is wrong with them.
use Rattle.std.specs.Prelude.{◌≡◌, ◌≢◌, ℕ, ◌⊎◌, Bool, true, List, [], ◌∷◌, take, Option, None, Some, slice_get}
use Rattle.vb_value.specs.declared.site_file.FaultKind.{FaultKind}
use Rattle.vb_value.specs.declared.site_file.FaultKind.TheVariants as kinds
use Rattle.vb_value.specs.declared.site_file.SiteFault.{SiteFault}
use Rattle.vb_value.specs.declared.token.Token.{Token}
use Rattle.vb_value.specs.declared.token.TokenKind.TheVariants.{LineEnd}
use Rattle.vb_syntax.specs.grammar.Faults.{GoesOn}
use Rattle.vb_syntax.specs.grammar.Units.{Derives}
use Rattle.vb_syntax.specs.declared.note.ScopeFault.{ScopeFault}
use Rattle.vb_syntax.specs.declared.note.ScopeFault.TheVariants as scope_kinds
use Rattle.vb_syntax.specs.declared.unit.Unit.{Unit as Script}
use Rattle.vb_syntax.specs.scope.Resolving.{IsFirstFault, Resolves}
use Rattle.vb_parse.specs.Outcome.{HasFault as HasGrammarFault}
use Rattle.vb_parse.specs.declared.fault.ParseFault.{ParseFault}
use Rattle.vb_parse.specs.declared.fault.ParseFault.TheVariants as grammar_kinds
use Rattle.vb_scope.specs.Answers.{parts_of}
use Rattle.page_read.specs.Expansion.{fault_at}
use Rattle.page_read.specs.declared.fragment.Fragment.{Fragment}
use Rattle.page_read.specs.declared.fragment.Fragment.TheVariants.{Directive}
use Rattle.page_read.specs.declared.located.Located.{Located}
use Rattle.asp_site.specs.Spots.{spot}
use Rattle.asp_site.specs.declared.site.LineSpot.{LineSpot}
use Rattle.asp_site.specs.declared.site.Page.{Page}
use Rattle.page_build.specs.declared.joining.PageWords.{PageWords}
use Rattle.page_build.specs.Words.{ArePageWords, HasWordFault, bad_block, first_line}

-- ---- the script of a page

-- The words spell this unit, and none is stray.
pub record SpellsUnit (words : PageWords) (unit : Script) : Type 0 where
  pub none_stray : words.stray ≡ None
  pub spelled : Derives words.tokens unit

-- a line end in a line, which no character spells
abbrev pub line_end : ℕ → Token
line_end line = record { kind = LineEnd; line = line; start = 0; end = 0 }

-- the fault is at one of the words, and not at their end
pub record HasFaultWithin (tokens : List Token) (kind : ParseFault) (line : ℕ) : Type 0 where
  pub fault : HasGrammarFault tokens kind line
  pub within : fault.left ≢ []

-- the words are the beginning of a script
unfoldable pub BeginsScript : List Token → Type 0
BeginsScript tokens = GoesOn Derives tokens

-- the line of a word, or 0 where none stands
abbrev pub word_line : Option Token → ℕ
word_line None = 0
word_line (Some token) = token.line

-- the words before the one at this place begin a script, and that word is stray
pub record IsAtStray (at : ℕ) (tokens : List Token) (kind : ParseFault) (line : ℕ) : Type 0 where
  pub begins : BeginsScript (take at tokens)
  pub unexpected : kind ≡ grammar_kinds.Unexpected
  pub in_line : line ≡ word_line (slice_get tokens at)

-- The first word with which no script goes on or that is stray is a fault of this kind, in this line of the script.
abbrev pub FaultsAtFirst : Option ℕ → List Token → ParseFault → ℕ → Type 0
FaultsAtFirst None tokens kind line = HasGrammarFault tokens kind line
FaultsAtFirst (Some at) tokens kind line = HasFaultWithin (take at tokens) kind line ⊎ IsAtStray at tokens kind line

-- ---- faults in the lines of files

-- a fault of the grammar, as one of the site
abbrev pub kind_of_grammar : ParseFault → FaultKind
kind_of_grammar grammar_kinds.TooDeep = kinds.TooDeep
kind_of_grammar grammar_kinds.CallParens = kinds.CallParens
kind_of_grammar grammar_kinds.TextHere = kinds.TextHere
kind_of_grammar grammar_kinds.Unexpected = kinds.Unexpected

-- a fault of names, as one of the site
abbrev pub kind_of_scope : ScopeFault → FaultKind
kind_of_scope scope_kinds.Redefined = kinds.Redefined
kind_of_scope scope_kinds.BadExit = kinds.BadExit
kind_of_scope scope_kinds.ConstTarget = kinds.ConstTarget
kind_of_scope scope_kinds.BadMember = kinds.BadMember
kind_of_scope scope_kinds.TooMany = kinds.TooMany

-- the line of a file, or none of the page's own
abbrev pub spot_or : List ℕ → Option LineSpot → LineSpot
spot_or path None = spot path 0
spot_or path (Some found) = found

-- the fault at a line of a file
abbrev pub fault_on : LineSpot → FaultKind → SiteFault
fault_on found kind = fault_at found.path found.line kind

-- the fault in a line of the script of the page at the path, told in the line of the file
abbrev pub told_at : List ℕ → List LineSpot → ℕ → FaultKind → SiteFault
told_at path lines line kind = fault_on (spot_or path (slice_get lines line)) kind

-- the script of these words has this fault
pub record IsGrammarFault (path : List ℕ) (words : PageWords) (fault : SiteFault) : Type 0 where
  pub kind : ParseFault
  pub line : ℕ
  pub faults : FaultsAtFirst words.stray words.tokens kind line
  pub told : fault ≡ told_at path words.lines line (kind_of_grammar kind)

-- the script, whose lines are places in these lines of files, has this fault of names
pub record IsNameFault (path : List ℕ) (lines : List LineSpot) (unit : Script) (fault : SiteFault) : Type 0 where
  pub kind : ScopeFault
  pub line : ℕ
  pub faults : IsFirstFault unit kind line
  pub told : fault ≡ told_at path lines line (kind_of_scope kind)

-- the script of these words has no fault of grammar, and this one of names
abbrev pub IsScopeFault : List ℕ → PageWords → SiteFault → Type 0
IsScopeFault path words fault = (unit : Script) × SpellsUnit words unit × IsNameFault path words.lines unit fault

abbrev pub IsScriptFault : List ℕ → PageWords → SiteFault → Type 0
IsScriptFault path words fault = IsGrammarFault path words fault ⊎ IsScopeFault path words fault

-- ---- pages

-- whether the page has sessions: its directive says so, which stands first
abbrev pub session_or : Fragment → Bool → Bool
session_or (Directive session) later = session
session_or piece later = later

abbrev pub session_of : List Located → Bool
session_of [] = true
session_of (part ∷ parts) = session_or part.fragment (session_of parts)

-- The words of the page at the path, which has sessions or has none, make this page.
pub record IsWordsPage (path : List ℕ) (session : Bool) (words : PageWords) (page : Page) : Type 0 where
  pub unit : Script
  pub spelled : SpellsUnit words unit
  pub resolves : Resolves unit (parts_of page.program)
  pub path_is : page.path ≡ path
  pub session_is : page.session ≡ session
  pub lines_are : page.lines ≡ words.lines

-- The parts of the page at the path, or of `/global.asa`, make this page.
pub record IsPageOf (path : List ℕ) (parts : List Located) (global : Bool) (page : Page) : Type 0 where
  pub blocks : bad_block global parts ≡ None
  pub words : PageWords
  pub joined : ArePageWords path parts global words
  pub made : IsWordsPage path (session_of parts) words page

-- the script that the parts make has this fault
abbrev pub HasScriptFault : List ℕ → List Located → Bool → SiteFault → Type 0
HasScriptFault path parts global fault =
    (words : PageWords) × ArePageWords path parts global words × IsScriptFault path words fault

-- a block in `/global.asa` is a fault before any other, and one of words before one of the script
abbrev pub FaultsUnless : Option Located → List ℕ → List Located → Bool → SiteFault → Type 0
FaultsUnless (Some part) path parts global fault =
    fault ≡ fault_at part.path (first_line part.fragment) kinds.BadGlobal
FaultsUnless None path parts global fault = HasWordFault global parts fault ⊎ HasScriptFault path parts global fault

-- The parts of the page at the path, or of `/global.asa`, have this fault.
abbrev pub HasPageFault : List ℕ → List Located → Bool → SiteFault → Type 0
HasPageFault path parts global fault = FaultsUnless (bad_block global parts) path parts global fault
