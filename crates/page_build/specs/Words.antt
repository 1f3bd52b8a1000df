-- The words of a page: those of its parts, one after the other, and the line of a file in which each stands.
use Rattle.std.specs.Prelude.{◌≡◌, ℕ, ◌+◌, ◌-◌, ◌⊎◌, Bool, true, false, List, [], ◌∷◌, ◌++◌}
use Rattle.std.specs.Prelude.{length, take, drop, map, find, Option, None, Some}
use Rattle.vb_value.specs.declared.site_file.SiteFault.{SiteFault}
use Rattle.vb_value.specs.declared.site_file.FaultKind.{FaultKind}
use Rattle.vb_value.specs.declared.site_file.FaultKind.TheVariants as kinds
use Rattle.vb_value.specs.declared.token.Token.{Token}
use Rattle.vb_value.specs.declared.token.TokenKind.{TokenKind}
use Rattle.vb_value.specs.declared.token.TokenKind.TheVariants.{LineEnd, PageText, PageWrite}
use Rattle.vb_lex.specs.Tokens.{FaultsAt, Tokenizes}
use Rattle.vb_lex.specs.declared.fault.LexFault.{LexFault}
use Rattle.vb_lex.specs.declared.fault.LexFault.TheVariants as word_kinds
use Rattle.vb_syntax.specs.grammar.Faults.{last_line}
use Rattle.page_read.specs.Expansion.{fault_at}
use Rattle.page_read.specs.declared.fragment.Fragment.{Fragment}
use Rattle.page_read.specs.declared.fragment.Fragment.TheVariants.{Directive, Text, Script, Write, Element, Include}
use Rattle.page_read.specs.declared.located.Located.{Located}
use Rattle.asp_site.specs.Spots.{spot, spots}
use Rattle.asp_site.specs.declared.site.LineSpot.{LineSpot}
use Rattle.page_build.specs.declared.joining.PageWords.{PageWords}
use Rattle.page_build.specs.Declaring.{stray_in}

-- ---- the words of one part, whose lines are counted from 1

-- the line of its file in which a part begins
abbrev pub first_line : Fragment → ℕ
first_line (Directive session) = 1
first_line (Text text line) = line
first_line (Script text line) = line
first_line (Write text line) = line
first_line (Element text line) = line
first_line (Include from_root target line) = line

-- a word that no character of a script spells
abbrev pub silent : TokenKind → Token
silent kind = record { kind = kind; line = 1; start = 0; end = 0 }

-- the words of plain text
abbrev pub text_words : List ℕ → List Token
text_words text = silent LineEnd ∷ silent (PageText text) ∷ silent LineEnd ∷ []

-- the words of a value that is written: the first, which is the edge of its text, is followed by the mark
abbrev pub written : List Token → List Token
written tokens = take 1 tokens ++ silent PageWrite ∷ drop 1 tokens

-- the words of plain text, which `/global.asa` passes over
abbrev pub plain_words : Bool → List ℕ → List Token
plain_words true text = []
plain_words false text = text_words text

-- The part of a page, or of `/global.asa`, has these words.
abbrev pub AreWordsOf : Bool → Fragment → List Token → Type 0
AreWordsOf global (Directive session) words = words ≡ []
AreWordsOf global (Text text line) words = words ≡ plain_words global text
AreWordsOf global (Script text line) words = Tokenizes text words
AreWordsOf global (Write text line) words = (tokens : List Token) × Tokenizes text tokens × (words ≡ written tokens)
AreWordsOf global (Element text line) words = Tokenizes text words
AreWordsOf global (Include from_root target line) words = words ≡ []

-- the place of the first word of a part that may not stand in it
abbrev pub stray_of : Fragment → List Token → Option ℕ
stray_of (Element text line) words = stray_in words
stray_of piece words = None

-- ---- lines

-- the lines of a part: one for each line of its words
abbrev pub part_lines : Located → List Token → List LineSpot
part_lines part words = spots part.path (first_line part.fragment) (last_line 0 words)

-- the word, whose lines count from another place on
abbrev pub shifted_word : ℕ → Token → Token
shifted_word base word = record { kind = word.kind; line = base + word.line; start = word.start; end = word.end }

abbrev pub shifted : ℕ → List Token → List Token
shifted base words = map (shifted_word base) words

-- ---- all parts

-- where the first stray word stands: before so many words, or at a place behind them
abbrev pub earliest : Option ℕ → ℕ → Option ℕ → Option ℕ
earliest (Some at) count found = Some at
earliest None count (Some at) = Some (count + at)
earliest None count None = None

-- the words of the parts before, and then those of this part
abbrev pub with_part : PageWords → Located → List Token → PageWords
with_part before part words = record {
  tokens = before.tokens ++ shifted (length before.lines - 1) words;
  stray = earliest before.stray (length before.tokens) (stray_of part.fragment words);
  lines = before.lines ++ part_lines part words;
}

-- behind these words the parts have all of those
abbrev pub AreWordsBehind : Bool → PageWords → List Located → PageWords → Type 0
AreWordsBehind global before [] all = all ≡ before
AreWordsBehind global before (part ∷ parts) all = (words : List Token) × AreWordsOf global part.fragment words
    × AreWordsBehind global (with_part before part words) parts all

-- before the first part: the place 0 of the lines is none, for what stands in no line
abbrev pub no_words : List ℕ → PageWords
no_words path = record { tokens = []; stray = None; lines = spot path 0 ∷ [] }

-- the page at the path, which has these parts, has these words
abbrev pub ArePageWords : List ℕ → List Located → Bool → PageWords → Type 0
ArePageWords path parts global words = AreWordsBehind global (no_words path) parts words

-- ---- what is wrong with words

-- the part is a block of script or a value that is written
abbrev pub is_block : Fragment → Bool
is_block (Script text line) = true
is_block (Write text line) = true
is_block piece = false

-- the first block
abbrev pub first_block : List Located → Option Located
first_block parts = find (λ (part : Located). is_block part.fragment) parts

-- the first block, where it may not stand: in `/global.asa`
abbrev pub bad_block : Bool → List Located → Option Located
bad_block true parts = first_block parts
bad_block false parts = None

-- a fault of words, as one of the site
abbrev pub kind_of_word : LexFault → FaultKind
kind_of_word word_kinds.OpenString = kinds.OpenString
kind_of_word word_kinds.OpenBracket = kinds.OpenBracket
kind_of_word word_kinds.LongName = kinds.LongName
kind_of_word word_kinds.BadNumber = kinds.BadNumber
kind_of_word word_kinds.DateLiteral = kinds.DateLiteral
kind_of_word word_kinds.BadOperator = kinds.BadOperator
kind_of_word word_kinds.BadCharacter = kinds.BadCharacter

-- a word of the script that begins in this line of the file at the path has this fault
pub record IsWordFault (path : List ℕ) (first : ℕ) (text : List ℕ) (fault : SiteFault) : Type 0 where
  pub kind : LexFault
  pub line : ℕ
  pub faults : FaultsAt text kind line
  pub told : fault ≡ fault_at path (first + line - 1) (kind_of_word kind)

-- a word of the part, which stands in the file at the path, has this fault
abbrev pub FaultsIn : List ℕ → Fragment → SiteFault → Type 0
FaultsIn path (Script text first) fault = IsWordFault path first text fault
FaultsIn path (Write text first) fault = IsWordFault path first text fault
FaultsIn path (Element text first) fault = IsWordFault path first text fault
FaultsIn path piece fault = ⊥

-- the fault is one of words, in the first part that has one
abbrev pub HasWordFault : Bool → List Located → SiteFault → Type 0
HasWordFault global [] fault = ⊥
HasWordFault global (part ∷ parts) fault = FaultsIn part.path part.fragment fault
    ⊎ (((words : List Token) × AreWordsOf global part.fragment words) × HasWordFault global parts fault)
