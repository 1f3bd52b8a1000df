-- The parts of a page have one list of words or one fault, by the laws of the words of a text.
use Rattle.std.proofs.Common.{◌≡◌, ◌∙◌, ℕ, ◌+◌, ◌-◌, inl, inr, Bool, List, [], ◌∷◌, sym, ap, subst}
use Rattle.vb_value.specs.declared.site_file.SiteFault.{SiteFault}
use Rattle.vb_value.specs.declared.token.Token.{Token}
use Rattle.vb_lex.specs.Tokens.{FaultsAt, Tokenizes}
use Rattle.vb_lex.specs.declared.fault.LexFault.{LexFault}
use Rattle.page_read.specs.Expansion.{fault_at}
use Rattle.page_read.specs.declared.fragment.Fragment.{Fragment}
use Rattle.page_read.specs.declared.fragment.Fragment.TheVariants.{Directive, Text, Script, Write, Element, Include}
use Rattle.page_read.specs.declared.located.Located.{Located}
use Rattle.page_build.specs.declared.joining.PageWords.{PageWords}
use Rattle.page_build.specs.Words.{AreWordsBehind, AreWordsOf, FaultsIn, HasWordFault, IsWordFault, kind_of_word}
use Rattle.page_build.specs.Words.{with_part, written}

-- ---- the laws of the words of a text

abbrev pub OneTokens : Type 0
OneTokens = (text : List ℕ) (tokens others : List Token) → Tokenizes text tokens → Tokenizes text others
    → tokens ≡ others

abbrev pub OneWordFault : Type 0
OneWordFault = (text : List ℕ) (fault other : LexFault) (line number : ℕ) → FaultsAt text fault line
    → FaultsAt text other number → (fault ≡ other) × (line ≡ number)

abbrev pub TokensOrFault : Type 0
TokensOrFault = (text : List ℕ) (tokens : List Token) (fault : LexFault) (line : ℕ) → Tokenizes text tokens
    → FaultsAt text fault line → ⊥

-- ---- one list of words

one_of_part : OneTokens → (global : Bool) (piece : Fragment) (one other : List Token) → AreWordsOf global piece one
    → AreWordsOf global piece other → one ≡ other
one_of_part same global (Directive session) one other a b = a ∙ sym b
one_of_part same global (Text text line) one other a b = a ∙ sym b
one_of_part same global (Script text line) one other a b = same text one other a b
one_of_part same global (Write text line) one other a b = a.2 ∙ ap written (same text a.0 b.0 a.1 b.1) ∙ sym b.2
one_of_part same global (Element text line) one other a b = same text one other a b
one_of_part same global (Include from_root target line) one other a b = a ∙ sym b

-- parts have one list of words
pub one_words : OneTokens → (global : Bool) (parts : List Located) (before one other : PageWords)
    → AreWordsBehind global before parts one → AreWordsBehind global before parts other → one ≡ other
one_words same global [] before one other a b = a ∙ sym b
one_words same global (part ∷ parts) before one other a b =
    one_words same global parts (with_part before part b.0) one other
    (subst (λ (words : List Token). AreWordsBehind global (with_part before part words) parts one)
    (one_of_part same global part.fragment a.0 b.0 a.1 b.1) a.2) b.2

-- ---- no words and a fault

part_or_fault : TokensOrFault → (global : Bool) (path : List ℕ) (piece : Fragment) (words : List Token)
    (fault : SiteFault) → AreWordsOf global piece words → FaultsIn path piece fault → ⊥
part_or_fault law global path (Directive session) words fault a has = has
part_or_fault law global path (Text text line) words fault a has = has
part_or_fault law global path (Script text line) words fault a has = law text words has.kind has.line a has.faults
part_or_fault law global path (Write text line) words fault a has = law text a.0 has.kind has.line a.1 has.faults
part_or_fault law global path (Element text line) words fault a has = law text words has.kind has.line a has.faults
part_or_fault law global path (Include from_root target line) words fault a has = has

-- parts that have words have no fault of words
pub words_or_fault : TokensOrFault → (global : Bool) (parts : List Located) (before all : PageWords)
    (fault : SiteFault) → AreWordsBehind global before parts all → HasWordFault global parts fault → ⊥
words_or_fault law global [] before all fault a has = has
words_or_fault law global (part ∷ parts) before all fault a (inl has) =
    part_or_fault law global part.path part.fragment a.0 fault a.1 has
words_or_fault law global (part ∷ parts) before all fault a (inr later) =
    words_or_fault law global parts (with_part before part a.0) all fault a.2 later.1

-- ---- one fault

one_of_script : OneWordFault → (path : List ℕ) (first : ℕ) (text : List ℕ) (fault other : SiteFault)
    → IsWordFault path first text fault → IsWordFault path first text other → fault ≡ other
one_of_script law path first text fault other a b =
    let same = law text a.kind b.kind a.line b.line a.faults b.faults in
    a.told ∙ ap (λ (line : ℕ). fault_at path (first + line - 1) (kind_of_word a.kind)) same.1
    ∙ ap (λ (kind : LexFault). fault_at path (first + b.line - 1) (kind_of_word kind)) same.0 ∙ sym b.told

one_in_part : OneWordFault → (path : List ℕ) (piece : Fragment) (fault other : SiteFault) → FaultsIn path piece fault
    → FaultsIn path piece other → fault ≡ other
one_in_part law path (Directive session) fault other a b = absurd a
one_in_part law path (Text text line) fault other a b = absurd a
one_in_part law path (Script text line) fault other a b = one_of_script law path line text fault other a b
one_in_part law path (Write text line) fault other a b = one_of_script law path line text fault other a b
one_in_part law path (Element text line) fault other a b = one_of_script law path line text fault other a b
one_in_part law path (Include from_root target line) fault other a b = absurd a

-- parts have one fault of words
pub one_of_words : OneWordFault → TokensOrFault → (global : Bool) (parts : List Located) (fault other : SiteFault)
    → HasWordFault global parts fault → HasWordFault global parts other → fault ≡ other
one_of_words law words global [] fault other a b = absurd a
one_of_words law words global (part ∷ parts) fault other (inl a) (inl b) =
    one_in_part law part.path part.fragment fault other a b
one_of_words law words global (part ∷ parts) fault other (inl a) (inr b) =
    absurd (part_or_fault words global part.path part.fragment b.0.0 fault b.0.1 a)
one_of_words law words global (part ∷ parts) fault other (inr a) (inl b) =
    absurd (part_or_fault words global part.path part.fragment a.0.0 other a.0.1 b)
one_of_words law words global (part ∷ parts) fault other (inr a) (inr b) =
    one_of_words law words global parts fault other a.1 b.1
