-- One page or one fault comes of parts, by the laws of words, of grammar and of names.
use Rattle.std.proofs.Common.{◌≡◌, ◌∙◌, ℕ, inl, inr, Bool, List, [], ◌∷◌, ◌++◌, refl, sym, ap, subst, append_assoc}
use Rattle.std.specs.Prelude.{Option, None, Some, take}
use Rattle.vb_value.specs.declared.site_file.FaultKind.{FaultKind}
use Rattle.vb_value.specs.declared.site_file.SiteFault.{SiteFault}
use Rattle.vb_value.specs.declared.token.Token.{Token}
use Rattle.vb_syntax.specs.grammar.Faults.{IsFault}
use Rattle.vb_syntax.specs.grammar.Units.{Derives}
use Rattle.vb_syntax.specs.scope.Faults.{faults_of}
use Rattle.vb_syntax.specs.scope.Resolving.{Resolves}
use Rattle.vb_syntax.specs.declared.unit.Unit.{Unit as Script}
use Rattle.vb_scope.specs.Answers.{parts_of}
use Rattle.vb_parse.specs.declared.fault.ParseFault.{ParseFault}
use Rattle.page_read.specs.declared.located.Located.{Located}
use Rattle.asp_site.specs.declared.site.Page.{Page}
use Rattle.asp_site.specs.declared.site.LineSpot.{LineSpot}
use Rattle.page_build.specs.declared.joining.PageWords.{PageWords}
use Rattle.page_build.specs.Words.{bad_block, no_words}
use Rattle.page_build.specs.Building.{BeginsScript, FaultsAtFirst, FaultsUnless, HasFaultWithin, HasPageFault}
use Rattle.page_build.specs.Building.{IsGrammarFault, IsNameFault, IsPageOf, IsScriptFault, IsWordsPage, SpellsUnit}
use Rattle.page_build.specs.Building.{kind_of_grammar, kind_of_scope, told_at}
use Rattle.page_build.proofs.OneAnswer.{OneUnit, OneUnitFault, ProgramFaultless, UnitFaultless, one_first}
use Rattle.page_build.proofs.OneWords.{OneTokens, OneWordFault, TokensOrFault, one_of_words, one_words, words_or_fault}

-- ---- a fault of grammar

begins_not : (tokens left : List Token) (fault : IsFault Derives tokens left) → (left ≡ [] → ⊥)
    → BeginsScript tokens → ⊥
unfolding BeginsScript
begins_not tokens [] fault some begins = some refl
begins_not tokens (first ∷ rest) fault some begins =
    let split : tokens ++ begins.0 ≡ (fault.front ++ first ∷ []) ++ (rest ++ begins.0) =
    ap (λ (all : List Token). all ++ begins.0) fault.split ∙ append_assoc fault.front (first ∷ rest) begins.0
    ∙ sym (append_assoc fault.front (first ∷ []) (rest ++ begins.0)) in
    fault.ends (rest ++ begins.0, begins.1, subst (λ (all : List Token). Derives all begins.1) split begins.2)

-- words with a fault at one of them begin no script
within_or_begins_not : (tokens : List Token) (kind : ParseFault) (line : ℕ) → HasFaultWithin tokens kind line
    → BeginsScript tokens → ⊥
within_or_begins_not tokens kind line has begins =
    begins_not tokens has.fault.left has.fault.fault has.within begins

-- words have one first fault
one_at_first : OneUnitFault → (stray : Option ℕ) (tokens : List Token) (kind other : ParseFault) (line number : ℕ)
    → FaultsAtFirst stray tokens kind line → FaultsAtFirst stray tokens other number
    → (kind ≡ other) × (line ≡ number)
one_at_first one None tokens kind other line number a b = one tokens kind other line number a b
one_at_first one (Some at) tokens kind other line number (inl a) (inl b) =
    one (take at tokens) kind other line number a.fault b.fault
one_at_first one (Some at) tokens kind other line number (inl a) (inr b) =
    absurd (within_or_begins_not (take at tokens) kind line a b.begins)
one_at_first one (Some at) tokens kind other line number (inr a) (inl b) =
    absurd (within_or_begins_not (take at tokens) other number b a.begins)
one_at_first one (Some at) tokens kind other line number (inr a) (inr b) =
    (a.unexpected ∙ sym b.unexpected, a.in_line ∙ sym b.in_line)

-- words that spell a script have none
spelled_or_fault : UnitFaultless → (words : PageWords) (unit : Script) (kind : ParseFault) (line : ℕ)
    → SpellsUnit words unit → FaultsAtFirst words.stray words.tokens kind line → ⊥
spelled_or_fault law words unit kind line spells faults = law words.tokens unit kind line spells.spelled
    (subst (λ (stray : Option ℕ). FaultsAtFirst stray words.tokens kind line) spells.none_stray faults)

-- ---- a fault of the script

one_told : (path : List ℕ) (lines : List LineSpot) (kind other : FaultKind) (line number : ℕ) (a b : SiteFault)
    → kind ≡ other → line ≡ number → a ≡ told_at path lines line kind → b ≡ told_at path lines number other → a ≡ b
one_told path lines kind other line number a b kinds_are lines_are is that =
    is ∙ ap (λ (k : FaultKind). told_at path lines line k) kinds_are
    ∙ ap (λ (l : ℕ). told_at path lines l other) lines_are ∙ sym that

one_of_grammar : OneUnitFault → (path : List ℕ) (words : PageWords) (fault other : SiteFault)
    → IsGrammarFault path words fault → IsGrammarFault path words other → fault ≡ other
one_of_grammar law path words fault other a b =
    let same = one_at_first law words.stray words.tokens a.kind b.kind a.line b.line a.faults b.faults in
    one_told path words.lines (kind_of_grammar a.kind) (kind_of_grammar b.kind) a.line b.line fault other
    (ap kind_of_grammar same.0) same.1 a.told b.told

one_of_names : (path : List ℕ) (lines : List LineSpot) (unit that : Script) (fault other : SiteFault) → unit ≡ that
    → IsNameFault path lines unit fault → IsNameFault path lines that other → fault ≡ other
one_of_names path lines unit that fault other is a b =
    let same = one_first (faults_of unit) (faults_of that) a.kind b.kind a.line b.line a.faults.0 b.faults.0
    (ap faults_of is) a.faults.1 b.faults.1 in
    one_told path lines (kind_of_scope a.kind) (kind_of_scope b.kind) a.line b.line fault other
    (ap kind_of_scope same.0) same.1 a.told b.told

one_of_script : OneUnit → OneUnitFault → UnitFaultless → (path : List ℕ) (words : PageWords) (fault other : SiteFault)
    → IsScriptFault path words fault → IsScriptFault path words other → fault ≡ other
one_of_script units law faultless path words fault other (inl a) (inl b) = one_of_grammar law path words fault other a b
one_of_script units law faultless path words fault other (inl a) (inr b) =
    absurd (spelled_or_fault faultless words b.0 a.kind a.line b.1 a.faults)
one_of_script units law faultless path words fault other (inr a) (inl b) =
    absurd (spelled_or_fault faultless words a.0 b.kind b.line a.1 b.faults)
one_of_script units law faultless path words fault other (inr a) (inr b) =
    one_of_names path words.lines a.0 b.0 fault other (units words.tokens a.0 b.0 a.1.spelled b.1.spelled) a.2 b.2

-- ---- parts

one_unless : OneTokens → OneWordFault → TokensOrFault → OneUnit → OneUnitFault → UnitFaultless
    → (found : Option Located) (path : List ℕ) (parts : List Located) (global : Bool) (fault other : SiteFault)
    → FaultsUnless found path parts global fault → FaultsUnless found path parts global other → fault ≡ other
one_unless tokens first words units grammar faultless (Some part) path parts global fault other a b = a ∙ sym b
one_unless tokens first words units grammar faultless None path parts global fault other (inl a) (inl b) =
    one_of_words first words global parts fault other a b
one_unless tokens first words units grammar faultless None path parts global fault other (inl a) (inr b) =
    absurd (words_or_fault words global parts (no_words path) b.0 fault b.1 a)
one_unless tokens first words units grammar faultless None path parts global fault other (inr a) (inl b) =
    absurd (words_or_fault words global parts (no_words path) a.0 other a.1 b)
one_unless tokens first words units grammar faultless None path parts global fault other (inr a) (inr b) =
    one_of_script units grammar faultless path b.0 fault other
    (subst (λ (w : PageWords). IsScriptFault path w fault)
    (one_words tokens global parts (no_words path) a.0 b.0 a.1 b.1) a.2) b.2

-- parts have one fault
pub one_page_fault_lem : OneTokens → OneWordFault → TokensOrFault → OneUnit → OneUnitFault → UnitFaultless
    → (path : List ℕ) (parts : List Located) (global : Bool) (fault other : SiteFault)
    → HasPageFault path parts global fault → HasPageFault path parts global other → fault ≡ other
one_page_fault_lem tokens first words units grammar faultless path parts global fault other a b =
    one_unless tokens first words units grammar faultless (bad_block global parts) path parts global fault other a b

-- words that make a page have no fault of their script
page_or_script_fault : OneUnit → UnitFaultless → ProgramFaultless → (path : List ℕ) (session : Bool)
    (words : PageWords) (page : Page) (fault : SiteFault) → IsWordsPage path session words page
    → IsScriptFault path words fault → ⊥
page_or_script_fault units faultless law path session words page fault made (inl has) =
    spelled_or_fault faultless words made.unit has.kind has.line made.spelled has.faults
page_or_script_fault units faultless law path session words page fault made (inr has) =
    law has.0 (parts_of page.program) has.2.kind has.2.line
    (subst (λ (unit : Script). Resolves unit (parts_of page.program))
    (units words.tokens made.unit has.0 made.spelled.spelled has.1.spelled) made.resolves) has.2.faults

page_or_unless : OneTokens → TokensOrFault → OneUnit → UnitFaultless → ProgramFaultless → (found : Option Located)
    → (path : List ℕ) (parts : List Located) (global : Bool) (page : Page) (fault : SiteFault) → found ≡ None
    → IsPageOf path parts global page → FaultsUnless found path parts global fault → ⊥
page_or_unless tokens words units faultless law (Some part) path parts global page fault none of has = no_part part none
  where
    no_part : (part : Located) → Some part ≡ None → ⊥
    no_part part is = cc
page_or_unless tokens words units faultless law None path parts global page fault none of (inl has) =
    words_or_fault words global parts (no_words path) of.words fault of.joined has
page_or_unless tokens words units faultless law None path parts global page fault none of (inr has) =
    page_or_script_fault units faultless law path _ of.words page fault of.made
    (subst (λ (w : PageWords). IsScriptFault path w fault)
    (one_words tokens global parts (no_words path) has.0 of.words has.1 of.joined) has.2)

-- parts that make a page have no fault
pub page_or_fault_lem : OneTokens → TokensOrFault → OneUnit → UnitFaultless → ProgramFaultless → (path : List ℕ)
    (parts : List Located) (global : Bool) (page : Page) (fault : SiteFault) → IsPageOf path parts global page
    → HasPageFault path parts global fault → ⊥
page_or_fault_lem tokens words units faultless law path parts global page fault of has =
    page_or_unless tokens words units faultless law (bad_block global parts) path parts global page fault of.blocks
    of has
