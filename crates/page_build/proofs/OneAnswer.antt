-- A text has one program or one fault, by the laws of its words, its grammar and its names.
use Rattle.std.proofs.Common.{◌≡◌, ◌∙◌, ℕ, List, [], ◌∷◌, Option, Some, None, sym, ap, subst}
use Rattle.vb_value.specs.declared.token.Token.{Token}
use Rattle.vb_lex.specs.Tokens.{Tokenizes}
use Rattle.vb_syntax.specs.grammar.Units.{Derives}
use Rattle.vb_syntax.specs.scope.Resolving.{IsFirstFault, Resolves}
use Rattle.vb_syntax.specs.scope.Faults.{Faults, faults_of}
use Rattle.vb_syntax.specs.scope.Programs.{Parts}
use Rattle.vb_syntax.specs.declared.note.ScopeFault.{ScopeFault}
use Rattle.vb_syntax.specs.declared.unit.Unit.{Unit as Script}
use Rattle.vb_parse.specs.Outcome.{HasFault as HasGrammarFault}
use Rattle.vb_parse.specs.declared.fault.ParseFault.{ParseFault}
use Rattle.page_build.specs.declared.fault.ScriptFault.{ScriptFault}
use Rattle.page_build.specs.declared.fault.ScriptFault.TheVariants.{Words, Grammar, Scope}
use Rattle.page_build.specs.Script.{HasFault, IsProgramOf, IsScript}
use Rattle.page_build.proofs.OneWords.{OneTokens, OneWordFault, TokensOrFault}

-- ---- the laws of the steps

abbrev pub OneUnit : Type 0
OneUnit = (tokens : List Token) (one other : Script) → Derives tokens one → Derives tokens other → one ≡ other

abbrev pub OneUnitFault : Type 0
OneUnitFault = (tokens : List Token) (kind other : ParseFault) (line number : ℕ) → HasGrammarFault tokens kind line
    → HasGrammarFault tokens other number → (kind ≡ other) × (line ≡ number)

abbrev pub UnitFaultless : Type 0
UnitFaultless = (tokens : List Token) (unit : Script) (kind : ParseFault) (line : ℕ) → Derives tokens unit
    → HasGrammarFault tokens kind line → ⊥

abbrev pub OneProgram : Type 0
OneProgram = (script : Script) (one other : Parts) → Resolves script one → Resolves script other → one ≡ other

abbrev pub ProgramFaultless : Type 0
ProgramFaultless = (script : Script) (program : Parts) (fault : ScopeFault) (line : ℕ) → Resolves script program
    → IsFirstFault script fault line → ⊥

-- ---- the laws of the whole

-- a text is a script of one unit
pub one_script : OneTokens → OneUnit → (text : List ℕ) (one other : Script) → IsScript text one → IsScript text other
    → one ≡ other
one_script tokens units text one other a b = units b.tokens one other
    (subst (λ (t : List Token). Derives t one) (tokens text a.tokens b.tokens a.words b.words) a.spelled) b.spelled

pub one_program_lem : OneTokens → OneUnit → OneProgram → (text : List ℕ) (one other : Parts) → IsProgramOf text one
    → IsProgramOf text other → one ≡ other
one_program_lem tokens units programs text one other a b = programs b.unit one other
    (subst (λ (u : Script). Resolves u one) (one_script tokens units text a.unit b.unit a.script b.script) a.resolves)
    b.resolves

-- a script has no fault of its grammar
pub no_grammar_fault : OneTokens → UnitFaultless → (text : List ℕ) (unit : Script) (tokens : List Token)
    (kind : ParseFault) (line : ℕ) → IsScript text unit → Tokenizes text tokens → HasGrammarFault tokens kind line → ⊥
no_grammar_fault same faultless text unit tokens kind line script words fault = faultless tokens unit kind line
    (subst (λ (t : List Token). Derives t unit) (same text script.tokens tokens script.words words) script.spelled)
    fault

pub program_or_fault_lem : OneTokens → TokensOrFault → OneUnit → UnitFaultless → ProgramFaultless
    → (text : List ℕ) (program : Parts) (kind : ScriptFault) (line : ℕ) → IsProgramOf text program
    → HasFault text kind line → ⊥
program_or_fault_lem tokens words units grammar scope text program (Words kind) line of fault =
    words text of.script.tokens kind line of.script.words fault
program_or_fault_lem tokens words units grammar scope text program (Grammar kind) line of fault =
    no_grammar_fault tokens grammar text of.unit fault.0 kind line of.script fault.1 fault.2
program_or_fault_lem tokens words units grammar scope text program (Scope kind) line of fault =
    scope fault.0 program kind line (subst (λ (u : Script). Resolves u program)
    (one_script tokens units text of.unit fault.0 of.script fault.1) of.resolves) fault.2

-- the first fault of a list, where it has one
abbrev first_of_all : Faults → Option (ScopeFault × ℕ)
first_of_all [] = None
first_of_all (fault ∷ later) = Some fault

-- a list has one first fault
pub one_first : (faults others : Faults) (kind other : ScopeFault) (line number : ℕ) (later more : Faults)
    → faults ≡ others → faults ≡ (kind, line) ∷ later → others ≡ (other, number) ∷ more
    → (kind ≡ other) × (line ≡ number)
one_first faults others kind other line number later more same first one =
    let heads : Some (kind, line) ≡ Some (other, number) = ap first_of_all (sym first ∙ same ∙ one) in
    let pairs : (kind, line) ≡ (other, number) = cc in
    (ap (λ (p : ScopeFault × ℕ). p.0) pairs, ap (λ (p : ScopeFault × ℕ). p.1) pairs)

pub one_fault_lem : OneTokens → OneWordFault → TokensOrFault → OneUnit → OneUnitFault → UnitFaultless
    → (text : List ℕ) (kind other : ScriptFault) (line number : ℕ) → HasFault text kind line
    → HasFault text other number → (kind ≡ other) × (line ≡ number)
one_fault_lem tokens first words units grammar faultless text (Words kind) (Words other) line number a b =
    let same = first text kind other line number a b in (ap Words same.0, same.1)
one_fault_lem tokens first words units grammar faultless text (Words kind) (Grammar other) line number a b =
    absurd (words text b.0 kind line b.1 a)
one_fault_lem tokens first words units grammar faultless text (Words kind) (Scope other) line number a b =
    absurd (words text b.1.tokens kind line b.1.words a)
one_fault_lem tokens first words units grammar faultless text (Grammar kind) (Words other) line number a b =
    absurd (words text a.0 other number a.1 b)
one_fault_lem tokens first words units grammar faultless text (Grammar kind) (Grammar other) line number a b =
    let same = grammar b.0 kind other line number (subst (λ (t : List Token). HasGrammarFault t kind line)
    (tokens text a.0 b.0 a.1 b.1) a.2) b.2 in (ap Grammar same.0, same.1)
one_fault_lem tokens first words units grammar faultless text (Grammar kind) (Scope other) line number a b =
    absurd (no_grammar_fault tokens faultless text b.0 a.0 kind line b.1 a.1 a.2)
one_fault_lem tokens first words units grammar faultless text (Scope kind) (Words other) line number a b =
    absurd (words text a.1.tokens other number a.1.words b)
one_fault_lem tokens first words units grammar faultless text (Scope kind) (Grammar other) line number a b =
    absurd (no_grammar_fault tokens faultless text a.0 b.0 other number a.1 b.1 b.2)
one_fault_lem tokens first words units grammar faultless text (Scope kind) (Scope other) line number a b =
    let same = one_first (faults_of a.0) (faults_of b.0) kind other line number a.2.0 b.2.0
    (ap faults_of (one_script tokens units text a.0 b.0 a.1 b.1)) a.2.1 b.2.1 in (ap Scope same.0, same.1)
