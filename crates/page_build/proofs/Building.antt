-- What the steps to a program answer, said of the text.
use Rattle.std.proofs.Common.{◌≡◌, ◌∙◌, ℕ, List, [], Result, Ok, Err, refl, sym, ap, subst}
use Rattle.vb_value.specs.declared.stop.Stop.{Stop}
use Rattle.vb_value.specs.declared.stop.Stop.TheVariants as stops
use Rattle.vb_value.specs.declared.token.Token.{Token}
use Rattle.vb_value.specs.Outcome.{Answers}
use Rattle.vb_lex.specs.Tokens.{Tokenizes}
use Rattle.vb_lex.specs.declared.fault.LexFault.{LexFault}
use Rattle.vb_parse.specs.declared.fault.ParseFault.{ParseFault}
use Rattle.vb_syntax.specs.declared.note.ScopeFault.{ScopeFault}
use Rattle.vb_scope.specs.Answers.{answered as answered_scope}
use Rattle.vb_syntax.specs.scope.Resolving.{Resolves}
use Rattle.vb_syntax.specs.scope.Programs.{Parts}
use Rattle.vb_syntax.specs.grammar.Units.{Derives}
use Rattle.vb_syntax.specs.declared.program.Program.{Program}
use Rattle.vb_syntax.specs.declared.unit.Unit.{Unit as Script}
use Rattle.page_build.specs.declared.fault.ScriptFault.{ScriptFault}
use Rattle.page_build.specs.Script.{IsProgramOf, answered, of_words, of_grammar, of_scope}

-- ---- a text that has a program

abbrev tokens_in : Result (List Token) (Stop LexFault) → List Token
tokens_in (Ok tokens) = tokens
tokens_in (Err stop) = []

words_no_memory : (kind : LexFault) (line : ℕ) → stops.Fault kind line ≡ stops.Memory → ⊥
words_no_memory kind line is = cc

no_tokens : (tokens : List Token) (stop : Stop LexFault)
    → ◌≡◌ {A = Result (List Token) (Stop LexFault)} (Ok tokens) (Err stop) → ⊥
no_tokens tokens stop is = cc

-- its words have no fault
pub words_memory : (text : List ℕ) (program : Parts) (stop : Stop LexFault)
    → ((tokens : List Token) → Tokenizes text tokens → Answers (Err stop) stops.Memory (Ok tokens))
    → IsProgramOf text program → of_words stop ≡ stops.Memory
words_memory text program (stops.Fault kind line) only of = absurd (no_tokens of.script.tokens (stops.Fault kind line)
    (only of.script.tokens of.script.words (λ is. words_no_memory kind line is)))
words_memory text program stops.Memory only of = refl

-- its tokens spell its unit
pub spelled_too : (text : List ℕ) (program : Parts) (given tokens : List Token)
    → ((others : List Token) → Tokenizes text others
    → Answers {E = Stop LexFault} (Ok given) stops.Memory (Ok others))
    → tokens ≡ given → (of : IsProgramOf text program) → Derives tokens of.unit
spelled_too text program given tokens only is of = subst (λ (t : List Token). Derives t of.unit)
    (ap tokens_in (only of.script.tokens of.script.words) ∙ sym is) of.script.spelled

abbrev unit_in : Script → Result Script (Stop ParseFault) → Script
unit_in none (Ok unit) = unit
unit_in none (Err stop) = none

grammar_no_memory : (kind : ParseFault) (line : ℕ) → stops.Fault kind line ≡ stops.Memory → ⊥
grammar_no_memory kind line is = cc

no_unit : (unit : Script) (stop : Stop ParseFault) → ◌≡◌ {A = Result Script (Stop ParseFault)} (Ok unit) (Err stop) → ⊥
no_unit unit stop is = cc

-- its grammar has no fault
pub grammar_memory : (tokens : List Token) (unit : Script) (stop : Stop ParseFault)
    → ((other : Script) → Derives tokens other → Answers (Err stop) stops.Memory (Ok other)) → Derives tokens unit
    → of_grammar stop ≡ stops.Memory
grammar_memory tokens unit (stops.Fault kind line) only spelled = absurd (no_unit unit (stops.Fault kind line)
    (only unit spelled (λ is. grammar_no_memory kind line is)))
grammar_memory tokens unit stops.Memory only spelled = refl

-- the unit that is found resolves to its program
pub resolves_too : (program : Parts) (tokens : List Token) (found unit : Script)
    → ((other : Script) → Derives tokens other
    → Answers {E = Stop ParseFault} (Ok found) stops.Memory (Ok other)) → Derives tokens unit
    → Resolves unit program → Resolves found program
resolves_too program tokens found unit only spelled resolves =
    subst (λ (u : Script). Resolves u program) (ap (unit_in unit) (only unit spelled)) resolves

scope_no_memory : (kind : ScopeFault) (line : ℕ) → ◌≡◌ {A = Stop ScopeFault} (stops.Fault kind line) stops.Memory → ⊥
scope_no_memory kind line is = cc

no_program : (program : Parts) (stop : Stop ScopeFault)
    → ◌≡◌ {A = Result Parts (Stop ScopeFault)} (Ok program) (Err stop) → ⊥
no_program program stop is = cc

-- its names have no fault
pub scope_memory : (program : Parts) (unit : Script) (stop : Stop ScopeFault)
    → ((other : Parts) → Resolves unit other → Answers {E = Stop ScopeFault} (answered_scope (Err stop)) stops.Memory (Ok other))
    → Resolves unit program → of_scope stop ≡ stops.Memory
scope_memory program unit (stops.Fault kind line) only resolves =
    absurd (no_program program (stops.Fault kind line) (only program resolves (λ is. scope_no_memory kind line is)))
scope_memory program unit stops.Memory only resolves = refl

-- the program that is found is the one of the text
abbrev program_in : Parts → Result Parts (Stop ScopeFault) → Parts
program_in none (Ok program) = program
program_in none (Err stop) = none

-- a program, as an answer
abbrev given : Parts → Result Parts (Stop ScriptFault)
given program = Ok program

pub same_program : (found : Program) (program : Parts)
    → Answers {E = Stop ScopeFault} (answered_scope (Ok found)) stops.Memory (Ok program)
    → Answers {E = Stop ScriptFault} (answered (Ok found)) stops.Memory (Ok program)
same_program found program only = ap given (ap (program_in program) only)
