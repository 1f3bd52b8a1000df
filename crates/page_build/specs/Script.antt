-- The program of a script's text: its words, the unit that they spell, and what that resolves to.
use Rattle.std.specs.Prelude.{ℕ, List, Result, Ok, Err}
use Rattle.vb_value.specs.declared.stop.Stop.{Stop}
use Rattle.vb_value.specs.declared.stop.Stop.TheVariants as stops
use Rattle.vb_value.specs.declared.token.Token.{Token}
use Rattle.vb_lex.specs.Tokens.{FaultsAt, Tokenizes}
use Rattle.vb_lex.specs.declared.fault.LexFault.{LexFault}
use Rattle.vb_syntax.specs.grammar.Units.{Derives}
use Rattle.vb_syntax.specs.scope.Resolving.{IsFirstFault, Resolves}
use Rattle.vb_syntax.specs.scope.Programs.{Parts}
use Rattle.vb_syntax.specs.declared.program.Program.{Program}
use Rattle.vb_syntax.specs.declared.unit.Unit.{Unit as Script}
use Rattle.vb_parse.specs.Outcome.{HasFault as HasGrammarFault}
use Rattle.vb_parse.specs.declared.fault.ParseFault.{ParseFault}
use Rattle.vb_syntax.specs.declared.note.ScopeFault.{ScopeFault}
use Rattle.vb_scope.specs.Answers.{parts_of}
use Rattle.page_build.specs.declared.fault.ScriptFault.{ScriptFault}
use Rattle.page_build.specs.declared.fault.ScriptFault.TheVariants.{Words, Grammar, Scope}

-- The text is a script of this unit.
pub record IsScript (text : List ℕ) (unit : Script) : Type 0 where
  pub tokens : List Token
  pub words : Tokenizes text tokens
  pub spelled : Derives tokens unit

-- The text's program is this one.
pub record IsProgramOf (text : List ℕ) (program : Parts) : Type 0 where
  pub unit : Script
  pub script : IsScript text unit
  pub resolves : Resolves unit program

-- The text's fault is this one, in this line: of its words, else of its grammar, else of its names.
abbrev pub HasFault : List ℕ → ScriptFault → ℕ → Type 0
HasFault text (Words kind) line = FaultsAt text kind line
HasFault text (Grammar kind) line =
    (tokens : List Token) × Tokenizes text tokens × HasGrammarFault tokens kind line
HasFault text (Scope kind) line = (unit : Script) × IsScript text unit × IsFirstFault unit kind line

-- ---- what the call answers

-- the answer, with the parts of its program
abbrev pub answered : Result Program (Stop ScriptFault) → Result Parts (Stop ScriptFault)
answered (Ok program) = Ok (parts_of program)
answered (Err stop) = Err stop

-- ---- why it stops, by the stop of each of its steps

-- the words
abbrev pub of_words : Stop LexFault → Stop ScriptFault
of_words (stops.Fault kind line) = stops.Fault (Words kind) line
of_words stops.Memory = stops.Memory

-- the grammar
abbrev pub of_grammar : Stop ParseFault → Stop ScriptFault
of_grammar (stops.Fault kind line) = stops.Fault (Grammar kind) line
of_grammar stops.Memory = stops.Memory

-- the names
abbrev pub of_scope : Stop ScopeFault → Stop ScriptFault
of_scope (stops.Fault kind line) = stops.Fault (Scope kind) line
of_scope stops.Memory = stops.Memory
