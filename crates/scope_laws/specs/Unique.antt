-- What is unique in a scope, and what is not written, said of the declarations and of the names themselves.
use Rattle.std.specs.Prelude.{ℕ, Bool, true, false, ◌&&◌, if◌then◌else◌, List, [], ◌∷◌, ◌++◌, Option, Some, None}
use Rattle.std.specs.List.{flat_map}
use Rattle.vb_syntax.specs.declared.note.Note.{Note}
use Rattle.vb_syntax.specs.declared.note.NoteKind.{NoteKind}
use Rattle.vb_syntax.specs.declared.note.NoteKind.TheVariants as say
use Rattle.vb_syntax.specs.declared.note.ScopeFault.{ScopeFault}
use Rattle.vb_syntax.specs.declared.note.ScopeFault.TheVariants as fault
use Rattle.vb_syntax.specs.declared.unit.PropertyKind.{PropertyKind}
use Rattle.vb_syntax.specs.declared.unit.PropertyKind.TheVariants as property
use Rattle.vb_syntax.specs.scope.Faults.{Faults, is_constant}
use Rattle.vb_syntax.specs.scope.Names.{Name}
use Rattle.vb_syntax.specs.scope.Notes.{Notes}
use Rattle.vb_syntax.specs.scope.Scopes.{Scopes, named_in}
use Rattle.vb_value.specs.Folding.{same_name}

-- ---- faults by their kind

-- the lines of the faults of a kind
abbrev pub lines_where : (ScopeFault → Bool) → Faults → List ℕ
lines_where test [] = []
lines_where test (found ∷ more) = (if test found.0 then found.1 ∷ [] else []) ++ lines_where test more

-- a name that is declared again
abbrev pub is_redefined : ScopeFault → Bool
is_redefined fault.Redefined = true
is_redefined _ = false

-- a constant that is written
abbrev pub is_const_target : ScopeFault → Bool
is_const_target fault.ConstTarget = true
is_const_target _ = false

-- ---- declarations that clash

-- a declared name, and which accessor of a property it is
abbrev pub Declaration : Type 0
Declaration = Name × Option PropertyKind

-- what one place declares
abbrev pub said : NoteKind → List Declaration
said (say.Variable found) = (found.name, None) ∷ []
said (say.Constant found) = (found.name, None) ∷ []
said (say.Procedure name) = (name, None) ∷ []
said (say.Class name) = (name, None) ∷ []
said (say.Member name accessor) = (name, accessor) ∷ []
said (say.Result name) = (name, None) ∷ []
said _ = []

-- whether two declarations of one name clash: the accessors of one property stand together, each once
abbrev pub kinds_clash : Option PropertyKind → Option PropertyKind → Bool
kinds_clash (Some property.Get) (Some property.Let) = false
kinds_clash (Some property.Get) (Some property.Set) = false
kinds_clash (Some property.Let) (Some property.Get) = false
kinds_clash (Some property.Let) (Some property.Set) = false
kinds_clash (Some property.Set) (Some property.Get) = false
kinds_clash (Some property.Set) (Some property.Let) = false
kinds_clash _ _ = true

-- whether two declarations clash
abbrev pub clash : Declaration → Declaration → Bool
clash one other = same_name one.0 other.0 && kinds_clash one.1 other.1

-- whether a declaration clashes with one of some
abbrev pub clashes : List Declaration → Declaration → Bool
clashes [] one = false
clashes (other ∷ others) one = if clash one other then true else clashes others one

-- the line, where what a place declares clashes with something before it
abbrev pub clash_line : List Declaration → ℕ → List Declaration → List ℕ
clash_line before line [] = []
clash_line before line (one ∷ more) = if clashes before one then line ∷ [] else []

-- a place that is this fault by itself
abbrev pub told_line : (ScopeFault → Bool) → ℕ → NoteKind → List ℕ
told_line test line (say.Fault found) = if test found then line ∷ [] else []
told_line test line _ = []

-- the lines of the declarations that clash with an earlier one
abbrev pub later_clashes : List Declaration → Notes → List ℕ
later_clashes before [] = []
later_clashes before (note ∷ notes) = told_line is_redefined note.line note.kind
    ++ clash_line before note.line (said note.kind) ++ later_clashes (before ++ said note.kind) notes

-- ---- constants that are written

-- the name that a place writes alone
abbrev pub written : NoteKind → List Name
written (say.Write name) = name ∷ []
written (say.Resize name) = name ∷ []
written _ = []

-- the line, where a written name stands for a constant
abbrev pub constant_line : Scopes → ℕ → List Name → List ℕ
constant_line scopes line [] = []
constant_line scopes line (name ∷ names) = if is_constant (named_in scopes false name) then line ∷ [] else []

-- the lines in which a constant is written
abbrev pub written_constants : Scopes → Notes → List ℕ
written_constants scopes [] = []
written_constants scopes (note ∷ notes) = told_line is_const_target note.line note.kind
    ++ constant_line scopes note.line (written note.kind) ++ written_constants scopes notes
