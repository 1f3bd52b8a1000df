-- The lines of the faults of a scope, by their kind.
use Rattle.std.proofs.Common.{◌≡◌, ℕ, Bool, true, false, ◌||◌, List, [], ◌∷◌, ◌++◌, not, ◌&&◌, nat_lt, length}
use Rattle.std.proofs.Common.{Option, Some, None, map, if◌then◌else◌, refl, sym, ap, subst, ◌∙◌, append_assoc}
use Rattle.std.proofs.lemmas.List.{append-nil}
use Rattle.vb_syntax.specs.declared.note.Note.{Note}
use Rattle.vb_syntax.specs.declared.note.NoteKind.{NoteKind}
use Rattle.vb_syntax.specs.declared.note.NoteKind.TheVariants as say
use Rattle.vb_syntax.specs.declared.note.ScopeFault.{ScopeFault}
use Rattle.vb_syntax.specs.declared.note.ScopeFault.TheVariants as fault
use Rattle.vb_syntax.specs.declared.unit.PropertyKind.{PropertyKind}
use Rattle.vb_syntax.specs.declared.unit.PropertyKind.TheVariants as property
use Rattle.vb_syntax.specs.scope.Faults.{Faults, SoFar, DeclaredNames, fresh, notes_faults, in_line, kind_faults}
use Rattle.vb_syntax.specs.scope.Faults.{after_kind, where_true, is_declared, is_constant, is_object, is_bare, declare}
use Rattle.vb_syntax.specs.scope.Names.{Name, has_name}
use Rattle.vb_syntax.specs.scope.Notes.{Notes}
use Rattle.vb_syntax.specs.scope.Scopes.{Scopes, named_in, object_in}
use Rattle.scope_laws.specs.Unique.{lines_where, is_redefined, is_const_target, later_clashes, told_line, clash_line}
use Rattle.scope_laws.specs.Unique.{said}
use Rattle.scope_laws.specs.Unique.{Declaration, clash, clashes, written, written_constants, constant_line}
use Rattle.scope_laws.proofs.Clashes.{declared-push, clashes-push}

pub lines-append : (test : ScopeFault → Bool) (some more : Faults)
    → lines_where test (some ++ more) ≡ lines_where test some ++ lines_where test more
lines-append test [] more = refl
lines-append test (found ∷ some) more =
    ap (λ l. (if test found.0 then found.1 ∷ [] else []) ++ l) (lines-append test some more)
    ∙ sym (append_assoc (if test found.0 then found.1 ∷ [] else []) (lines_where test some) (lines_where test more))

-- what is a fault where it holds
lines-where_true : (test : ScopeFault → Bool) (line : ℕ) (holds : Bool) (found : ScopeFault) (rest : List ScopeFault)
    → lines_where test (in_line line (where_true holds found ++ rest))
    ≡ (if holds then (if test found then line ∷ [] else []) else []) ++ lines_where test (in_line line rest)
lines-where_true test line true found rest = refl
lines-where_true test line false found rest = refl

-- a fault of another kind has no line
none-where : (test : ScopeFault → Bool) (line : ℕ) (holds : Bool) (found : ScopeFault) → test found ≡ false
    → lines_where test (in_line line (where_true holds found)) ≡ []
none-where test line true found other = ap (λ b. (if b then line ∷ [] else []) ++ []) other
none-where test line false found other = refl

none-before : (test : ScopeFault → Bool) (line : ℕ) (holds : Bool) (found : ScopeFault) (rest : List ScopeFault)
    → test found ≡ false → lines_where test (in_line line (where_true holds found ++ rest))
    ≡ lines_where test (in_line line rest)
none-before test line true found rest other =
    ap (λ b. (if b then line ∷ [] else []) ++ lines_where test (in_line line rest)) other
none-before test line false found rest other = refl

-- ---- names that are declared again

-- the state knows of the earlier declarations
abbrev pub Tells : DeclaredNames → List Declaration → Type 0
Tells d earlier = (name : Name) (accessor : Option PropertyKind) → is_declared d name accessor
    ≡ clashes earlier (name, accessor)

pub tells-none : (names : List Name) → Tells (fresh names).declared []
tells-none names name None = refl
tells-none names name (Some property.Get) = refl
tells-none names name (Some property.Let) = refl
tells-none names name (Some property.Set) = refl

tells-push : (d : DeclaredNames) (earlier : List Declaration) (new : Name) (kind : Option PropertyKind)
    → Tells d earlier → Tells (declare d new kind) (earlier ++ (new, kind) ∷ [])
tells-push d earlier new kind tells name accessor = declared-push d new kind name accessor
    ∙ ap (λ b. b || clash (name, accessor) (new, kind)) (tells name accessor)
    ∙ sym (clashes-push earlier (new, kind) (name, accessor))

tells-same : (d : DeclaredNames) (earlier : List Declaration) → Tells d earlier → Tells d (earlier ++ [])
tells-same d earlier tells = subst (λ (e : List Declaration). Tells d e) (sym (append-nil earlier)) tells

pub tells-after : (before : SoFar) (earlier : List Declaration) (kind : NoteKind) → Tells before.declared earlier
    → Tells (after_kind before kind).declared (earlier ++ said kind)
tells-after before earlier (say.Fault found) tells = tells-same before.declared earlier tells
tells-after before earlier (say.Variable found) tells = tells-push before.declared earlier found.name None tells
tells-after before earlier (say.Constant found) tells = tells-push before.declared earlier found.name None tells
tells-after before earlier (say.Procedure name) tells = tells-push before.declared earlier name None tells
tells-after before earlier (say.Class name) tells = tells-push before.declared earlier name None tells
tells-after before earlier (say.Member name accessor) tells = tells-push before.declared earlier name accessor tells
tells-after before earlier (say.Result name) tells = tells-push before.declared earlier name None tells
tells-after before earlier (say.Use name steps is_group) tells = tells-same before.declared earlier tells
tells-after before earlier (say.Write name) tells = tells-same before.declared earlier tells
tells-after before earlier (say.Resize name) tells = tells-same before.declared earlier tells
tells-after before earlier (say.Part name) tells = tells-same before.declared earlier tells

-- whether the name is one too many
abbrev too_many : SoFar → Name → Bool
too_many before name = not (has_name before.names name) && not (nat_lt (length before.names) 65535)

declaration-line : (before : SoFar) (earlier : List Declaration) (line : ℕ) (name : Name)
    (accessor : Option PropertyKind) → Tells before.declared earlier
    → lines_where is_redefined (in_line line (where_true (is_declared before.declared name accessor) fault.Redefined
    ++ where_true (too_many before name) fault.TooMany)) ≡ clash_line earlier line ((name, accessor) ∷ [])
declaration-line before earlier line name accessor tells =
    lines-where_true is_redefined line (is_declared before.declared name accessor) fault.Redefined
    (where_true (too_many before name) fault.TooMany)
    ∙ ap (λ l. (if is_declared before.declared name accessor then line ∷ [] else []) ++ l)
    (none-where is_redefined line (too_many before name) fault.TooMany refl)
    ∙ append-nil (if is_declared before.declared name accessor then line ∷ [] else [])
    ∙ ap (λ b. if b then line ∷ [] else []) (tells name accessor)

write-none : (scopes : Scopes) (before : SoFar) (line : ℕ) (name : Name)
    → lines_where is_redefined (in_line line
    ((where_true (is_constant (named_in scopes false name)) fault.ConstTarget
    ++ where_true (is_object (object_in scopes name)) fault.BadMember)
    ++ where_true (too_many before name) fault.TooMany)) ≡ []
write-none scopes before line name = go (is_constant (named_in scopes false name)) (is_object (object_in scopes name))
    (too_many before name)
  where
    go : (a b c : Bool) → lines_where is_redefined (in_line line ((where_true a fault.ConstTarget
        ++ where_true b fault.BadMember) ++ where_true c fault.TooMany)) ≡ []
    go true true true = refl
    go true true false = refl
    go true false true = refl
    go true false false = refl
    go false true true = refl
    go false true false = refl
    go false false true = refl
    go false false false = refl

use-none : (scopes : Scopes) (before : SoFar) (line : ℕ) (b c : Bool)
    → lines_where is_redefined (in_line line (where_true b fault.BadMember ++ where_true c fault.TooMany)) ≡ []
use-none scopes before line true true = refl
use-none scopes before line true false = refl
use-none scopes before line false true = refl
use-none scopes before line false false = refl

kind-line : (scopes : Scopes) (before : SoFar) (earlier : List Declaration) (line : ℕ) (kind : NoteKind)
    → Tells before.declared earlier → lines_where is_redefined (in_line line (kind_faults scopes before kind))
    ≡ told_line is_redefined line kind ++ clash_line earlier line (said kind)
kind-line scopes before earlier line (say.Fault found) tells = refl
kind-line scopes before earlier line (say.Variable found) tells =
    declaration-line before earlier line found.name None tells
kind-line scopes before earlier line (say.Constant found) tells =
    declaration-line before earlier line found.name None tells
kind-line scopes before earlier line (say.Procedure name) tells = declaration-line before earlier line name None tells
kind-line scopes before earlier line (say.Class name) tells = declaration-line before earlier line name None tells
kind-line scopes before earlier line (say.Member name accessor) tells =
    declaration-line before earlier line name accessor tells
kind-line scopes before earlier line (say.Result name) tells = declaration-line before earlier line name None tells
kind-line scopes before earlier line (say.Use name steps is_group) tells =
    use-none scopes before line (is_bare scopes name steps is_group) (too_many before name)
kind-line scopes before earlier line (say.Write name) tells = write-none scopes before line name
kind-line scopes before earlier line (say.Resize name) tells = write-none scopes before line name
kind-line scopes before earlier line (say.Part name) tells =
    none-where is_redefined line (too_many before name) fault.TooMany refl

pub redefined-from : (scopes : Scopes) (before : SoFar) (earlier : List Declaration) (notes : Notes)
    → Tells before.declared earlier
    → lines_where is_redefined (notes_faults scopes before notes) ≡ later_clashes earlier notes
redefined-from scopes before earlier [] tells = refl
redefined-from scopes before earlier (note ∷ notes) tells =
    lines-append is_redefined (in_line note.line (kind_faults scopes before note.kind))
    (notes_faults scopes (after_kind before note.kind) notes)
    ∙ ap (λ l. l ++ lines_where is_redefined (notes_faults scopes (after_kind before note.kind) notes))
    (kind-line scopes before earlier note.line note.kind tells)
    ∙ ap (λ l. (told_line is_redefined note.line note.kind ++ clash_line earlier note.line (said note.kind)) ++ l)
    (redefined-from scopes (after_kind before note.kind) (earlier ++ said note.kind) notes
    (tells-after before earlier note.kind tells))

pub redefined_later_lem : (scopes : Scopes) (names : List Name) (notes : Notes)
    → lines_where is_redefined (notes_faults scopes (fresh names) notes) ≡ later_clashes [] notes
redefined_later_lem scopes names notes = redefined-from scopes (fresh names) [] notes (tells-none names)

-- ---- constants that are written

declaration-constant : (line : ℕ) (b c : Bool) → lines_where is_const_target (in_line line
    (where_true b fault.Redefined ++ where_true c fault.TooMany)) ≡ []
declaration-constant line true true = refl
declaration-constant line true false = refl
declaration-constant line false true = refl
declaration-constant line false false = refl

use-constant : (line : ℕ) (b c : Bool) → lines_where is_const_target (in_line line
    (where_true b fault.BadMember ++ where_true c fault.TooMany)) ≡ []
use-constant line true true = refl
use-constant line true false = refl
use-constant line false true = refl
use-constant line false false = refl

write-constant : (line : ℕ) (a b c : Bool) → lines_where is_const_target (in_line line
    ((where_true a fault.ConstTarget ++ where_true b fault.BadMember) ++ where_true c fault.TooMany))
    ≡ (if a then line ∷ [] else [])
write-constant line true true true = refl
write-constant line true true false = refl
write-constant line true false true = refl
write-constant line true false false = refl
write-constant line false true true = refl
write-constant line false true false = refl
write-constant line false false true = refl
write-constant line false false false = refl

constant-of-kind : (scopes : Scopes) (before : SoFar) (line : ℕ) (kind : NoteKind)
    → lines_where is_const_target (in_line line (kind_faults scopes before kind))
    ≡ told_line is_const_target line kind ++ constant_line scopes line (written kind)
constant-of-kind scopes before line (say.Fault found) = refl
constant-of-kind scopes before line (say.Variable found) = declaration-constant line
    (is_declared before.declared found.name None) (too_many before found.name)
constant-of-kind scopes before line (say.Constant found) = declaration-constant line
    (is_declared before.declared found.name None) (too_many before found.name)
constant-of-kind scopes before line (say.Procedure name) = declaration-constant line
    (is_declared before.declared name None) (too_many before name)
constant-of-kind scopes before line (say.Class name) = declaration-constant line
    (is_declared before.declared name None) (too_many before name)
constant-of-kind scopes before line (say.Member name accessor) = declaration-constant line
    (is_declared before.declared name accessor) (too_many before name)
constant-of-kind scopes before line (say.Result name) = declaration-constant line
    (is_declared before.declared name None) (too_many before name)
constant-of-kind scopes before line (say.Use name steps is_group) = use-constant line
    (is_bare scopes name steps is_group) (too_many before name)
constant-of-kind scopes before line (say.Write name) = write-constant line
    (is_constant (named_in scopes false name)) (is_object (object_in scopes name)) (too_many before name)
constant-of-kind scopes before line (say.Resize name) = write-constant line
    (is_constant (named_in scopes false name)) (is_object (object_in scopes name)) (too_many before name)
constant-of-kind scopes before line (say.Part name) =
    none-where is_const_target line (too_many before name) fault.TooMany refl

pub constants_written_lem : (scopes : Scopes) (before : SoFar) (notes : Notes)
    → lines_where is_const_target (notes_faults scopes before notes) ≡ written_constants scopes notes
constants_written_lem scopes before [] = refl
constants_written_lem scopes before (note ∷ notes) =
    lines-append is_const_target (in_line note.line (kind_faults scopes before note.kind))
    (notes_faults scopes (after_kind before note.kind) notes)
    ∙ ap (λ l. l ++ lines_where is_const_target (notes_faults scopes (after_kind before note.kind) notes))
    (constant-of-kind scopes before note.line note.kind)
    ∙ ap (λ l. (told_line is_const_target note.line note.kind
    ++ constant_line scopes note.line (written note.kind)) ++ l)
    (constants_written_lem scopes (after_kind before note.kind) notes)
