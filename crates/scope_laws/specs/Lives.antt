-- Where the names live that nothing declares, said of the names that a scope mentions.
use Rattle.std.specs.Prelude.{◌≡◌, ℕ, false, Option, Some, None}
use Rattle.vb_value.specs.Folding.{folded}
use Rattle.vb_syntax.specs.declared.note.NoteKind.{NoteKind}
use Rattle.vb_syntax.specs.declared.note.NoteKind.TheVariants as say
use Rattle.vb_syntax.specs.declared.program.name.Named.{Named}
use Rattle.vb_syntax.specs.declared.program.name.Named.TheVariants as named
use Rattle.vb_syntax.specs.declared.program.name.Slot.TheVariants as slot
use Rattle.vb_syntax.specs.scope.Names.{Name, of_language, object_named}
use Rattle.vb_syntax.specs.scope.Scopes.{Scopes, declared_in}

-- the place mentions the name at the head of a path, writes it, or gives it bounds
abbrev pub Mentions : NoteKind → Name → Type 0
Mentions (say.Use other steps is_group) name = other ≡ name
Mentions (say.Write other) name = other ≡ name
Mentions (say.Resize other) name = other ≡ name
Mentions _ name = ⊥

-- no scope declares the name, and neither the language nor the host has it
pub record IsUndeclared (scopes : Scopes) (name : Name) : Type 0 where
  pub nowhere : declared_in scopes false (folded name) ≡ None
  pub no_word : of_language name ≡ None
  pub no_object : object_named name ≡ None

-- a variable of the page
abbrev pub IsOnPage : Named → Type 0
IsOnPage found = (number : ℕ) × (found ≡ named.Place (slot.Page number))

-- a variable of the procedure
abbrev pub IsLocal : Named → Type 0
IsLocal found = (number : ℕ) × (found ≡ named.Place (slot.Local number))
