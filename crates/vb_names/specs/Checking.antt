-- What calls have checked, and the names that are declared so far, as calls see them.
use Rattle.std.specs.Prelude.{◌≡◌, Bool, ◌||◌, List, [], Option, Some, None, Result, Ok, Err}
use Rattle.vb_syntax.specs.scope.Resolving.{IsFirst}
use Rattle.vb_syntax.specs.scope.Faults.{Faults, DeclaredNames as Seen, SoFar}
use Rattle.vb_syntax.specs.scope.Names.{Name, has_name}
use Rattle.vb_syntax.specs.declared.unit.PropertyKind.{PropertyKind}
use Rattle.vb_syntax.specs.declared.unit.PropertyKind.TheVariants as property
use Rattle.vb_names.specs.declared.checks.DeclaredNames.{DeclaredNames}
use Rattle.vb_syntax.specs.declared.note.ScopeFault.{ScopeFault}
use Rattle.vb_value.specs.declared.stop.Stop.{Stop}
use Rattle.vb_value.specs.declared.stop.Stop.TheVariants.{Fault, Memory}

-- The call finds these faults: it answers the first of them, or none where there is none, unless memory ran out.
abbrev pub Finds : {T : Type 0} → Result T (Stop ScopeFault) → Faults → Type 0
Finds (Ok given) faults = faults ≡ []
Finds (Err (Fault kind line)) faults = IsFirst faults kind line
Finds (Err Memory) faults = Unit {0}

-- the names that a scope declares
abbrev pub declared_seen : DeclaredNames → Seen
declared_seen declared = record {
  others = declared.others;
  gets = declared.gets;
  lets = declared.lets;
  sets = declared.sets;
}

-- the names that are declared as such a one is
abbrev pub names_of_kind : Seen → Option PropertyKind → List Name
names_of_kind declared None = declared.others
names_of_kind declared (Some property.Get) = declared.gets
names_of_kind declared (Some property.Let) = declared.lets
names_of_kind declared (Some property.Set) = declared.sets

-- whether a name is declared as something that it can't stand together with, but for its own kind
abbrev pub is_declared_apart : Seen → Name → Option PropertyKind → Bool
is_declared_apart declared name None =
    has_name declared.gets name || has_name declared.lets name || has_name declared.sets name
is_declared_apart declared name (Some accessor) = has_name declared.others name

-- what has come so far
abbrev pub so_far : List Name → DeclaredNames → SoFar
so_far names declared = record { names = names; declared = declared_seen declared }
