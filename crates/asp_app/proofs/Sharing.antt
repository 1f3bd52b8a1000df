-- Entries that runs may share stay so as they change.
use Rattle.std.proofs.Common.{◌≡◌, ℕ, Bool, true, false, cond, if◌then◌else◌, List, [], ◌∷◌, Some}
use Rattle.std.proofs.Common.{refl, sym, ap, subst}
use Rattle.std.proofs.lemmas.List.Elements.{All-cons, All-head, All-nil, All-tail}
use Rattle.std.specs.List.{All}
use Rattle.std.specs.Prelude.{IfOk, Result, Ok, Err}
use Rattle.std.specs.Map.{keys_of, lookup}
use Rattle.indexmap.specs.IndexMap.{insert_entry}
use Rattle.vb_value.specs.declared.memory.Memory.{Memory}
use Rattle.vb_value.specs.declared.value.Value.{Value}
use Rattle.vb_value.specs.Outcome.{Gives}
use Rattle.asp_job.specs.Application.{IsAppEntry, is_name, with_value, without}
use Rattle.asp_job.specs.Calls.{IsName, IsShared}

-- what the map does as it takes an entry
pub inserted : (entries : List (List ℕ × Value)) (name : List ℕ) (value : Value)
    → insert_entry is_name entries name value ≡ with_value name value entries
inserted [] name value = refl
inserted (entry ∷ entries) name value =
    ap (λ rest. if is_name name entry.0 then (entry.0, value) ∷ entries else entry ∷ rest) (inserted entries name value)

-- with an entry that runs may share
pub shared_with : (name : List ℕ) (value : Value) (entries : List (List ℕ × Value)) → IsName name → IsShared value
    → All IsAppEntry entries → All IsAppEntry (with_value name value entries)
shared_with name value [] named shared all = All-cons IsAppEntry (name, value) [] (record { name = named; shared = shared }) all
shared_with name value (entry ∷ entries) named shared all =
    by (is_name name entry.0) (shared_with name value entries named shared (All-tail IsAppEntry entry entries all))
  where
    by : (same : Bool) → All IsAppEntry (with_value name value entries)
        → All IsAppEntry (if same then (entry.0, value) ∷ entries else entry ∷ with_value name value entries)
    by true rest =
        All-cons IsAppEntry (entry.0, value) entries
        (record { name = (All-head IsAppEntry entry entries all).name; shared = shared })
        (All-tail IsAppEntry entry entries all)
    by false rest =
        All-cons IsAppEntry entry (with_value name value entries) (All-head IsAppEntry entry entries all) rest

-- without an entry
pub shared_without : (name : List ℕ) (entries : List (List ℕ × Value)) → All IsAppEntry entries
    → All IsAppEntry (without name entries)
shared_without name [] all = all
shared_without name (entry ∷ entries) all =
    by (is_name name entry.0) (shared_without name entries (All-tail IsAppEntry entry entries all))
  where
    by : (same : Bool) → All IsAppEntry (without name entries)
        → All IsAppEntry (cond same entries (entry ∷ without name entries))
    by true rest = All-tail IsAppEntry entry entries all
    by false rest =
        All-cons IsAppEntry entry (without name entries) (All-head IsAppEntry entry entries all) rest

-- a value that is found may be shared
pub found_shared : (name : List ℕ) (entries : List (List ℕ × Value)) (value : Value) → All IsAppEntry entries
    → Some value ≡ lookup (is_name name) entries → IsShared value
found_shared name [] value all found = absurd (cc)
found_shared name (entry ∷ entries) value all found =
    by (is_name name entry.0) (found_shared name entries value (All-tail IsAppEntry entry entries all)) found
  where
    by : (same : Bool) → (Some value ≡ lookup (is_name name) entries → IsShared value)
        → Some value ≡ cond same (Some entry.1) (lookup (is_name name) entries) → IsShared value
    by true rest is =
        let it : value ≡ entry.1 = cc in
        subst IsShared (sym it) (All-head IsAppEntry entry entries all).shared
    by false rest is = rest is

-- the names are folded
pub names_folded : (entries : List (List ℕ × Value)) → All IsAppEntry entries → All IsName (keys_of entries)
names_folded [] all = All-nil IsName
names_folded (entry ∷ entries) all =
    All-cons IsName entry.0 (keys_of entries) (All-head IsAppEntry entry entries all).name
    (names_folded entries (All-tail IsAppEntry entry entries all))

-- what is true of a value is true of what a call gives
pub given_such : {T : Type 0} (IsSuch : T → Type 0) (result : Result T Memory) (value : T) → Gives result value
    → IsSuch value → IfOk result IsSuch
given_such IsSuch (Ok given) value is such = subst IsSuch (sym is) such
given_such IsSuch (Err memory) value is such = tt
