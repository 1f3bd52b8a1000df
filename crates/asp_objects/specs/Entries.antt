-- The entries of a session (ASP 3.0, "Session.Contents Collection"), as they are read and changed. Names are folded.
use Rattle.std.specs.Prelude.{ℕ, ◌<◌, nat_eq, nat_lt, Bool, List, [], ◌∷◌, ◌++◌, length, map, position, remove, sum_by}
use Rattle.std.specs.Prelude.{slice_index_or, slice_set, Option, Some, None}
use Rattle.std.specs.Cmp.Lexicographic.{pointwise}
use Rattle.vb_value.specs.declared.value.Value.{Value, Empty}
use Rattle.asp_job.specs.declared.session.Named.{Named}
use Rattle.asp_job.specs.Session.{entry_weight}

-- whether an entry has the name
abbrev pub has_name : List ℕ → Named → Bool
has_name name entry = pointwise nat_eq entry.name name

-- the place of a name, counted from 0
abbrev pub place_of : List ℕ → List Named → Option ℕ
place_of name entries = position (has_name name) entries

-- the place is one of the entries', if there is a place
abbrev pub IsWithin : Option ℕ → List Named → Type 0
IsWithin None entries = Unit {0}
IsWithin (Some at) entries = at < length entries

-- the entry at a place
abbrev pub entry_at : List Named → ℕ → Named
entry_at entries at = slice_index_or entries at (record { name = []; value = Empty })

abbrev pub value_at : Option ℕ → List Named → Value
value_at None entries = Empty
value_at (Some at) entries = (entry_at entries at).value

-- the value of a name, Empty where it is absent
abbrev pub value_under : List ℕ → List Named → Value
value_under name entries = value_at (place_of name entries) entries

abbrev pub put_at : Option ℕ → Named → List Named → List Named
put_at None entry entries = entries ++ entry ∷ []
put_at (Some at) entry entries = slice_set entries at entry

-- the entries with this value for the name, in its place, or last where it is absent
abbrev pub with_value : List ℕ → Value → List Named → List Named
with_value name value entries = put_at (place_of name entries) (record { name = name; value = value }) entries

abbrev pub removed_at : Option ℕ → List Named → List Named
removed_at None entries = entries
removed_at (Some at) entries = remove entries at

-- the entries without the name, as they are where it is absent
abbrev pub without : List ℕ → List Named → List Named
without name entries = removed_at (place_of name entries) entries

-- the names, in the order of their first writing
abbrev pub names_of : List Named → List (List ℕ)
names_of entries = map (λ entry. entry.name) entries

-- what all of them weigh, and whether that is too much: more than 256 KiB
abbrev pub weight_of_entries : List Named → ℕ
weight_of_entries entries = sum_by entry_weight entries

abbrev pub is_full : List Named → Bool
is_full entries = nat_lt 262144 (weight_of_entries entries)

-- what the entry at a place weighs, if there is a place
abbrev pub held_weight : Option ℕ → List Named → ℕ
held_weight None entries = 0
held_weight (Some at) entries = entry_weight (entry_at entries at)
