-- This crate's own: the session numbers that were gathered.
use Rattle.std.specs.Prelude.{ℕ, nat_eq, nat_lt, if◌then◌else◌, List, ◌∷◌}
use Rattle.indexmap.specs.IndexSet.{IndexSet, IsFromIterResult}

-- the set has these numbers, each of them once, and no others
abbrev pub Holds : {S : Type 0} → List ℕ → IndexSet ℕ S → Type 0
Holds serials set = IsFromIterResult nat_eq serials set

-- these with one more, where it is above 0
abbrev pub with_serial : ℕ → List ℕ → List ℕ
with_serial serial serials = if nat_lt 0 serial then serial ∷ serials else serials

-- whatever numbers the set had, it has this one beside them
abbrev pub IsWith : {S : Type 0} → ℕ → IndexSet ℕ S → IndexSet ℕ S → Type 0
IsWith serial old new = (serials : List ℕ) → Holds serials old → Holds (with_serial serial serials) new
