-- This crate's own: a place behind whole lines of a head, from which reading can go on.
use Rattle.std.specs.Prelude.{◌≡◌, ◌⊎◌, ℕ, ◌≤◌, List, ◌++◌, length, take, All}
use Rattle.std.specs.List.{flat_map}
use Rattle.httparse.specs.Grammar.{LineEnd, Field, IsField, print_field}
use Rattle.httparse.specs.Pieces.{RequestStart}

-- the first mark bytes are a request line and whole field lines, whatever follows them
pub record IsMark (bytes : List ℕ) (mark : ℕ) : Type 0 where
  pub within : mark ≤ length bytes
  pub start : List LineEnd × (List ℕ × (List ℕ × (ℕ × LineEnd)))
  pub fields : List Field
  pub valid : All IsField fields
  pub reads : (more : List ℕ) → RequestStart start (take mark bytes ++ more) (flat_map print_field fields ++ more)

-- the mark is one within the first 16,384 bytes, or 0 where there is none yet
abbrev pub IsMarked : List ℕ → ℕ → Type 0
IsMarked bytes mark = (mark ≡ 0) ⊎ ((mark ≤ 16384) × IsMark bytes mark)
