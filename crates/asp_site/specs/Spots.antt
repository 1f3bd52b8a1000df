-- The lines of files, one behind the other, and the stretches in which they are kept.
use Rattle.std.specs.Prelude.{ℕ, zero, suc, List, [], ◌∷◌, ◌++◌}
use Rattle.asp_site.specs.declared.stretch.Stretch.{Stretch}
use Rattle.asp_site.specs.declared.site.LineSpot.{LineSpot}

-- a line of a file
abbrev pub spot : List ℕ → ℕ → LineSpot
spot path line = record { path = path; line = line }

-- so many lines of a file, from one on
abbrev pub spots : List ℕ → ℕ → ℕ → List LineSpot
spots path line zero = []
spots path line (suc count) = spot path line ∷ spots path (suc line) count

-- the lines of stretches, one behind the other
abbrev pub spots_of : List Stretch → List LineSpot
spots_of [] = []
spots_of (stretch ∷ stretches) = spots stretch.path stretch.first stretch.count ++ spots_of stretches
