-- The lines of a text of a script or a page, counted from 1.
use Rattle.std.specs.Prelude.{ℕ, zero, suc, ◌+◌, Bool, not, ◌&&◌, ◌||◌, List, drop, if◌then◌else◌, ◌==◌, slice_index}
use Rattle.vb_value.specs.Characters.{carriage_return, line_feed}

-- The first character of a text ends a line: LF, or CR with no LF behind it. So CR LF is one line end.
abbrev pub ends_line : List ℕ → Bool
ends_line text =
    slice_index text 0 == line_feed
    || (slice_index text 0 == carriage_return && not (slice_index text 1 == line_feed))

-- how many of the first characters of a text end a line
abbrev pub line_ends : ℕ → List ℕ → ℕ
line_ends zero text = 0
line_ends (suc count) text = line_ends count text + (if ends_line (drop count text) then 1 else 0)

-- the line of the character at a place
abbrev pub line_at : List ℕ → ℕ → ℕ
line_at text at = 1 + line_ends at text
