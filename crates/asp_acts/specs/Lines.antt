-- The line of a file in which a line of a page's program stands.
use Rattle.std.specs.Prelude.{ℕ, List, slice_get, Option, unwrap_or}
use Rattle.asp_site.specs.declared.site.LineSpot.{LineSpot}
use Rattle.asp_site.specs.declared.site.Page.{Page}

-- the place of a line of the program: line `n` of it stands at place `n`, and place 0 is that of no line
abbrev pub spot_at : List LineSpot → ℕ → Option LineSpot
spot_at lines line = slice_get lines line

-- where a line of the page's program stands; one without a place is told as a line of the page's own file
abbrev pub spot_of : Page → ℕ → LineSpot
spot_of page line = unwrap_or (spot_at page.lines line) (record { path = page.path; line = line })
