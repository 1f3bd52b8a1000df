-- An ending object at the page's end.
use Rattle.std.specs.Prelude.{ℕ}
use Rattle.vb_meaning.specs.Errors.{in_line}
use Rattle.vb_meaning.specs.Inner.{Inner}
use Rattle.vb_meaning.specs.Releases.{behind_page, in_world, line_of, terminate}
use Rattle.vb_meaning.specs.State.{Does}

module _ (E : Type 0) (m : Inner E) where
  -- its terminator runs in its own line, and the page has ended
  unfoldable pub ends_last : ℕ → Does E (Unit {0})
  ends_last object s = in_line (line_of E m object s.world) (terminate E m object (in_world E (behind_page s.world) s))
