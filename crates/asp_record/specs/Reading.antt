-- The lines of a recording, read from the front of bytes.
use Rattle.std.specs.Prelude.{◌≡◌, ◌≢◌, ℕ, Bool, List, [], ◌∷◌, ◌++◌, Option, Some, None, if◌then◌else◌, nat_lt, codes}
use Rattle.asp_record.specs.declared.line.Line.{Line}
use Rattle.asp_record.specs.declared.line.Line.TheVariants as lines
use Rattle.asp_record.specs.declared.recording.Item.{Item}
use Rattle.asp_record.specs.declared.recording.Item.TheVariants.{Request, Tick}
use Rattle.asp_record.specs.declared.recording.Recording.{Recording}
use Rattle.asp_record.specs.Fields.{◌>>=◌, behind, counted_at, marked_at, seed_at}
use Rattle.asp_record.specs.Recording.{Says, Version, head_text, lock_text, opening_text}

-- the item that a line has
abbrev pub item_of : Line → Item
item_of (lines.Request client moment bytes) = Request client moment bytes.now
item_of (lines.Tick moment) = Tick moment

-- what stands behind `tick`
unfoldable pub tick_at : List ℕ → Option (Item × List ℕ)
tick_at bytes = do
  moment ← marked_at (10 ∷ []) bytes
  Some (Tick moment.0, moment.1)

-- what stands behind `request`
unfoldable pub request_at : List ℕ → Option (Item × List ℕ)
request_at bytes = do
  client ← marked_at (32 ∷ []) bytes
  moment ← marked_at (32 ∷ []) client.1
  count ← marked_at (10 ∷ []) moment.1
  text ← counted_at count.0 count.1
  if nat_lt client.0 4294967296 then Some (Request client.0 moment.0 text.0, text.1) else None

-- the item whose word begins the bytes
abbrev pub item_by : Option (List ℕ) → Option (List ℕ) → Option (Item × List ℕ)
item_by (Some rest) request = tick_at rest
item_by None (Some rest) = request_at rest
item_by None None = None

unfoldable pub item_at : List ℕ → Option (Item × List ℕ)
item_at bytes = item_by (behind (codes "tick ") bytes) (behind (codes "request ") bytes)

-- the line of the seed
unfoldable pub seed_line_at : List ℕ → Option (List ℕ × List ℕ)
seed_line_at bytes = do
  text ← behind (codes "seed ") bytes
  seed ← seed_at text
  rest ← behind (10 ∷ []) seed.1
  Some (seed.0, rest)

-- no rule's line begins the bytes
abbrev pub HasNoRule : List ℕ → Type 0
HasNoRule bytes = (strict : Bool) (rest : List ℕ) → bytes ≢ lock_text strict ++ rest

-- the bytes begin with the lines before the items, in one of the versions, and this follows
pub record HasHead (bytes seed : List ℕ) (strict : Bool) (rest : List ℕ) : Type 0 where
  pub version : Version
  pub says : Says version strict
  pub text : bytes ≡ head_text version seed strict ++ rest

-- they begin with a recording that is not ended, and this follows
pub record HasOpening (bytes : List ℕ) (recording : Recording) (rest : List ℕ) : Type 0 where
  pub version : Version
  pub says : Says version recording.strict
  pub text : bytes ≡ opening_text version recording ++ rest
