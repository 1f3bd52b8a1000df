-- Which bytes have a recording at their front, and where bytes have none. It is our own.
use Rattle.std.specs.Prelude.{◌≡◌, ◌≢◌, ℕ, ◌^◌, ◌<◌, ◌≤◌, ◌⊎◌, List, [], ◌∷◌, ◌++◌, length, slice_index, ⊤}
use Rattle.std.specs.Prelude.{Result, Ok, Err}
use Rattle.std.specs.List.{flat_map}
use Rattle.httparse.specs.Grammar.{RequestHead}
use Rattle.http_front.specs.Front.{IsFront}
use Rattle.http_front.specs.Front as front
use Rattle.asp_record.specs.declared.recording.Item.{Item}
use Rattle.asp_record.specs.declared.recording.Item.TheVariants.{Request, Tick}
use Rattle.asp_record.specs.declared.recording.Recording.{Recording}
use Rattle.asp_record.specs.declared.stop.RecordStop.{RecordStop}
use Rattle.asp_record.specs.declared.stop.RecordStop.TheVariants.{Refused, Memory}
use Rattle.asp_record.specs.Recording.{First, Says, Second, Version, item_text, opening_text, recording_text, seed_text}
use Rattle.asp_record.specs.Recording.{version_text}

-- how many bytes a recording may have: 64 MiB
abbrev pub most_bytes : ℕ
most_bytes = 67108864

-- the bytes are one request, and nothing more
abbrev pub IsOneRequest : List ℕ → Type 0
IsOneRequest bytes = (h : RequestHead) × (body : List ℕ) × IsFront bytes (front.Request h body [])

abbrev pub moment_of : Item → ℕ
moment_of (Request client moment bytes) = moment
moment_of (Tick moment) = moment

-- what a request holds: a client of 32 bits, and one request, which has far fewer than 64 MiB
abbrev pub IsHeld : Item → Type 0
IsHeld (Request client moment bytes) = (client < 2 ^ 32) × (length bytes ≤ most_bytes) × IsOneRequest bytes
IsHeld (Tick moment) = ⊤

-- an item may come where time has come to a moment: it does not fall, and ends with the year 9999
pub record IsNext (now : ℕ) (item : Item) : Type 0 where
  pub rises : now ≤ moment_of item
  pub ends : moment_of item ≤ 253402300799
  pub held : IsHeld item

-- each of the items may come after those before it
abbrev pub AreItems : ℕ → List Item → Type 0
AreItems now [] = ⊤
AreItems now (item ∷ items) = IsNext now item × AreItems (moment_of item) items

-- the moment to which time has come behind items
abbrev pub last_of : ℕ → List Item → ℕ
last_of now [] = now
last_of now (item ∷ items) = last_of (moment_of item) items

-- no item that may come begins the bytes
abbrev pub HasNoItem : ℕ → List ℕ → Type 0
HasNoItem now bytes = (item : Item) (rest : List ℕ) → IsNext now item → bytes ≢ item_text item ++ rest

-- the bytes are items and what follows, where no more begin
pub record ReadsItems (bytes : List ℕ) (items : List Item) (rest : List ℕ) : Type 0 where
  pub right : AreItems 0 items
  pub text : bytes ≡ flat_map item_text items ++ rest
  pub last : HasNoItem (last_of 0 items) rest

-- what the type of a seed says of it
pub record IsSeed (seed : List ℕ) : Type 0 where
  pub size : length seed ≡ 32
  pub bytes : (i : ℕ) → slice_index seed i < 256

-- that its seed is one, and what its items are
pub record IsSound (recording : Recording) : Type 0 where
  pub seed : IsSeed recording.seed
  pub items : AreItems 0 recording.items

-- how far a recording was read, line by line: a request's bytes are of its line. Behind the seed's line the second
-- version has one for the rule.
pub data Part : Type 0 where
  Nothing : Part
  Named : Version → Part
  Seeded : List ℕ → Part
  Begun Ended : Version → Recording → Part

-- what was read
abbrev pub part_text : Part → List ℕ
part_text Nothing = []
part_text (Named version) = version_text version
part_text (Seeded seed) = version_text Second ++ seed_text seed
part_text (Begun version recording) = opening_text version recording
part_text (Ended version recording) = recording_text version recording

-- what was read is the beginning of a recording
abbrev pub IsPart : Part → Type 0
IsPart Nothing = ⊤
IsPart (Named version) = ⊤
IsPart (Seeded seed) = IsSeed seed
IsPart (Begun version recording) = IsSound recording × Says version recording.strict
IsPart (Ended version recording) = IsSound recording × Says version recording.strict

-- the bytes begin with a text
abbrev pub Begins : List ℕ → List ℕ → Type 0
Begins bytes text = (rest : List ℕ) × (bytes ≡ text ++ rest)

-- one line more
abbrev pub IsLonger : Part → Part → Type 0
IsLonger Nothing (Named version) = ⊤
IsLonger (Named First) (Begun First recording) = recording.items ≡ []
IsLonger (Named Second) (Seeded seed) = ⊤
IsLonger (Seeded seed) (Begun Second recording) = (recording.seed ≡ seed) × (recording.items ≡ [])
IsLonger (Begun version recording) (Begun other longer) = (other ≡ version) × (longer.seed ≡ recording.seed)
    × (longer.strict ≡ recording.strict) × ((item : Item) × (longer.items ≡ recording.items ++ item ∷ []))
IsLonger (Begun version recording) (Ended other whole) = (other ≡ version) × (whole ≡ recording)
IsLonger _ _ = ⊥

-- lines are still to come
abbrev pub IsOpen : Part → Type 0
IsOpen (Ended version recording) = ⊥
IsOpen _ = ⊤

-- the next line of the bytes does not fit
pub record IsLast (bytes : List ℕ) (part : Part) : Type 0 where
  pub is_open : IsOpen part
  pub last : (longer : Part) → IsPart longer → IsLonger part longer → ¬ (Begins bytes (part_text longer))

-- where bytes that begin with a part are refused: where it ends, if the next line does not fit, and behind 64 MiB, if
-- it is longer
abbrev pub IsPlace : List ℕ → Part → ℕ → Type 0
IsPlace bytes part offset =
    (IsLast bytes part × (length (part_text part) ≤ most_bytes) × (offset ≡ length (part_text part)))
    ⊎ ((most_bytes < length (part_text part)) × (offset ≡ most_bytes))

-- the bytes have no recording at their front, and are refused there
pub record IsRefusedAt (bytes : List ℕ) (offset : ℕ) : Type 0 where
  pub part : Part
  pub right : IsPart part
  pub begins : Begins bytes (part_text part)
  pub place : IsPlace bytes part offset

-- a recording of at most 64 MiB stands at the front of the bytes, in one of the versions, and ends there
pub record Stands (bytes : List ℕ) (recording : Recording) (end : ℕ) : Type 0 where
  pub sound : IsSound recording
  pub version : Version
  pub says : Says version recording.strict
  pub begins : Begins bytes (recording_text version recording)
  pub ends : end ≡ length (recording_text version recording)
  pub short : end ≤ most_bytes

-- the answer is no refusal, or the fact holds of its place
abbrev pub OnRefused : {T : Type 0} → Result T RecordStop → (ℕ → Type 0) → Type 0
OnRefused (Ok given) fact = ⊤
OnRefused (Err (Refused offset)) fact = fact offset
OnRefused (Err Memory) fact = ⊤
