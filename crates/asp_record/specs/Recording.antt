-- The texts of a recording, line by line. They are our own.
use Rattle.std.specs.Prelude.{◌≡◌, ℕ, Bool, true, false, List, [], ◌++◌, length, codes, ⊤}
use Rattle.std.specs.List.{flat_map}
use Rattle.asp_record.specs.Lines.{field, hex, line, number}
use Rattle.asp_record.specs.declared.recording.Item.{Item}
use Rattle.asp_record.specs.declared.recording.Item.TheVariants.{Request, Tick}
use Rattle.asp_record.specs.declared.recording.Recording.{Recording}

-- `request`, with the client, the moment and how many bytes follow, and then these
abbrev pub request_text : ℕ → ℕ → List ℕ → List ℕ
request_text client moment bytes =
    line (codes "request" ++ number client ++ number moment ++ number (length bytes)) ++ line bytes

-- `tick`, with the moment
abbrev pub tick_text : ℕ → List ℕ
tick_text moment = line (codes "tick" ++ number moment)

abbrev pub item_text : Item → List ℕ
item_text (Request client moment bytes) = request_text client moment bytes
item_text (Tick moment) = tick_text moment

-- `seed`, with its bytes
abbrev pub seed_text : List ℕ → List ℕ
seed_text seed = line (codes "seed" ++ field (hex seed))

-- a recording is written in one of two versions
pub data Version : Type 0 where
  First Second : Version

-- the first line, with the version
abbrev pub version_text : Version → List ℕ
version_text First = line (codes "ASPREC 1")
version_text Second = line (codes "ASPREC 2")

-- `lock`, with the rule: under the strict one a Lock keeps readers out too
abbrev pub lock_text : Bool → List ℕ
lock_text false = line (codes "lock plain")
lock_text true = line (codes "lock strict")

-- the line of the rule, which the first version does not have
abbrev pub rule_text : Version → Bool → List ℕ
rule_text First strict = []
rule_text Second strict = lock_text strict

-- a version can say the rule: the first one says none, and means the plain one
abbrev pub Says : Version → Bool → Type 0
Says First strict = strict ≡ false
Says Second strict = ⊤

-- the lines before the items: the version, the seed and the rule
abbrev pub head_text : Version → List ℕ → Bool → List ℕ
head_text version seed strict = version_text version ++ seed_text seed ++ rule_text version strict

-- these lines and the items
abbrev pub opening_text : Version → Recording → List ℕ
opening_text version recording =
    head_text version recording.seed recording.strict ++ flat_map item_text recording.items

-- these, and `end`
unfoldable pub recording_text : Version → Recording → List ℕ
recording_text version recording = opening_text version recording ++ line (codes "end")
