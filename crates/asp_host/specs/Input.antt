-- What is read of a source, and the recording that it has.
use Rattle.std.specs.Prelude.{◌≡◌, ◌⊎◌, ℕ, ◌<◌, ◌≤◌, ⊤, List, [], ◌++◌, length, Option, IfSome, option_map}
use Rattle.asp_io.specs.declared.fault.IoStop.{IoStop}
use Rattle.asp_io.specs.declared.fault.IoStop.TheVariants as io
use Rattle.asp_record.specs.declared.recording.Recording.{Recording}
use Rattle.asp_record.specs.declared.stop.RecordStop.{RecordStop}
use Rattle.asp_record.specs.declared.stop.RecordStop.TheVariants as record_stops
use Rattle.asp_record.specs.Recorded.{IsRefusedAt, Stands}
use Rattle.asp_host.specs.declared.recording.RecordingStop.{RecordingStop}
use Rattle.asp_host.specs.declared.recording.RecordingStop.TheVariants as stop

-- ---- bytes

-- so many bytes are read of a source at the most: 66 MiB
abbrev pub most_read : ℕ
most_read = 69206016

-- what was left is these bytes, and then what is left now
abbrev pub AreTaken : Option (List ℕ) → Option (List ℕ) → List ℕ → Type 0
AreTaken before after bytes = before ≡ option_map (λ rest. bytes ++ rest) after

-- these bytes were read, and fewer than that only where none are left
pub record AreRead (before after : Option (List ℕ)) (bytes : List ℕ) : Type 0 where
  pub taken : AreTaken before after bytes
  pub within : length bytes ≤ most_read
  pub ends : length bytes < most_read → IfSome after (λ rest. rest ≡ [])

-- some bytes were read, and stand behind those that were there
pub record Comes (before after : Option (List ℕ)) (old new : List ℕ) : Type 0 where
  pub piece : List ℕ
  pub taken : AreTaken before after piece
  pub added : new ≡ old ++ piece

-- ---- recordings

-- all bytes of the source are this recording, and none are left
pub record IsAllRecording (before after : Option (List ℕ)) (recording : Recording) : Type 0 where
  pub stands : IfSome before (λ all. Stands all recording (length all))
  pub none_left : IfSome after (λ rest. rest ≡ [])

-- The bytes of a source are refused there: where no recording stands at their front, at its place; and where one ends and
-- bytes stand behind it.
abbrev pub IsSourceRefusedAt : List ℕ → ℕ → Type 0
IsSourceRefusedAt all offset =
    IsRefusedAt all offset ⊎ ((recording : Recording) × Stands all recording offset × (offset < length all))

-- why bytes that were read are no recording
abbrev pub IsStopOf : List ℕ → RecordingStop → Type 0
IsStopOf all (stop.Refused offset) = IsSourceRefusedAt all offset
IsStopOf all stop.ReadFault = ⊥
IsStopOf all stop.Memory = ⊤

-- why a source has none
abbrev pub IsRecordingStop : Option (List ℕ) → RecordingStop → Type 0
IsRecordingStop before (stop.Refused offset) = IfSome before (λ all. IsSourceRefusedAt all offset)
IsRecordingStop before stop.ReadFault = ⊤
IsRecordingStop before stop.Memory = ⊤

abbrev pub input_stop : IoStop → RecordingStop
input_stop io.Failed = stop.ReadFault
input_stop io.Memory = stop.Memory

abbrev pub record_stop : RecordStop → RecordingStop
record_stop (record_stops.Refused offset) = stop.Refused offset
record_stop record_stops.Memory = stop.Memory
