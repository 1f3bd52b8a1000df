-- What a session may be (ASP 3.0, "Session Object"; the limits are our own).
use Rattle.std.specs.Prelude.{◌≡◌, ◌≢◌, ℕ, ◌+◌, ◌*◌, ◌^◌, ◌<◌, ◌≤◌, [], length, sum_by, All, AllPairs}
use Rattle.vb_value.specs.Folding.{folded}
use Rattle.vb_value.specs.Plain.{IsPlain}
use Rattle.vb_value.specs.Sound.{IsSound}
use Rattle.vb_value.specs.Weight.{weight_of}
use Rattle.asp_job.specs.declared.session.Named.{Named}
use Rattle.asp_job.specs.declared.session.SessionState.{SessionState}

-- what an entry weighs: 32, 4 for each character of its name, and its value
abbrev pub entry_weight : Named → ℕ
entry_weight entry = 32 + 4 * length entry.name + weight_of entry.value

-- an entry that a session may have: its name is folded, and its value plain and sound
pub record IsEntry (entry : Named) : Type 0 where
  pub name : folded entry.name ≡ entry.name
  pub plain : IsPlain entry.value
  pub sound : IsSound entry.value

-- two entries of different names
abbrev pub Differ : Named → Named → Type 0
Differ one other = one.name ≢ other.name

-- a session that may be: its numbers are in their ranges, its names differ, and it weighs 256 KiB at most
pub record IsSession (session : SessionState) : Type 0 where
  pub counted : 1 ≤ session.serial
  pub few : session.serial < 2 ^ 31
  pub lasts : 1 ≤ session.timeout
  pub ends : session.timeout ≤ 1440
  pub entries : All IsEntry session.values
  pub differ : AllPairs Differ session.values
  pub light : sum_by entry_weight session.values ≤ 262144
  pub bare : session.dicts ≡ []
