-- Which entries have numbers and texts that are what their types say. It is our own.
use Rattle.std.specs.Prelude.{◌^◌, ◌<◌, List, [], ◌∷◌, IsTrue, ⊤}
use Rattle.asp_job.specs.declared.entry.Entry.{Entry}
use Rattle.asp_job.specs.declared.entry.What.{What}
use Rattle.asp_job.specs.declared.entry.What.TheVariants as entry
use Rattle.asp_record.specs.Journal.{call_ranged, reply_ranged}

-- numbers are of 32 bits, but moments of 64 and a status of 16; those of calls and replies are of their subtypes' ranges,
-- and their texts of characters
abbrev pub IsRangedWhat : What → Type 0
IsRangedWhat (entry.Queue run work key) = (run < 2 ^ 32) × (key < 2 ^ 32)
IsRangedWhat (entry.Admit run key fresh job) = (run < 2 ^ 32) × (key < 2 ^ 32) × (job.moment < 2 ^ 64)
IsRangedWhat (entry.Refuse run job) = (run < 2 ^ 32) × (job.moment < 2 ^ 64)
IsRangedWhat (entry.Tick moment) = moment < 2 ^ 64
IsRangedWhat (entry.Begin run serial) = (run < 2 ^ 32) × (serial < 2 ^ 32)
IsRangedWhat (entry.App run call reply) = (run < 2 ^ 32) × IsTrue (call_ranged call) × IsTrue (reply_ranged reply)
IsRangedWhat (entry.End run kind status size made finished) =
    (run < 2 ^ 32) × (status < 2 ^ 16) × (size < 2 ^ 32) × (made < 2 ^ 32) × (finished < 2 ^ 32)
IsRangedWhat (entry.Take run) = ⊤
IsRangedWhat entry.Stop = ⊤
IsRangedWhat entry.Halt = ⊤

pub record IsRanged (one : Entry) : Type 0 where
  pub lane : one.lane < 2 ^ 32
  pub what : IsRangedWhat one.what

abbrev pub AreRanged : List Entry → Type 0
AreRanged [] = ⊤
AreRanged (one ∷ past) = IsRanged one × AreRanged past
