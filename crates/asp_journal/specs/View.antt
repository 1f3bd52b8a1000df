-- What contracts see of a journal.
use Rattle.std.specs.Prelude.{ℕ, List}
use Rattle.asp_job.specs.declared.entry.Entry.{Entry}

-- its entries, oldest first, and how many there may be before it takes more memory
pub record JournalView : Type 0 where
  pub items : List Entry
  pub capacity : ℕ
