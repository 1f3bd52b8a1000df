-- What contracts see of a book: a journal, and the answers that wait to be handed out. All of it is our own.
use Rattle.std.specs.Prelude.{◌≡◌, ℕ, ◌+◌, ◌*◌, ◌-◌, ◌≤◌, ◌++◌, ◌∷◌, List, length, reverse, Option}
use Rattle.asp_job.specs.declared.answer.Answer.{Answer}
use Rattle.asp_job.specs.declared.answer.Fail.{Fail}
use Rattle.asp_job.specs.declared.entry.Entry.{Entry}
use Rattle.asp_job.specs.Rules.{Rules}
use Rattle.asp_job.specs.Runs.{unfinished}
use Rattle.asp_app.specs.View.{AppView}
use Rattle.asp_journal.specs.View.{JournalView}
use Rattle.asp_session.specs.Account.{Account}
use Rattle.asp_core.specs.Kernel.{IsKept, IsWithin, halts_to_come, to_come}
use Rattle.asp_core.specs.Start.{start_fail}

-- its entries, oldest first; the answers, each with its run; and for how many entries and answers there is room beside
-- all that is to come for sure
pub record BookView : Type 0 where
  pub items : List Entry
  pub answers : List (ℕ × Answer)
  pub room : ℕ
  pub places : ℕ

abbrev pub past_in : BookView → List Entry
past_in book = reverse book.items

abbrev pub past_by : JournalView → List Entry
past_by journal = reverse journal.items

-- ---- its room, where so many entries or answers take no memory

abbrev pub room_of : List Entry → ℕ → ℕ → ℕ
room_of past answers capacity = capacity - (length past + to_come past answers)

abbrev pub places_of : List Entry → ℕ → ℕ → ℕ
places_of past answers capacity = capacity - (answers + length (unfinished past))

-- room for so many entries, with one run begun and one answer more than there are
abbrev pub IsRoomy : BookView → ℕ → Type 0
IsRoomy book count = (count + 2 ≤ book.room) × (2 ≤ book.places)

-- what is to come for sure beside the hand-outs of the answers that wait
abbrev pub owed : List Entry → ℕ
owed past = 2 * length (unfinished past) + halts_to_come past

-- room for the entry, and for all that is to come for sure after it
abbrev pub HasRoomFor : BookView → Entry → Type 0
HasRoomFor book entry = (owed (entry ∷ past_in book) + 1 ≤ owed (past_in book) + book.room)
    × (length (unfinished (entry ∷ past_in book)) ≤ length (unfinished (past_in book)) + book.places)

-- the room that the entry leaves
abbrev pub LeavesRoom : BookView → Entry → BookView → Type 0
LeavesRoom old entry new = (new.room + owed (entry ∷ past_in old) + 1 ≡ owed (past_in old) + old.room)
    × (new.places + length (unfinished (entry ∷ past_in old)) ≡ length (unfinished (past_in old)) + old.places)

-- ---- what becomes of it

-- entries and answers stay
abbrev pub Stays : BookView → BookView → Type 0
Stays old new = (new.items ≡ old.items) × (new.answers ≡ old.answers)

-- these entries were added, and the answers stay
abbrev pub Adds : BookView → List Entry → BookView → Type 0
Adds old entries new = (new.items ≡ old.items ++ entries) × (new.answers ≡ old.answers)

-- the same, and the journal is as long and as heavy as it may be at most
abbrev pub Grows : BookView → List Entry → BookView → Type 0
Grows old entries new = Adds old entries new × IsWithin (past_in new)

-- ---- what a core keeps

-- all of it is what the journal says
abbrev pub IsSound : Rules → List Entry → Account → AppView → List (ℕ × Answer) → Option Fail → Type 0
IsSound rules past account held answers fail =
    IsKept rules past account held answers × IsWithin past × (fail ≡ start_fail rules past)
