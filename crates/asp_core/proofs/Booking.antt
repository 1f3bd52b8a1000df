-- The room of a book.
use Rattle.std.proofs.Common.{◌≡◌, ℕ, ◌+◌, ◌≤◌, ◌<◌, ◌++◌, List, [], ◌∷◌, length, reverse, nat_eq, IsSome, ap, arith}
use Rattle.std.specs.Map.{lookup, remove_entry}
use Rattle.asp_job.specs.Journal.{past_after}
use Rattle.asp_job.specs.Runs.{unfinished}
use Rattle.asp_job.specs.declared.answer.Answer.{Answer}
use Rattle.asp_job.specs.declared.entry.Entry.{Entry}
use Rattle.asp_journal.specs.Tables.{AreFit, IsFit}
use Rattle.asp_core.specs.Book.{BookView, HasRoomFor, LeavesRoom, owed, past_in, places_of, room_of}
use Rattle.asp_core.specs.Calm.{AreCalm, IsCalm}
use Rattle.asp_core.specs.Kernel.{HasAnswerRoom, HasRoom}
use Rattle.asp_core.proofs.Answering.{removed_length}
use Rattle.asp_core.proofs.Calm.{calm_owed, calm_unfinished, length_after}
use Rattle.asp_core.proofs.Kept.{grown_past}

-- ---- entries that begin and end no run

pub add_room : (items next more : List Entry) (answers capacity : ℕ) → next ≡ items ++ more
    → AreFit (reverse items) more → AreCalm more → HasRoom (reverse items) answers capacity
    → length more ≤ room_of (reverse items) answers capacity
    → HasRoom (reverse next) answers capacity
    × (room_of (reverse next) answers capacity + length more ≡ room_of (reverse items) answers capacity)
add_room items next more answers capacity e fit calm room fits =
    let past = reverse items in
    let all = length_after past more in
    let same = calm_owed past more fit calm in
    let new = past_after past more in
    let has : HasRoom new answers capacity = omega arith in
    let left : room_of new answers capacity + length more ≡ room_of past answers capacity = omega arith in
    rw (grown_past items next more e) (has, left)

pub add_places : (items next more : List Entry) (answers capacity : ℕ) → next ≡ items ++ more
    → AreFit (reverse items) more → AreCalm more → HasAnswerRoom (reverse items) answers capacity
    → HasAnswerRoom (reverse next) answers capacity
    × (places_of (reverse next) answers capacity ≡ places_of (reverse items) answers capacity)
add_places items next more answers capacity e fit calm room =
    let past = reverse items in
    let new = past_after past more in
    let same : length (unfinished new) ≡ length (unfinished past) = ap length (calm_unfinished past more fit calm) in
    let has : HasAnswerRoom new answers capacity = omega arith in
    let left : places_of new answers capacity ≡ places_of past answers capacity = omega arith in
    rw (grown_past items next more e) (has, left)

-- ---- an answer less

pub take_room : (past : List Entry) (answers : List (ℕ × Answer)) (run capacity capacity_of : ℕ)
    → IsSome (lookup (nat_eq run) answers) → HasRoom past (length answers) capacity
    → HasAnswerRoom past (length answers) capacity_of → let rest = length (remove_entry (nat_eq run) answers) in
    (HasRoom past rest capacity × HasAnswerRoom past rest capacity_of)
    × (room_of past rest capacity ≡ room_of past (length answers) capacity + 1)
take_room past answers run capacity capacity_of some room places =
    let less = removed_length run answers some in
    ((omega arith, omega arith), omega arith)

-- ---- one entry that begins and ends no run

calm_same : (past : List Entry) (entry : Entry) → IsFit past entry.what → IsCalm entry.what
    → (owed (entry ∷ past) ≡ owed past) × (length (unfinished (entry ∷ past)) ≡ length (unfinished past))
calm_same past entry fit calm = (
  calm_owed past (entry ∷ []) (fit, tt) (calm, tt),
  ap length (calm_unfinished past (entry ∷ []) (fit, tt) (calm, tt)),
)

pub calm_roomy : (book : BookView) (entry : Entry) → IsFit (past_in book) entry.what → IsCalm entry.what
    → 0 < book.room → HasRoomFor book entry
calm_roomy book entry fit calm room =
    let same = calm_same (past_in book) entry fit calm in
    let one = same.0 in
    let two = same.1 in
    (omega arith, omega arith)

pub calm_leaves : (old new : BookView) (entry : Entry) → IsFit (past_in old) entry.what → IsCalm entry.what
    → LeavesRoom old entry new → (new.room + 1 ≡ old.room) × (new.places ≡ old.places)
calm_leaves old new entry fit calm leaves =
    let same = calm_same (past_in old) entry fit calm in
    let one = same.0 in
    let two = same.1 in
    let room = leaves.0 in
    let places = leaves.1 in
    (omega arith, omega arith)
