-- Entries that are in range, one more of them, and in the other order.
use Rattle.std.proofs.Common.{◌≡◌, ℕ, ◌+◌, ◌<◌, List, [], ◌∷◌, ◌++◌, length, get_or, reverse, take, sym, subst}
use Rattle.std.proofs.lemmas.List.{reverse-append, take_more}
use Rattle.asp_job.specs.declared.entry.Entry.{Entry}
use Rattle.asp_record.specs.Ranged.{AreRanged, IsRanged}

ranged_push : (entries : List Entry) (last : Entry) → AreRanged entries → IsRanged last
    → AreRanged (entries ++ last ∷ [])
ranged_push [] last are is = (is, tt)
ranged_push (one ∷ entries) last are is = (are.0, ranged_push entries last are.1 is)

-- the next of a list, read where it lies
pub ranged_more : (entries : List Entry) (i : ℕ) (one : Entry) → one ≡ get_or entries i one → i < length entries
    → AreRanged (take i entries) → IsRanged one → AreRanged (take (i + 1) entries)
ranged_more entries i one here within are is =
    subst AreRanged (sym (take_more entries i one within))
    (ranged_push (take i entries) (get_or entries i one) are (subst IsRanged here is))

-- the entries of a journal, newest first, where they are given oldest first, and the other way round
pub ranged_reverse : (entries : List Entry) → AreRanged entries → AreRanged (reverse entries)
ranged_reverse [] are = tt
ranged_reverse (one ∷ entries) are =
    subst AreRanged (sym (reverse-append (one ∷ []) entries))
    (ranged_push (reverse entries) one (ranged_reverse entries are.1) are.0)
