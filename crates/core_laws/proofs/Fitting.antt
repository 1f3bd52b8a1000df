-- An unfinished run can always be ended.
use Rattle.std.proofs.Common.{◌≡◌, ℕ, ◌+◌, ◌*◌, ◌≤◌, List, ◌∷◌, length, true, refl, arith}
use Rattle.asp_core.specs.Kernel.{IsWithin}
use Rattle.asp_job.specs.History.{entries_in, load, weight_in, weight_load, with_lane}
use Rattle.asp_job.specs.Journal.{AreRight, IsValidJournal, end_entry}
use Rattle.asp_job.specs.Rules.{Rules}
use Rattle.asp_job.specs.Runs.{is_unfinished, unfinished}
use Rattle.asp_job.specs.Turns.{IsRunning}
use Rattle.asp_job.specs.declared.entry.EndKind.{EndKind}
use Rattle.asp_job.specs.declared.entry.EndKind.TheVariants as kind
use Rattle.asp_job.specs.declared.entry.Entry.{Entry}
use Rattle.asp_job.specs.declared.entry.TheConstants.{MOST_ENTRIES, MOST_WEIGHT}
use Rattle.asp_job.specs.declared.entry.What.TheVariants.{End}
use Rattle.asp_core.proofs.Counts.{fewer_unfinished}
use Rattle.asp_core.proofs.Kept.{may_follow}

same_sum : (n old new : ℕ) → new + 1 ≡ old → n + 1 + new ≡ n + old
same_sum n old new e = omega arith

same_weight : (n old new : ℕ) → new + 1 ≡ old → n + 64 + 64 * new ≡ n + 64 * old
same_weight n old new e = omega arith

at_most : (n m most : ℕ) → n ≡ m → m ≤ most → n ≤ most
at_most n m most e l = omega arith

-- an End adds as much as it frees
pub end_fits : (m : Rules) (past : List Entry) (lane run : ℕ) (kind : EndKind) (status size made finished : ℕ)
    → AreRight m past → IsWithin past → is_unfinished past run ≡ true
    → IsWithin (with_lane lane (End run kind status size made finished) ∷ past)
end_fits m past lane run kind status size made finished right within busy =
    let new = with_lane lane (End run kind status size made finished) ∷ past in
    let fewer = fewer_unfinished m past lane run kind status size made finished right busy in
    let few : load new ≡ load past =
    same_sum (entries_in past) (length (unfinished past)) (length (unfinished new)) fewer in
    let light : weight_load new ≡ weight_load past =
    same_weight (weight_in past) (length (unfinished past)) (length (unfinished new)) fewer in
    record {
      few = at_most (load new) (load past) MOST_ENTRIES few within.few;
      light = at_most (weight_load new) (weight_load past) MOST_WEIGHT light within.light;
    }

-- the End for want of memory may come
pub may_end : (m : Rules) (past : List Entry) (lane run : ℕ) → IsValidJournal m past → IsRunning past lane run
    → IsValidJournal m (end_entry m past lane run kind.Memory ∷ past)
may_end m past lane run account running = record {
  entries = (
    record {
      turn = may_follow m past (end_entry m past lane run kind.Memory) account.settled running;
      legal = tt;
      follows = (tt, refl);
    },
    account.entries,
  );
  settled = refl;
}
