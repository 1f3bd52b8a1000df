-- Entries that queue runs, one after another.
use Rattle.std.proofs.Common.{◌≡◌, ℕ, ◌+◌, ◌<◌, List, [], ◌∷◌, ◌++◌, length, get_or, drop, ap, ◌∙◌, arith}
use Rattle.std.proofs.lemmas.List.{drop_more}
use Rattle.asp_job.specs.declared.job.Work.TheVariants as work
use Rattle.asp_job.specs.History.{with_lane}
use Rattle.asp_job.specs.Journal.{queue_entries}
use Rattle.asp_job.specs.Turns.{closing_runs}
use Rattle.asp_job.specs.declared.entry.What.TheVariants.{Queue}

-- the first of what is left, and the others
pub queue_first : (lane run : ℕ) (keys : List ℕ) (i : ℕ) (d : ℕ) → i < length keys
    → queue_entries lane run (closing_runs (drop i keys)) ≡ with_lane lane (Queue run work.SessionEnd (get_or keys i d))
    ∷ queue_entries lane (run + 1) (closing_runs (drop (i + 1) keys))
queue_first lane run keys i d h = ap (λ ks. queue_entries lane run (closing_runs ks)) (drop_more keys i d h)

-- the last run comes after those of the keys
pub queue_last : (lane run : ℕ) (keys : List ℕ) → queue_entries lane run (closing_runs keys ++ (work.Stop, 0) ∷ [])
    ≡ queue_entries lane run (closing_runs keys) ++ with_lane lane (Queue (run + length keys) work.Stop 0) ∷ []
queue_last lane run [] = let same : run ≡ run + 0 = omega arith in ap (λ n. with_lane lane (Queue n work.Stop 0) ∷ [])
    same
queue_last lane run (k ∷ keys) =
    let same : run + 1 + length keys ≡ run + length (k ∷ keys) = omega arith in
    ap (λ es. with_lane lane (Queue run work.SessionEnd k) ∷ es) (queue_last lane (run + 1) keys)
    ∙ ap (λ n. with_lane lane (Queue run work.SessionEnd k) ∷ (queue_entries lane (run + 1) (closing_runs keys) ++
    with_lane lane (Queue n work.Stop 0) ∷ [])) same
