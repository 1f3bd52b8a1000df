-- Entries that begin and end no run, one after another.
use Rattle.std.proofs.Common.{◌≡◌, ℕ, ◌+◌, ◌-◌, ◌^◌, ◌≤◌, ◌<◌, ◌==◌, ◌++◌, false, if◌then◌else◌}
use Rattle.std.proofs.Common.{List, [], ◌∷◌, length, filter, min, sum_by, refl, ap, sym, ◌∙◌, arith, append-nil}
use Rattle.std.proofs.Common.{reverse, subst}
use Rattle.std.proofs.lemmas.List.Sums.{sum_by-cons}
use Rattle.asp_job.specs.declared.entry.Entry.{Entry}
use Rattle.asp_job.specs.declared.entry.Stage.TheVariants.{Ended, Waiting}
use Rattle.asp_job.specs.declared.entry.TheConstants.{MOST_WEIGHT}
use Rattle.asp_job.specs.declared.entry.What.{What}
use Rattle.asp_job.specs.declared.entry.What.TheVariants.{Admit, App, Begin, End, Halt, Queue, Refuse, Stop, Take, Tick}
use Rattle.asp_job.specs.History.{entries_in, load, run_in, weight_in, weight_load, what_weight, with_lane}
use Rattle.asp_job.specs.Journal.{past_after}
use Rattle.asp_job.specs.Runs.{drawn, is_stage_unfinished, is_unfinished, numbers, stage_of, unfinished}
use Rattle.asp_journal.specs.Rows.{IsNumberedFor}
use Rattle.asp_journal.specs.Tables.{AreFit}
use Rattle.asp_journal.specs.declared.full.Full.{Full}
use Rattle.asp_core.specs.Book.{owed}
use Rattle.asp_core.specs.Calm.{AreCalm, HasLoad, IsCalm, IsOver, entry_weight}
use Rattle.asp_core.specs.Kernel.{IsTooMuch, IsWithin, halts_to_come}
use Rattle.asp_journal.proofs.Numbers.{filter_more, filter_same}
use Rattle.asp_journal.proofs.Others.{stage_other}
use Rattle.asp_journal.proofs.Open.{next_is, own_next}
use Rattle.asp_core.proofs.Kept.{grown_past}

-- ---- one entry

drawn_idle : (past : List Entry) (lane run : ℕ) (what : What) → run_in what ≡ run → run ≡ drawn past + 1
    → is_unfinished (with_lane lane what ∷ past) (drawn past + 1) ≡ false
    → filter (is_unfinished (with_lane lane what ∷ past)) (numbers (drawn past + 1)) ≡ unfinished past
drawn_idle past lane run what of e idle =
    let new = with_lane lane what ∷ past in
    filter_more (is_unfinished new) (drawn past)
    ∙ ap (λ b. filter (is_unfinished new) (numbers (drawn past)) ++ (if b then (drawn past + 1) ∷ [] else [])) idle
    ∙ append-nil _
    ∙ filter_same (is_unfinished new) (is_unfinished past) (drawn past)
    (λ r l. ap is_stage_unfinished (stage_other past lane r what
    (ap (λ i. i == r) of ∙ next_is run (drawn past) r e l)))

calm_one : (past : List Entry) (lane : ℕ) (what : What) → IsNumberedFor (drawn past) what → IsCalm what
    → unfinished (with_lane lane what ∷ past) ≡ unfinished past
calm_one past lane (Queue run work key) n calm =
    let own = own_next run (drawn past) n in
    let stage : stage_of (with_lane lane (Queue run work key) ∷ past) (drawn past + 1) ≡ Waiting = rw own refl in
    drawn_idle past lane run (Queue run work key) refl n (ap is_stage_unfinished stage)
calm_one past lane (Admit run key fresh job) n calm =
    let own = own_next run (drawn past) n in
    let stage : stage_of (with_lane lane (Admit run key fresh job) ∷ past) (drawn past + 1) ≡ Waiting = rw own refl in
    drawn_idle past lane run (Admit run key fresh job) refl n (ap is_stage_unfinished stage)
calm_one past lane (Refuse run job) n calm =
    let own = own_next run (drawn past) n in
    let stage : stage_of (with_lane lane (Refuse run job) ∷ past) (drawn past + 1) ≡ Ended = rw own refl in
    drawn_idle past lane run (Refuse run job) refl n (ap is_stage_unfinished stage)
calm_one past lane (Tick moment) n calm = refl
calm_one past lane Stop n calm = refl
calm_one past lane (Begin run serial) n calm = absurd calm
calm_one past lane (App run call reply) n calm = absurd calm
calm_one past lane (End run kind status size n1 n2) n calm = absurd calm
calm_one past lane (Take run) n calm = absurd calm
calm_one past lane Halt n calm = absurd calm

calm_counts : (past : List Entry) (lane : ℕ) (what : What) → IsCalm what
    → entries_in (with_lane lane what ∷ past) ≡ entries_in past + 1
calm_counts past lane (Queue run work key) calm = refl
calm_counts past lane (Admit run key fresh job) calm = refl
calm_counts past lane (Refuse run job) calm = refl
calm_counts past lane (Tick moment) calm = refl
calm_counts past lane Stop calm = refl
calm_counts past lane (Begin run serial) calm = absurd calm
calm_counts past lane (App run call reply) calm = absurd calm
calm_counts past lane (End run kind status size n1 n2) calm = absurd calm
calm_counts past lane (Take run) calm = absurd calm
calm_counts past lane Halt calm = absurd calm

-- ---- more entries

pub calm_unfinished : (past more : List Entry) → AreFit past more → AreCalm more
    → unfinished (past_after past more) ≡ unfinished past
calm_unfinished past [] fit calm = refl
calm_unfinished past (entry ∷ more) fit calm = calm_unfinished (entry ∷ past) more fit.1 calm.1
    ∙ calm_one past entry.lane entry.what fit.0.numbered calm.0

calm_entries : (past more : List Entry) → AreCalm more
    → entries_in (past_after past more) ≡ entries_in past + length more
calm_entries past [] calm = omega arith
calm_entries past (entry ∷ more) calm =
    let rest = calm_entries (entry ∷ past) more calm.1 in
    let one : entries_in (entry ∷ past) ≡ entries_in past + 1 = calm_counts past entry.lane entry.what calm.0 in
    omega arith

calm_weight : (past more : List Entry) → weight_in (past_after past more) ≡ weight_in past + sum_by entry_weight more
calm_weight past [] = omega arith
calm_weight past (entry ∷ more) =
    let rest : weight_in (past_after (entry ∷ past) more)
    ≡ weight_in past + what_weight entry.what + sum_by entry_weight more = calm_weight (entry ∷ past) more in
    let sum : sum_by entry_weight (entry ∷ more) ≡ what_weight entry.what + sum_by entry_weight more =
    sum_by-cons entry_weight entry more in
    omega arith

pub length_after : (past more : List Entry) → length (past_after past more) ≡ length past + length more
length_after past [] = omega arith
length_after past (entry ∷ more) = let rest = length_after (entry ∷ past) more in omega arith

pub calm_load : (past more : List Entry) → AreFit past more → AreCalm more
    → (load (past_after past more) ≡ load past + length more)
    × (weight_load (past_after past more) ≡ weight_load past + sum_by entry_weight more)
calm_load past more fit calm =
    let open_ = ap length (calm_unfinished past more fit calm) in
    let entries = calm_entries past more calm in
    let weight = calm_weight past more in
    (omega arith, omega arith)

calm_halted : (past : List Entry) (lane : ℕ) (what : What) → IsCalm what
    → halts_to_come (with_lane lane what ∷ past) ≡ halts_to_come past
calm_halted past lane (Queue run work key) calm = refl
calm_halted past lane (Admit run key fresh job) calm = refl
calm_halted past lane (Refuse run job) calm = refl
calm_halted past lane (Tick moment) calm = refl
calm_halted past lane Stop calm = refl
calm_halted past lane (Begin run serial) calm = absurd calm
calm_halted past lane (App run call reply) calm = absurd calm
calm_halted past lane (End run kind status size n1 n2) calm = absurd calm
calm_halted past lane (Take run) calm = absurd calm
calm_halted past lane Halt calm = absurd calm

calm_halts : (past more : List Entry) → AreCalm more → halts_to_come (past_after past more) ≡ halts_to_come past
calm_halts past [] calm = refl
calm_halts past (entry ∷ more) calm =
    calm_halts (entry ∷ past) more calm.1 ∙ calm_halted past entry.lane entry.what calm.0

pub calm_owed : (past more : List Entry) → AreFit past more → AreCalm more → owed (past_after past more) ≡ owed past
calm_owed past more fit calm =
    let open_ = ap length (calm_unfinished past more fit calm) in
    let halts = calm_halts past more calm in
    omega arith

-- ---- room

pub bounded : (w m most : ℕ) → min w m ≤ most → most < m → w ≤ most
bounded w m most e l = omega arith

twice_bounded : (w x m : ℕ) → min (w + min x m) m ≡ min (w + x) m
twice_bounded w x m = omega arith

within_after : (past more : List Entry) (count weight : ℕ) → AreFit past more → AreCalm more → count ≡ length more
    → weight ≡ min (sum_by entry_weight more) (2 ^ 64 - 1) → HasLoad past count weight → IsWithin (past_after past more)
within_after past more count weight fit calm c w has =
    let loads = calm_load past more fit calm in
    let few = has.few in
    let both : min (weight_load past + weight) (2 ^ 64 - 1)
    ≡ min (weight_load past + sum_by entry_weight more) (2 ^ 64 - 1) =
    ap (λ x. min (weight_load past + x) (2 ^ 64 - 1)) w
    ∙ twice_bounded (weight_load past) (sum_by entry_weight more) (2 ^ 64 - 1) in
    let light : weight_load past + sum_by entry_weight more ≤ MOST_WEIGHT =
    bounded (weight_load past + sum_by entry_weight more) (2 ^ 64 - 1) MOST_WEIGHT
    (subst (λ x. x ≤ MOST_WEIGHT) both has.light) (omega arith) in
    let one = loads.0 in
    let two = loads.1 in
    record { few = omega arith; light = omega arith }

pub calm_within : (journal next more : List Entry) (count weight : ℕ) → next ≡ journal ++ more
    → AreFit (reverse journal) more → AreCalm more → count ≡ length more
    → weight ≡ min (sum_by entry_weight more) (2 ^ 64 - 1) → HasLoad (reverse journal) count weight
    → IsWithin (reverse next)
calm_within journal next more count weight e fit calm c w has =
    rw (grown_past journal next more e) (within_after (reverse journal) more count weight fit calm c w has)

pub calm_much : (past more : List Entry) (count weight : ℕ) (full : Full) → AreFit past more → AreCalm more
    → count ≡ length more → weight ≡ min (sum_by entry_weight more) (2 ^ 64 - 1)
    → IsOver past count weight full → IsTooMuch (past_after past more) full
calm_much past more count weight full fit calm c w over =
    let loads = calm_load past more fit calm in
    record {
      entries_are = over.entries_are ∙ ap (λ n. load past + n) c ∙ sym loads.0;
      weight_is = over.weight_is ∙ ap (λ x. min (weight_load past + x) (2 ^ 64 - 1)) w
          ∙ twice_bounded (weight_load past) (sum_by entry_weight more) (2 ^ 64 - 1)
          ∙ ap (λ x. min x (2 ^ 64 - 1)) (sym loads.1);
      much = over.much;
    }
