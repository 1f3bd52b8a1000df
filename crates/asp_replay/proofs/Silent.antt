-- Where nothing came from outside no page has run, and nothing was written.
use Rattle.std.proofs.Common.{◌≡◌, ◌⊎◌, ℕ, zero, suc, ◌==◌, nat_eq, Bool, true, false, if◌then◌else◌, List, [], ◌∷◌, ◌++◌}
use Rattle.std.proofs.Common.{Option, Some, None, is_some, unwrap_or, drop, take, refl, ap, sym, ◌∙◌, subst, inl, inr}
use Rattle.std.specs.Map.{remove_entry}
use Rattle.asp_core.specs.Ready.{IsAnswered, IsAnsweredBy, ready, with_answer}
use Rattle.asp_io.specs.Copying.{AddsPart}
use Rattle.asp_io.specs.Sink.{with_bytes}
use Rattle.asp_job.specs.declared.answer.Answer.{Answer}
use Rattle.asp_job.specs.declared.entry.Entry.{Entry}
use Rattle.asp_job.specs.declared.entry.What.{What}
use Rattle.asp_job.specs.declared.entry.What.TheVariants.{Queue, Admit, Refuse, Tick, Begin, App, End, Take, Stop, Halt}
use Rattle.asp_job.specs.declared.job.Job.{Job}
use Rattle.asp_job.specs.declared.job.Work.{Work}
use Rattle.asp_job.specs.declared.job.Work.TheVariants as work
use Rattle.asp_job.specs.History.{with_lane}
use Rattle.asp_job.specs.Journal.{AreRight, IsRight}
use Rattle.asp_job.specs.Output.{answer_by}
use Rattle.asp_job.specs.Rules.{Rules}
use Rattle.asp_job.specs.Running.{is_page}
use Rattle.asp_job.specs.Runs.{job_of, queued_job}
use Rattle.asp_job.specs.Turns.{IsNext, MayFollow, owed}
use Rattle.asp_replay.specs.Feed.{ArePartWritten}
use Rattle.asp_feed.specs.Feeding.{events_of}
use Rattle.asp_feed.specs.Shown.{AreRecords, Shown, shown_of, with_shown}
use Rattle.asp_replay.proofs.Pieces.{with_none}

-- ---- each run is the first

abbrev IsFirst : List Entry → Type 0
IsFirst past = (run : ℕ) → (job_of past run).work ≡ work.Start

-- the first run is owed, or nothing is; and there is no other run
abbrev IsQuiet : Rules → List Entry → Type 0
IsQuiet rules past = ((past ≡ []) ⊎ (owed rules past ≡ [])) × IsFirst past

queue_first : (rules : Rules) (past : List Entry) (lane run key : ℕ) (asked : Work)
    → IsNext rules past (with_lane lane (Queue run asked key)) → (past ≡ []) ⊎ (owed rules past ≡ [])
    → (asked ≡ work.Start) × (owed rules (with_lane lane (Queue run asked key) ∷ past) ≡ [])
queue_first rules past lane run key asked next (inl e) =
    let owes : owed rules past ≡ (work.Start, 0) ∷ [] = ap (owed rules) e in
    let told = subst (λ runs. MayFollow rules past runs (with_lane lane (Queue run asked key))) owes next in
    let same = told.0 in (cc, ap (drop 1) owes)
queue_first rules past lane run key asked next (inr e) =
    absurd (subst (λ runs. MayFollow rules past runs (with_lane lane (Queue run asked key))) e next)

start_or : (same : Bool) (asked : Work) (before : Job) → asked ≡ work.Start → before.work ≡ work.Start
    → (unwrap_or (if same then Some (queued_job asked) else None) before).work ≡ work.Start
start_or true asked before is was = is
start_or false asked before is was = was

quiet_by : (rules : Rules) (past : List Entry) (lane : ℕ) (what : What) → IsRight rules past (with_lane lane what)
    → (events_of past ≡ [] → IsQuiet rules past) → events_of (with_lane lane what ∷ past) ≡ []
    → IsQuiet rules (with_lane lane what ∷ past)
quiet_by rules past lane (Queue run asked key) right before none =
    let was = before none in
    let is = queue_first rules past lane run key asked right.turn was.0 in
    (inr is.1, λ other. start_or (run == other) asked (job_of past other) is.0 (was.1 other))
quiet_by rules past lane (Admit run key fresh job) right before none = absurd cc
quiet_by rules past lane (Refuse run job) right before none = absurd cc
quiet_by rules past lane (Tick moment) right before none = absurd cc
quiet_by rules past lane Stop right before none = absurd cc
quiet_by rules past lane (Begin run serial) right before none = (inr refl, (before none).1)
quiet_by rules past lane (App run call reply) right before none = (inr refl, (before none).1)
quiet_by rules past lane (End run kind status size made finished) right before none = (inr refl, (before none).1)
quiet_by rules past lane (Take run) right before none = (inr refl, (before none).1)
quiet_by rules past lane Halt right before none = (inr refl, (before none).1)

quiet : (rules : Rules) (past : List Entry) → AreRight rules past → events_of past ≡ [] → IsQuiet rules past
quiet rules [] right none = (inl refl, λ run. refl)
quiet rules (entry ∷ past) right none =
    quiet_by rules past entry.lane entry.what right.0 (λ before. quiet rules past right.1 before) none

-- ---- so there is no answer

with_no_answer : (shown : List Shown) (run moment : ℕ) (answer : Option Answer) → is_some answer ≡ false → shown ≡ []
    → with_shown shown run moment answer ≡ []
with_no_answer shown run moment None e is = is
with_no_answer shown run moment (Some answer) e is = absurd cc

none_shown_by : (rules : Rules) (past : List Entry) (lane : ℕ) (what : What) → IsAnsweredBy rules past what
    → (events_of past ≡ [] → (shown_of rules past ≡ []) × IsFirst past)
    → events_of (with_lane lane what ∷ past) ≡ [] → shown_of rules (with_lane lane what ∷ past) ≡ []
none_shown_by rules past lane (End run kind status size made finished) answered before none =
    let was = before none in
    with_no_answer (shown_of rules past) run (job_of past run).moment (answer_by rules past run kind)
    (answered ∙ ap is_page (was.1 run)) was.0
none_shown_by rules past lane (Queue run asked key) answered before none = (before none).0
none_shown_by rules past lane (Admit run key fresh job) answered before none = absurd cc
none_shown_by rules past lane (Refuse run job) answered before none = absurd cc
none_shown_by rules past lane (Tick moment) answered before none = absurd cc
none_shown_by rules past lane Stop answered before none = absurd cc
none_shown_by rules past lane (Begin run serial) answered before none = (before none).0
none_shown_by rules past lane (App run call reply) answered before none = (before none).0
none_shown_by rules past lane (Take run) answered before none = (before none).0
none_shown_by rules past lane Halt answered before none = (before none).0

pub none_shown : (rules : Rules) (past : List Entry) → AreRight rules past → IsAnswered rules past → events_of past ≡ []
    → shown_of rules past ≡ []
none_shown rules [] right answered none = refl
none_shown rules (entry ∷ past) right answered none =
    none_shown_by rules past entry.lane entry.what answered.0
    (λ before. (none_shown rules past right.1 answered.1 before, (quiet rules past right.1 before).1)) none

-- ---- and none waits

none_waits : (answers : List (ℕ × Answer)) (run : ℕ) (answer : Option Answer) → is_some answer ≡ false → answers ≡ []
    → with_answer answers run answer ≡ []
none_waits answers run None e is = is
none_waits answers run (Some answer) e is = absurd cc

none_ready_by : (rules : Rules) (past : List Entry) (lane : ℕ) (what : What) → IsAnsweredBy rules past what
    → (events_of past ≡ [] → (ready rules past ≡ []) × IsFirst past)
    → events_of (with_lane lane what ∷ past) ≡ [] → ready rules (with_lane lane what ∷ past) ≡ []
none_ready_by rules past lane (End run kind status size made finished) answered before none =
    let was = before none in
    none_waits (ready rules past) run (answer_by rules past run kind) (answered ∙ ap is_page (was.1 run)) was.0
none_ready_by rules past lane (Queue run asked key) answered before none = (before none).0
none_ready_by rules past lane (Admit run key fresh job) answered before none = absurd cc
none_ready_by rules past lane (Refuse run job) answered before none = absurd cc
none_ready_by rules past lane (Tick moment) answered before none = absurd cc
none_ready_by rules past lane Stop answered before none = absurd cc
none_ready_by rules past lane (Begin run serial) answered before none = (before none).0
none_ready_by rules past lane (App run call reply) answered before none = (before none).0
none_ready_by rules past lane (Take run) answered before none =
    ap (remove_entry (nat_eq run)) (before none).0
none_ready_by rules past lane Halt answered before none = (before none).0

pub none_ready : (rules : Rules) (past : List Entry) → AreRight rules past → IsAnswered rules past → events_of past ≡ []
    → ready rules past ≡ []
none_ready rules [] right answered none = refl
none_ready rules (entry ∷ past) right answered none =
    none_ready_by rules past entry.lane entry.what answered.0
    (λ before. (none_ready rules past right.1 answered.1 before, (quiet rules past right.1 before).1)) none

-- ---- and nothing was written

none_first : (first later : List Shown) → [] ≡ first ++ later → first ≡ []
none_first [] later e = refl
none_first (one ∷ first) later e = absurd cc

take_none : (count : ℕ) (bytes : List ℕ) → bytes ≡ [] → take count bytes ≡ []
take_none zero [] e = refl
take_none (suc count) [] e = refl
take_none count (byte ∷ bytes) e = absurd cc

part_none : (before after : Option (List ℕ)) (bytes : List ℕ) → bytes ≡ [] → AddsPart before after bytes → after ≡ before
part_none before after bytes none part =
    part.added ∙ ap (with_bytes before) (take_none part.count bytes none) ∙ with_none before

-- where a journal has no answer, no first part of their records has a byte
pub none_written : (rules : Rules) (past : List Entry) (before after : Option (List ℕ)) → shown_of rules past ≡ []
    → ArePartWritten rules past before after → after ≡ before
none_written rules past before after none written =
    let first = none_first written.first written.later (sym none ∙ written.shown_are) in
    let records : written.records ≡ [] = subst (λ some. AreRecords some written.records) first written.are_records in
    part_none before after written.records records written.wrote
