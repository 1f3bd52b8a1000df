-- Each lane is handed its answers in the order in which they were made.
use Rattle.std.proofs.Common.{◌≡◌, ℕ, ◌+◌, ◌≤◌, ◌==◌, Bool, true, false, if◌then◌else◌, List, [], ◌∷◌, ◌++◌, filter}
use Rattle.std.proofs.Common.{Option, Some, None, refl, ap, sym, ◌∙◌, subst, arith, inl, inr, nat_eq}
use Rattle.std.specs.List.{find}
use Rattle.std.specs.Map.{remove_entry}
use Rattle.std.specs.Option.{option_map_or}
use Rattle.std.proofs.lemmas.Bool.{cases_Bool, eqb-true}
use Rattle.asp_job.specs.declared.answer.Answer.{Answer}
use Rattle.asp_job.specs.declared.entry.Entry.{Entry}
use Rattle.asp_job.specs.declared.entry.Stage.{Stage}
use Rattle.asp_job.specs.declared.entry.Stage.TheVariants.{Ended, Undrawn, Unfinished, Waiting}
use Rattle.asp_job.specs.declared.entry.What.{What}
use Rattle.asp_job.specs.declared.entry.What.TheVariants.{Admit, App, Begin, End, Halt, Queue, Refuse, Stop, Take}
use Rattle.asp_job.specs.declared.entry.What.TheVariants.{Tick}
use Rattle.asp_job.specs.declared.job.Work.{Work}
use Rattle.asp_job.specs.History.{with_lane}
use Rattle.asp_job.specs.Journal.{AreRight, IsRight}
use Rattle.asp_job.specs.Output.{answer_by, unavailable_in}
use Rattle.asp_job.specs.Rules.{Rules, TooManySessions}
use Rattle.asp_job.specs.Runs.{asking_lane_of, drawn, draws, is_stage_ended, stage_of}
use Rattle.asp_job.specs.Turns.{IsTake, MayFollow, owed}
use Rattle.core_laws.specs.Given.{AreOfLaneFirst, IsOfLaneFirst, for_lane, given, handed}
use Rattle.asp_core.specs.Ready.{asked_by, first_for, ready, with_answer}
use Rattle.core_laws.proofs.Grouping.{AreOfGroupFirst, IsOfGroupFirst, group_in_order, of_group}
use Rattle.asp_core.proofs.Right.{drawn_next, end_running, is_drawn, numbered, unfinished_is}
use Rattle.asp_core.proofs.Staying.{unequal}

-- ---- the answers that wait are those of runs that were drawn

abbrev Below : ℕ → List (ℕ × Answer) → Type 0
Below n [] = Unit {0}
Below n (first ∷ rest) = (first.0 ≤ n) × Below n rest

below_more : (n k : ℕ) (answers : List (ℕ × Answer)) → n ≤ k → Below n answers → Below k answers
below_more n k [] l b = tt
below_more n k (first ∷ rest) l b = let one = b.0 in (omega arith, below_more n k rest l b.1)

below_append : (n : ℕ) (answers : List (ℕ × Answer)) (one : ℕ × Answer) → one.0 ≤ n → Below n answers
    → Below n (answers ++ one ∷ [])
below_append n [] one l b = (l, tt)
below_append n (first ∷ rest) one l b = (b.0, below_append n rest one l b.1)

below_with : (n : ℕ) (answers : List (ℕ × Answer)) (run : ℕ) (answer : Option Answer) → run ≤ n → Below n answers
    → Below n (with_answer answers run answer)
below_with n answers run None l b = b
below_with n answers run (Some answer) l b = below_append n answers (run, answer) l b

below_removed : (n : ℕ) (test : ℕ → Bool) (answers : List (ℕ × Answer)) → Below n answers
    → Below n (remove_entry test answers)
below_removed n test [] b = tt
below_removed n test (first ∷ rest) b = elim (cases_Bool (test first.0)) [
  | inl hit ↦ (let is : remove_entry test (first ∷ rest) ≡ rest = rw hit refl in subst (Below n) (sym is) b.1)
  | inr miss ↦ (let is : remove_entry test (first ∷ rest) ≡ first ∷ remove_entry test rest = rw miss refl in
      subst (Below n) (sym is) (b.0, below_removed n test rest b.1))
]

ended_drawn : (stage : Stage) → is_stage_ended stage ≡ true → is_drawn stage ≡ true
ended_drawn Ended e = refl
ended_drawn Undrawn e = absurd cc
ended_drawn Waiting e = absurd cc
ended_drawn Unfinished e = absurd cc

taken_right : (m : Rules) (past : List Entry) (lane run : ℕ) (list : List (Work × ℕ))
    → MayFollow m past list (with_lane lane (Take run)) → IsTake past lane run
taken_right m past lane run [] may = may
taken_right m past lane run (first ∷ rest) may = absurd (let is = may.0 in cc)

abbrev IsReadyBelow : Rules → List Entry → Type 0
IsReadyBelow m past = Below (drawn past) (ready m past)

next_below : (m : Rules) (past : List Entry) → IsReadyBelow m past → Below (drawn past + 1) (ready m past)
next_below m past b = below_more (drawn past) (drawn past + 1) (ready m past) (omega arith) b

ready_more : (m : Rules) (past : List Entry) (lane : ℕ) (what : What) → AreRight m past
    → IsRight m past (with_lane lane what) → IsReadyBelow m past → IsReadyBelow m (with_lane lane what ∷ past)
ready_more m past lane (Queue run work key) all one b = next_below m past b
ready_more m past lane (Admit run key fresh job) all one b = next_below m past b
ready_more m past lane (Refuse run job) all one b =
    let next = drawn_next m past lane (Refuse run job) (owed m past) one.turn refl in
    below_with (drawn past + 1) (ready m past) run (unavailable_in m TooManySessions job.work) (omega arith)
    (next_below m past b)
ready_more m past lane (Tick moment) all one b = b
ready_more m past lane (Begin run serial) all one b = b
ready_more m past lane (App run call reply) all one b = b
ready_more m past lane (End run kind status size n1 n2) all one b =
    let running = end_running m past lane run kind status size n1 n2 (owed m past) one.turn in
    let stage = unfinished_is (stage_of past run) running.unfinished in
    let known = numbered m past all run (ap is_drawn stage) in
    below_with (drawn past) (ready m past) run (answer_by m past run kind) known.1 b
ready_more m past lane (Take run) all one b = below_removed (drawn past) (nat_eq run) (ready m past) b
ready_more m past lane Stop all one b = b
ready_more m past lane Halt all one b = b

ready_below : (m : Rules) (past : List Entry) → AreRight m past → IsReadyBelow m past
ready_below m [] right = tt
ready_below m (entry ∷ past) right =
    ready_more m past entry.lane entry.what right.1 right.0 (ready_below m past right.1)

-- ---- tests that agree on the runs that were drawn

group_same : (n : ℕ) (test other : ℕ → Bool) (answers : List (ℕ × Answer)) → ((r : ℕ) → r ≤ n → test r ≡ other r)
    → Below n answers → of_group test answers ≡ of_group other answers
group_same n test other [] agree b = refl
group_same n test other (first ∷ rest) agree b =
    let one : test first.0 ≡ other first.0 = agree first.0 b.0 in
    let more : of_group test rest ≡ of_group other rest = group_same n test other rest agree b.1 in
    ap (λ t. if t then first ∷ of_group test rest else of_group test rest) one
    ∙ ap (λ xs. if other first.0 then first ∷ xs else xs) more

first_same : (m : Rules) (past : List Entry) (lane : ℕ) (what : What) (test other : ℕ → Bool) → AreRight m past
    → IsRight m past (with_lane lane what) → ((r : ℕ) → r ≤ drawn past → test r ≡ other r)
    → IsOfGroupFirst test (ready m past) what → IsOfGroupFirst other (ready m past) what
first_same m past lane (Queue run work key) test other all one agree first = tt
first_same m past lane (Admit run key fresh job) test other all one agree first = tt
first_same m past lane (Refuse run job) test other all one agree first = tt
first_same m past lane (Tick moment) test other all one agree first = tt
first_same m past lane (Begin run serial) test other all one agree first = tt
first_same m past lane (App run call reply) test other all one agree first = tt
first_same m past lane (End run kind status size n1 n2) test other all one agree first = tt
first_same m past lane (Take run) test other all one agree first = λ passes.
    (let take = taken_right m past lane run (owed m past) one.turn in
    let known = numbered m past all run (ended_drawn (stage_of past run) take.ended) in
    let of = first (agree run known.1 ∙ passes) in
    let same = group_same (drawn past) test other (ready m past) agree (ready_below m past all) in
    (of.0, (of.1.0, sym same ∙ of.1.1)))
first_same m past lane Stop test other all one agree first = tt
first_same m past lane Halt test other all one agree first = tt

grows : (b : Bool) (n r : ℕ) → r ≤ n → r ≤ (if b then n + 1 else n)
grows true n r l = omega arith
grows false n r l = l

all_same : (m : Rules) (past : List Entry) (test other : ℕ → Bool) → AreRight m past
    → ((r : ℕ) → r ≤ drawn past → test r ≡ other r) → AreOfGroupFirst m test past → AreOfGroupFirst m other past
all_same m [] test other right agree first = tt
all_same m (entry ∷ past) test other right agree first =
    let before : (r : ℕ) → r ≤ drawn past → test r ≡ other r =
    λ r l. agree r (grows (draws entry.what) (drawn past) r l) in (
      first_same m past entry.lane entry.what test other right.1 right.0 before first.0,
      all_same m past test other right.1 before first.1,
    )

-- ---- hand-outs to lanes

found_head : (p : ℕ × Answer → Bool) (answers : List (ℕ × Answer)) (one : ℕ × Answer) → find p answers ≡ Some one
    → (rest : List (ℕ × Answer)) × (filter p answers ≡ one ∷ rest)
found_head p [] one e = absurd cc
found_head p (first ∷ rest) one e = elim (cases_Bool (p first)) [
  | inl hit ↦ (let found = rw hit at e in let is : first ≡ one = cc in
      let kept : filter p (first ∷ rest) ≡ first ∷ filter p rest = rw hit refl in
      (filter p rest, kept ∙ ap (λ x. x ∷ filter p rest) is))
  | inr miss ↦ (let found = rw miss at e in
      let more = found_head p rest one found in
      let left : filter p (first ∷ rest) ≡ filter p rest = rw miss refl in
      (more.0, left ∙ more.1))
]

asked_lane : (asking : Option ℕ) (lane taker : ℕ) → asking ≡ Some taker
    → option_map_or (λ a. a == lane) asking false ≡ true → taker ≡ lane
asked_lane None lane taker e t = absurd cc
asked_lane (Some asking) lane taker e t = let is : asking ≡ lane = eqb-true asking lane t in cc

lane_group : (m : Rules) (past : List Entry) (taker : ℕ) (what : What) (lane : ℕ)
    → IsRight m past (with_lane taker what) → IsOfLaneFirst m past taker what
    → IsOfGroupFirst (asked_by past lane) (ready m past) what
lane_group m past taker (Queue run work key) lane one first = tt
lane_group m past taker (Admit run key fresh job) lane one first = tt
lane_group m past taker (Refuse run job) lane one first = tt
lane_group m past taker (Tick moment) lane one first = tt
lane_group m past taker (Begin run serial) lane one first = tt
lane_group m past taker (App run call reply) lane one first = tt
lane_group m past taker (End run kind status size n1 n2) lane one first = tt
lane_group m past taker (Take run) lane one first = λ asked.
    (let take = taken_right m past taker run (owed m past) one.turn in
    let is : taker ≡ lane = asked_lane (asking_lane_of past run) lane taker take.asked_by asked in
    let found : first_for past lane (ready m past) ≡ Some (run, first.0) =
    ap (λ l. first_for past l (ready m past)) (sym is) ∙ first.1 in
    (first.0, found_head (λ ready. asked_by past lane ready.0) (ready m past) (run, first.0) found))
lane_group m past taker Stop lane one first = tt
lane_group m past taker Halt lane one first = tt

next_apart : (n run r : ℕ) → run ≡ n + 1 → r ≤ n → (run == r) ≡ false
next_apart n run r e l = unequal run r (λ same. omega arith)

-- who asked for a run stays
asked_stays : (m : Rules) (past : List Entry) (taker : ℕ) (what : What) (r : ℕ) → IsRight m past (with_lane taker what)
    → r ≤ drawn past → asking_lane_of past r ≡ asking_lane_of (with_lane taker what ∷ past) r
asked_stays m past taker (Queue run work key) r one l = refl
asked_stays m past taker (Admit run key fresh job) r one l =
    let next = drawn_next m past taker (Admit run key fresh job) (owed m past) one.turn refl in
    let apart = next_apart (drawn past) run r next l in rw apart refl
asked_stays m past taker (Refuse run job) r one l =
    let next = drawn_next m past taker (Refuse run job) (owed m past) one.turn refl in
    let apart = next_apart (drawn past) run r next l in rw apart refl
asked_stays m past taker (Tick moment) r one l = refl
asked_stays m past taker (Begin run serial) r one l = refl
asked_stays m past taker (App run call reply) r one l = refl
asked_stays m past taker (End run kind status size n1 n2) r one l = refl
asked_stays m past taker (Take run) r one l = refl
asked_stays m past taker Stop r one l = refl
asked_stays m past taker Halt r one l = refl

lane_first : (m : Rules) (past : List Entry) (lane : ℕ) → AreRight m past → AreOfLaneFirst m past
    → AreOfGroupFirst m (asked_by past lane) past
lane_first m [] lane right first = tt
lane_first m (entry ∷ past) lane right first =
    let agree : (r : ℕ) → r ≤ drawn past → asked_by past lane r ≡ asked_by (entry ∷ past) lane r = λ r l.
    ap (λ asking. option_map_or (λ a. a == lane) asking false)
    (asked_stays m past entry.lane entry.what r right.0 l) in
    let own = lane_group m past entry.lane entry.what lane right.0 first.0 in
    let now = asked_by (entry ∷ past) lane in (
      first_same m past entry.lane entry.what (asked_by past lane) now right.1 right.0 agree own,
      all_same m past (asked_by past lane) now right.1 agree (lane_first m past lane right.1 first.1),
    )

pub lanes_in_order : (m : Rules) (past : List Entry) (lane : ℕ) → AreRight m past → AreOfLaneFirst m past
    → for_lane past lane (given m past) ≡ for_lane past lane (handed m past) ++ for_lane past lane (ready m past)
lanes_in_order m past lane right first =
    group_in_order m past (asked_by past lane) (lane_first m past lane right first)
