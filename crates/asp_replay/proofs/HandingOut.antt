-- The answers that wait, handed out one after another to the one lane.
use Rattle.std.proofs.Common.{◌≡◌, ◌⊎◌, ℕ, suc, ◌<◌, ◌==◌, nat_eq, Bool, true, false, List, [], ◌∷◌, ◌++◌, length}
use Rattle.std.proofs.Common.{Option, Some, None, IsSome, refl, ap, sym, ◌∙◌, subst, arith, inl, inr}
use Rattle.std.proofs.Common.{append_assoc}
use Rattle.std.specs.Map.{lookup}
use Rattle.std.proofs.lemmas.Bool.{cases_Bool, eq-eqb}
use Rattle.std.proofs.lemmas.List.{map-append}
use Rattle.asp_core.proofs.Answering.{are_those, its_answer}
use Rattle.asp_core.proofs.Jobs.{page_asked}
use Rattle.asp_core.proofs.Kept.{past_of_more}
use Rattle.asp_journal.proofs.Others.{own_number}
use Rattle.asp_lane.proofs.Turns.{grown_none}
use Rattle.asp_core.specs.Kernel.{CoreView, grown, past_of, rules_of}
use Rattle.asp_core.specs.Ready.{IsAnswered, asked_by, first_for, ready}
use Rattle.asp_core.specs.Waits.{waits}
use Rattle.asp_io.specs.Sink.{with_bytes}
use Rattle.asp_job.specs.declared.answer.Answer.{Answer}
use Rattle.asp_job.specs.declared.entry.Entry.{Entry}
use Rattle.asp_job.specs.declared.entry.What.{What}
use Rattle.asp_job.specs.declared.entry.What.TheVariants.{Admit, App, Begin, End, Halt, Queue, Refuse, Stop, Take, Tick}
use Rattle.asp_job.specs.History.{with_lane}
use Rattle.asp_job.specs.Journal.{AreRight}
use Rattle.asp_job.specs.Output.{answer_of_run}
use Rattle.asp_job.specs.Rules.{Rules}
use Rattle.asp_job.specs.Runs.{asking_lane_of, has_ended, is_taken, moment_of}
use Rattle.asp_job.specs.Told.{Meaning}
use Rattle.asp_replay.specs.Sequential.{hand_outs}
use Rattle.asp_feed.specs.Shown.{AreRecords, IsRecord, Shown}
use Rattle.asp_desk.specs.Calls.{IsWork}
use Rattle.asp_replay.specs.Near.{OthersWork}
use Rattle.asp_replay.specs.Underway.{AreOfLane}
use Rattle.asp_replay.proofs.Handed.{first_handed, ready_handed, shown_handed}
use Rattle.asp_replay.proofs.Pieces.{wrote_more}
use Rattle.asp_replay.proofs.Records.{records_more}
use Rattle.asp_replay.proofs.Showing.{stamp}

-- ---- lane 0 asked for each page, where the other lanes only work

asks_lane : (past : List Entry) (lane : ℕ) (what : What) (r : ℕ) → (lane ≡ 0) ⊎ IsWork what
    → (IsSome (asking_lane_of past r) → asked_by past 0 r ≡ true)
    → IsSome (asking_lane_of (with_lane lane what ∷ past) r) → asked_by (with_lane lane what ∷ past) 0 r ≡ true
asks_lane past lane (Queue run work key) r is ih some = ih some
asks_lane past lane (Admit run key fresh job) r (inl is) ih some = elim (cases_Bool (run == r)) [
  | inl own ↦ rw own (eq-eqb lane 0 is)
  | inr other ↦ rw other (ih (rw other at some))
]
asks_lane past lane (Admit run key fresh job) r (inr none) ih some = absurd none
asks_lane past lane (Refuse run job) r (inl is) ih some = elim (cases_Bool (run == r)) [
  | inl own ↦ rw own (eq-eqb lane 0 is)
  | inr other ↦ rw other (ih (rw other at some))
]
asks_lane past lane (Refuse run job) r (inr none) ih some = absurd none
asks_lane past lane (Tick moment) r is ih some = ih some
asks_lane past lane (Begin run serial) r is ih some = ih some
asks_lane past lane (App run call reply) r is ih some = ih some
asks_lane past lane (End run kind status size n1 n2) r is ih some = ih some
asks_lane past lane (Take run) r is ih some = ih some
asks_lane past lane Stop r is ih some = ih some
asks_lane past lane Halt r is ih some = ih some

asked_here : (past : List Entry) → OthersWork past → (r : ℕ) → IsSome (asking_lane_of past r)
    → asked_by past 0 r ≡ true
asked_here [] others r some = absurd cc
asked_here (entry ∷ past) others r some =
    asks_lane past entry.lane entry.what r others.0 (asked_here past others.1 r) some

others_none : (past : List Entry) → AreOfLane past → OthersWork past
others_none [] lanes = tt
others_none (entry ∷ past) lanes =
    (inl (lanes 0 entry (omega arith)), others_none past (λ k d below. lanes (suc k) d (omega arith)))

-- ---- so it is handed the first of all answers that wait

-- the test passes for the run of each
abbrev pub ArePassed : (ℕ → Bool) → List (ℕ × Answer) → Type 0
ArePassed test [] = Unit {0}
ArePassed test (first ∷ rest) = (test first.0 ≡ true) × ArePassed test rest

found_behind : (r : ℕ) (first : ℕ × Answer) (rest : List (ℕ × Answer)) → IsSome (lookup (nat_eq r) rest)
    → IsSome (lookup (nat_eq r) (first ∷ rest))
found_behind r first rest some = elim (cases_Bool (r == first.0)) [
  | inl own ↦ rw own refl
  | inr other ↦ rw other some
]

found_first : (first : ℕ × Answer) (rest : List (ℕ × Answer)) → IsSome (lookup (nat_eq first.0) (first ∷ rest))
found_first first rest = let own = own_number first.0 in rw own refl

all_passed : (test : ℕ → Bool) (answers : List (ℕ × Answer))
    → ((r : ℕ) → IsSome (lookup (nat_eq r) answers) → test r ≡ true) → ArePassed test answers
all_passed test [] passes = tt
all_passed test (first ∷ rest) passes = (
  passes first.0 (found_first first rest),
  all_passed test rest (λ r some. passes r (found_behind r first rest some)),
)

waits_both : (ended taken : Bool) (answer : Option Answer) → IsSome (waits ended taken answer)
    → (ended ≡ true) × IsSome answer
waits_both false taken answer some = absurd cc
waits_both true true answer some = absurd cc
waits_both true false answer some = (refl, some)

pub ready_asked : (m : Rules) (past : List Entry) → AreRight m past → IsAnswered m past → OthersWork past
    → ArePassed (asked_by past 0) (ready m past)
ready_asked m past right answered others = all_passed (asked_by past 0) (ready m past) (λ r some.
    let found = (are_those m past right).found r in
    let facts = waits_both (has_ended past r) (is_taken past r) (answer_of_run m past r) (subst IsSome found some) in
    let page = sym (its_answer m past right answered r facts.0) ∙ facts.1 in
    asked_here past others r (page_asked m past right r page))

pub head_first : (past : List Entry) (left : List (ℕ × Answer)) (first : ℕ × Answer) → ArePassed (asked_by past 0) left
    → Some first ≡ first_for past 0 left → (rest : List (ℕ × Answer)) × (left ≡ first ∷ rest)
head_first past [] first passed found = absurd cc
head_first past (head ∷ rest) first passed found =
    let asked = passed.0 in
    let is : first_for past 0 (head ∷ rest) ≡ Some head = rw asked refl in
    let same : first ≡ head = cc in
    (rest, ap (λ one. one ∷ rest) (sym same))

pub none_first : (past : List Entry) (left : List (ℕ × Answer)) → ArePassed (asked_by past 0) left
    → None ≡ first_for past 0 left → left ≡ []
none_first past [] passed found = refl
none_first past (head ∷ rest) passed found =
    let asked = passed.0 in
    let is : first_for past 0 (head ∷ rest) ≡ Some head = rw asked refl in
    absurd cc

-- ---- the loop

-- so many were handed out and written, and the others are left
pub record IsHanding {R Site : Type 0} (meaning : R → Site → Meaning) (old now : CoreView R Site)
    (before after : Option (List ℕ)) : Type 0 where
  pub taken : List (ℕ × Answer)
  pub left : List (ℕ × Answer)
  pub now_is : now ≡ grown old (hand_outs taken)
  pub split : ready (rules_of meaning old) (past_of old) ≡ taken ++ left
  pub passed : ArePassed (asked_by (past_of old) 0) left
  pub bytes : List ℕ
  pub are_records : AreRecords (stamp (moment_of (past_of old)) taken) bytes
  pub wrote : after ≡ with_bytes before bytes

-- how many are left
abbrev pub left_in : {R Site : Type 0} → (R → Site → Meaning) → CoreView R Site → ℕ
left_in meaning core = length (ready (rules_of meaning core) (past_of core))

pub handing_starts : {R Site : Type 0} → (meaning : R → Site → Meaning) (core : CoreView R Site)
    (held : Option (List ℕ)) → AreRight (rules_of meaning core) (past_of core)
    → IsAnswered (rules_of meaning core) (past_of core) → AreOfLane (past_of core) → held ≡ with_bytes held []
    → IsHanding meaning core core held held
handing_starts meaning core held right answered lanes none =
    record {
      taken = [];
      left = ready (rules_of meaning core) (past_of core);
      now_is = sym (grown_none core);
      split = refl;
      passed = ready_asked (rules_of meaning core) (past_of core) right answered (others_none (past_of core) lanes);
      bytes = [];
      are_records = refl;
      wrote = none;
    }

-- the answers that wait are those that are left
left_ready : {R Site : Type 0} → (meaning : R → Site → Meaning) (old now : CoreView R Site)
    (taken left : List (ℕ × Answer)) → now ≡ grown old (hand_outs taken)
    → ready (rules_of meaning old) (past_of old) ≡ taken ++ left → ready (rules_of meaning now) (past_of now) ≡ left
left_ready meaning old now taken left is split =
    ap (λ core. ready (rules_of meaning core) (past_of core)) is
    ∙ ap (ready (rules_of meaning old)) (past_of_more old.journal (hand_outs taken))
    ∙ ready_handed (rules_of meaning old) (past_of old) taken left split

pub left_first : {R Site : Type 0} → (meaning : R → Site → Meaning) (old now : CoreView R Site)
    (taken left : List (ℕ × Answer)) → now ≡ grown old (hand_outs taken)
    → ready (rules_of meaning old) (past_of old) ≡ taken ++ left
    → first_for (past_of now) 0 (ready (rules_of meaning now) (past_of now)) ≡ first_for (past_of old) 0 left
left_first meaning old now taken left is split =
    ap (first_for (past_of now) 0) (left_ready meaning old now taken left is split)
    ∙ ap (λ core. first_for (past_of core) 0 left) is
    ∙ ap (λ past. first_for past 0 left) (past_of_more old.journal (hand_outs taken))
    ∙ first_handed (past_of old) taken left 0

-- one hand-out more
hand_outs_more : (taken : List (ℕ × Answer)) (first : ℕ × Answer)
    → hand_outs (taken ++ first ∷ []) ≡ hand_outs taken ++ with_lane 0 (Take first.0) ∷ []
hand_outs_more taken first = map-append (λ (ready : ℕ × Answer). with_lane 0 (Take ready.0)) taken (first ∷ [])

grown_more : {R Site : Type 0} → (old now new : CoreView R Site) (taken : List (ℕ × Answer)) (first : ℕ × Answer)
    → now ≡ grown old (hand_outs taken) → new ≡ grown now (with_lane 0 (Take first.0) ∷ [])
    → new ≡ grown old (hand_outs (taken ++ first ∷ []))
grown_more old now new taken first is took =
    took ∙ ap (λ core. grown core (with_lane 0 (Take first.0) ∷ [])) is
    ∙ ap (λ journal. record { journal = journal; runner = old.runner; site = old.site; setting = old.setting })
    (append_assoc old.journal (hand_outs taken) (with_lane 0 (Take first.0) ∷ [])
    ∙ ap (λ entries. old.journal ++ entries) (sym (hand_outs_more taken first)))

stamp_more : (moment : ℕ) (taken : List (ℕ × Answer)) (first : ℕ × Answer) → stamp moment (taken ++ first ∷ [])
    ≡ stamp moment taken ++ record { run = first.0; moment = moment; answer = first.1 } ∷ []
stamp_more moment taken first = map-append (λ (waits : ℕ × Answer). record {
  run = waits.0;
  moment = moment;
  answer = waits.1;
}) taken (first ∷ [])

-- time stands still
pub moment_handed : {R Site : Type 0} → (meaning : R → Site → Meaning) (old now : CoreView R Site)
    (taken : List (ℕ × Answer)) → now ≡ grown old (hand_outs taken)
    → moment_of (past_of now) ≡ moment_of (past_of old)
moment_handed meaning old now taken is =
    ap (λ core. moment_of (past_of core)) is ∙ ap moment_of (past_of_more old.journal (hand_outs taken))
    ∙ (shown_handed (rules_of meaning old) (past_of old) taken).moment

-- one answer was handed out, whose record is to be written
pub record HandsOne {R Site : Type 0} (meaning : R → Site → Meaning) (old new : CoreView R Site)
    (before now : Option (List ℕ)) (first : ℕ × Answer) : Type 0 where
  pub taken : List (ℕ × Answer)
  pub rest : List (ℕ × Answer)
  pub new_is : new ≡ grown old (hand_outs (taken ++ first ∷ []))
  pub split : ready (rules_of meaning old) (past_of old) ≡ taken ++ (first ∷ rest)
  pub passed : ArePassed (asked_by (past_of old) 0) rest
  pub moment : moment_of (past_of new) ≡ moment_of (past_of old)
  pub bytes : List ℕ
  pub are_records : AreRecords (stamp (moment_of (past_of old)) taken) bytes
  pub wrote : now ≡ with_bytes before bytes

-- so some answer waited
pub some_waits : {A : Type 0} → (taken rest : List A) (first : A) → [] ≡ taken ++ first ∷ rest → ⊥
some_waits [] rest first e = absurd cc
some_waits (one ∷ taken) rest first e = absurd cc

pub hands_one : {R Site : Type 0} → (meaning : R → Site → Meaning) (old now new : CoreView R Site)
    (before after : Option (List ℕ)) (first : ℕ × Answer) → IsHanding meaning old now before after
    → Some first ≡ first_for (past_of now) 0 (ready (rules_of meaning now) (past_of now))
    → new ≡ grown now (with_lane 0 (Take first.0) ∷ []) → HandsOne meaning old new before after first
hands_one meaning old now new before after first is found took =
    let head = head_first (past_of old) is.left first is.passed
    (found ∙ left_first meaning old now is.taken is.left is.now_is is.split) in
    let new_is = grown_more old now new is.taken first is.now_is took in
    let passed : ArePassed (asked_by (past_of old) 0) (first ∷ head.0) =
    subst (ArePassed (asked_by (past_of old) 0)) head.1 is.passed in
    record {
      taken = is.taken;
      rest = head.0;
      new_is = new_is;
      split = is.split ∙ ap (λ left. is.taken ++ left) head.1;
      passed = passed.1;
      moment = moment_handed meaning old new (is.taken ++ first ∷ []) new_is;
      bytes = is.bytes;
      are_records = is.are_records;
      wrote = is.wrote;
    }

-- the split behind that answer
pub split_more : (all taken rest : List (ℕ × Answer)) (first : ℕ × Answer) → all ≡ taken ++ (first ∷ rest)
    → all ≡ (taken ++ first ∷ []) ++ rest
split_more all taken rest first split = split ∙ sym (append_assoc taken (first ∷ []) rest)

-- the records with that of the answer
pub more_records : (moment : ℕ) (taken : List (ℕ × Answer)) (first : ℕ × Answer) (shown : Shown) (front back : List ℕ)
    → shown ≡ record { run = first.0; moment = moment; answer = first.1 } → AreRecords (stamp moment taken) front
    → IsRecord shown back → AreRecords (stamp moment (taken ++ first ∷ [])) (front ++ back)
more_records moment taken first shown front back same before is =
    subst (λ all. AreRecords all (front ++ back)) (sym (stamp_more moment taken first))
    (records_more (stamp moment taken) (record { run = first.0; moment = moment; answer = first.1 }) front back before
    (subst (λ one. IsRecord one back) same is))

-- its record was written
pub handing_goes_on : {R Site : Type 0} → (meaning : R → Site → Meaning) (old new : CoreView R Site)
    (before now after : Option (List ℕ)) (first : ℕ × Answer) (shown : Shown) (back : List ℕ)
    → HandsOne meaning old new before now first
    → shown ≡ record { run = first.0; moment = moment_of (past_of new); answer = first.1 } → IsRecord shown back
    → after ≡ with_bytes now back → IsHanding meaning old new before after
handing_goes_on meaning old new before now after first shown back one shown_is is wrote =
    let moment = moment_of (past_of old) in
    let same = shown_is ∙ ap (λ at. record { run = first.0; moment = at; answer = first.1 }) one.moment in
    record {
      taken = one.taken ++ first ∷ [];
      left = one.rest;
      now_is = one.new_is;
      split = split_more (ready (rules_of meaning old) (past_of old)) one.taken one.rest first one.split;
      passed = one.passed;
      bytes = one.bytes ++ back;
      are_records = more_records moment one.taken first shown one.bytes back same one.are_records is;
      wrote = wrote_more before now after one.bytes back one.wrote wrote;
    }

-- one less is left
pub handing_smaller : {R Site : Type 0} → (meaning : R → Site → Meaning) (old now new : CoreView R Site)
    (before after : Option (List ℕ)) (first : ℕ × Answer) → IsHanding meaning old now before after
    → Some first ≡ first_for (past_of now) 0 (ready (rules_of meaning now) (past_of now))
    → new ≡ grown now (with_lane 0 (Take first.0) ∷ []) → left_in meaning new < left_in meaning now
handing_smaller meaning old now new before after first is found took =
    let head = head_first (past_of old) is.left first is.passed
    (found ∙ left_first meaning old now is.taken is.left is.now_is is.split) in
    let before_is = left_ready meaning old now is.taken is.left is.now_is is.split ∙ head.1 in
    let new_is = grown_more old now new is.taken first is.now_is took in
    let split = is.split ∙ ap (λ left. is.taken ++ left) head.1 in
    let after_is = left_ready meaning old new (is.taken ++ first ∷ []) head.0 new_is
    (split_more (ready (rules_of meaning old) (past_of old)) is.taken head.0 first split) in
    let long = ap length before_is in
    let short = ap length after_is in
    omega (arith, long, short)
