-- The answers of a group of runs are handed out in the order in which they were made, where each hand-out takes the
-- first that waits of the group.
use Rattle.std.proofs.Common.{◌≡◌, ℕ, ◌==◌, Bool, true, false, List, [], ◌∷◌, ◌++◌, filter, refl, ap, sym, ◌∙◌}
use Rattle.std.proofs.Common.{append-nil, append_assoc, arith, inl, inr, nat_eq}
use Rattle.std.specs.Map.{remove_entry}
use Rattle.std.proofs.lemmas.Bool.{cases_Bool, eqb-true}
use Rattle.std.proofs.lemmas.List.Elements.{filter-append}
use Rattle.asp_job.specs.declared.answer.Answer.{Answer}
use Rattle.asp_job.specs.declared.entry.Entry.{Entry}
use Rattle.asp_job.specs.declared.entry.What.{What}
use Rattle.asp_job.specs.declared.entry.What.TheVariants.{Admit, App, Begin, End, Halt, Queue, Refuse, Stop, Take}
use Rattle.asp_job.specs.declared.entry.What.TheVariants.{Tick}
use Rattle.asp_job.specs.History.{with_lane}
use Rattle.asp_job.specs.Rules.{Rules}
use Rattle.core_laws.specs.Given.{IsOfFirst, answer_among, given, handed, hands_out, made_by}
use Rattle.asp_core.specs.Ready.{ready}
use Rattle.core_laws.proofs.Ordering.{first_found, first_removed, given_more, handed_more, ready_more}

-- the answers of the runs that pass a test
abbrev pub of_group : (ℕ → Bool) → List (ℕ × Answer) → List (ℕ × Answer)
of_group test answers = filter (λ ready. test ready.0) answers

-- the hand-out of a run that passes is that of the first answer that waits of such a run
abbrev pub IsOfGroupFirst : (ℕ → Bool) → List (ℕ × Answer) → What → Type 0
IsOfGroupFirst test answers (Take run) = test run ≡ true → IsOfFirst (of_group test answers) (Take run)
IsOfGroupFirst test answers _ = Unit {0}

-- so is each
abbrev pub AreOfGroupFirst : Rules → (ℕ → Bool) → List Entry → Type 0
AreOfGroupFirst rules test [] = Unit {0}
AreOfGroupFirst rules test (entry ∷ past) =
    IsOfGroupFirst test (ready rules past) entry.what × AreOfGroupFirst rules test past

-- ---- one answer taken out

same_number : (run n : ℕ) → nat_eq run n ≡ (n == run)
same_number run n = grind arith

passes : (test : ℕ → Bool) (run n : ℕ) → test run ≡ true → (n == run) ≡ true → test n ≡ true
passes test run n t e = ap test (eqb-true n run e) ∙ t

fails : (test : ℕ → Bool) (run n : ℕ) → test run ≡ false → (n == run) ≡ true → test n ≡ false
fails test run n t e = ap test (eqb-true n run e) ∙ t

-- of a run of the group
removed_in : (test : ℕ → Bool) (run : ℕ) (answers : List (ℕ × Answer)) → test run ≡ true
    → of_group test (remove_entry (nat_eq run) answers) ≡ remove_entry (nat_eq run) (of_group test answers)
removed_in test run [] t = refl
removed_in test run (first ∷ rest) t = elim (cases_Bool (first.0 == run)) [
  | inl own ↦ (let found : nat_eq run first.0 ≡ true = same_number run first.0 ∙ own in
      let kept : test first.0 ≡ true = passes test run first.0 t own in
      simp (found, kept) refl)
  | inr other ↦ (let left : nat_eq run first.0 ≡ false = same_number run first.0 ∙ other in
      let more = removed_in test run rest t in
      elim (cases_Bool (test first.0)) [
        | inl kept ↦ simp (left, kept, more) refl
        | inr dropped ↦ simp (left, dropped, more) refl
      ])
]

found_in : (test : ℕ → Bool) (run : ℕ) (answers : List (ℕ × Answer)) → test run ≡ true
    → answer_among run answers ≡ answer_among run (of_group test answers)
found_in test run [] t = refl
found_in test run (first ∷ rest) t = elim (cases_Bool (first.0 == run)) [
  | inl own ↦ (let kept : test first.0 ≡ true = passes test run first.0 t own in rw (kept, own, answer_among) refl)
  | inr other ↦ (let more = found_in test run rest t in
      elim (cases_Bool (test first.0)) [
        | inl kept ↦ rw (kept, other, answer_among) more
        | inr dropped ↦ rw (dropped, other, answer_among) more
      ])
]

-- of another run
removed_out : (test : ℕ → Bool) (run : ℕ) (answers : List (ℕ × Answer)) → test run ≡ false
    → of_group test (remove_entry (nat_eq run) answers) ≡ of_group test answers
removed_out test run [] t = refl
removed_out test run (first ∷ rest) t = elim (cases_Bool (first.0 == run)) [
  | inl own ↦ (let found : nat_eq run first.0 ≡ true = same_number run first.0 ∙ own in
      let dropped : test first.0 ≡ false = fails test run first.0 t own in
      simp (found, dropped) refl)
  | inr other ↦ (let left : nat_eq run first.0 ≡ false = same_number run first.0 ∙ other in
      let more = removed_out test run rest t in
      elim (cases_Bool (test first.0)) [
        | inl kept ↦ simp (left, kept, more) refl
        | inr dropped ↦ simp (left, dropped, more) refl
      ])
]

found_out : (test : ℕ → Bool) (run : ℕ) (answers : List (ℕ × Answer)) → test run ≡ false
    → of_group test (answer_among run answers) ≡ []
found_out test run [] t = refl
found_out test run (first ∷ rest) t = elim (cases_Bool (first.0 == run)) [
  | inl own ↦ (let dropped : test first.0 ≡ false = fails test run first.0 t own in
      let is : answer_among run (first ∷ rest) ≡ first ∷ [] = rw (own, answer_among) refl in
      ap (of_group test) is ∙ rw dropped refl)
  | inr other ↦ (let is : answer_among run (first ∷ rest) ≡ answer_among run rest = rw (other, answer_among) refl in
      ap (of_group test) is ∙ found_out test run rest t)
]

-- ---- one more entry

abbrev IsGroupInOrder : Rules → (ℕ → Bool) → List Entry → Type 0
IsGroupInOrder m test past =
    of_group test (given m past) ≡ of_group test (handed m past) ++ of_group test (ready m past)

group_append : (test : ℕ → Bool) (xs ys : List (ℕ × Answer))
    → of_group test (xs ++ ys) ≡ of_group test xs ++ of_group test ys
group_append test xs ys = filter-append (λ (ready : ℕ × Answer). test ready.0) xs ys

group_quiet : (m : Rules) (test : ℕ → Bool) (past : List Entry) (lane : ℕ) (what : What) → hands_out what ≡ false
    → IsGroupInOrder m test past → IsGroupInOrder m test (with_lane lane what ∷ past)
group_quiet m test past lane what e before =
    let new = with_lane lane what ∷ past in
    let made = made_by m past what in
    let all : of_group test (given m new) ≡ of_group test (given m past) ++ of_group test made =
    ap (of_group test) (given_more m past lane what) ∙ group_append test (given m past) made in
    let wait : of_group test (ready m new) ≡ of_group test (ready m past) ++ of_group test made =
    ap (of_group test) (ready_more m past lane what e) ∙ group_append test (ready m past) made in
    let gone : of_group test (handed m new) ≡ of_group test (handed m past) =
    ap (of_group test) (handed_more m past lane what e) in
    all ∙ ap (λ xs. xs ++ of_group test made) before
    ∙ append_assoc (of_group test (handed m past)) (of_group test (ready m past)) (of_group test made)
    ∙ ap (λ xs. of_group test (handed m past) ++ xs) (sym wait)
    ∙ ap (λ xs. xs ++ of_group test (ready m new)) (sym gone)

-- a hand-out of a run of the group
group_in : (m : Rules) (test : ℕ → Bool) (past : List Entry) (lane run : ℕ) (answer : Answer)
    (rest : List (ℕ × Answer)) → test run ≡ true → of_group test (ready m past) ≡ (run, answer) ∷ rest
    → IsGroupInOrder m test past → IsGroupInOrder m test (with_lane lane (Take run) ∷ past)
group_in m test past lane run answer rest t first before =
    let gone = of_group test (handed m past) in
    let one = answer_among run (ready m past) in
    let left : of_group test (remove_entry (nat_eq run) (ready m past)) ≡ rest =
    removed_in test run (ready m past) t ∙ ap (remove_entry (nat_eq run)) first ∙ first_removed run answer rest in
    let is : one ≡ (run, answer) ∷ [] =
    found_in test run (ready m past) t ∙ ap (answer_among run) first ∙ first_found run answer rest in
    let kept : of_group test ((run, answer) ∷ []) ≡ (run, answer) ∷ [] = rw t refl in
    let more : of_group test (handed m past ++ one) ≡ gone ++ (run, answer) ∷ [] =
    group_append test (handed m past) one ∙ ap (λ xs. gone ++ of_group test xs) is ∙ ap (λ xs. gone ++ xs) kept in
    before ∙ ap (λ xs. gone ++ xs) first ∙ sym (append_assoc gone ((run, answer) ∷ []) rest)
    ∙ ap (λ xs. (gone ++ (run, answer) ∷ []) ++ xs) (sym left)
    ∙ ap (λ xs. xs ++ of_group test (remove_entry (nat_eq run) (ready m past))) (sym more)

-- a hand-out of another run
group_out : (m : Rules) (test : ℕ → Bool) (past : List Entry) (lane run : ℕ) → test run ≡ false
    → IsGroupInOrder m test past → IsGroupInOrder m test (with_lane lane (Take run) ∷ past)
group_out m test past lane run t before =
    let gone = of_group test (handed m past) in
    let one = answer_among run (ready m past) in
    let more : of_group test (handed m past ++ one) ≡ gone =
    group_append test (handed m past) one ∙ ap (λ xs. gone ++ xs) (found_out test run (ready m past) t)
    ∙ append-nil gone in
    before ∙ ap (λ xs. gone ++ xs) (sym (removed_out test run (ready m past) t))
    ∙ ap (λ xs. xs ++ of_group test (remove_entry (nat_eq run) (ready m past))) (sym more)

group_more : (m : Rules) (test : ℕ → Bool) (past : List Entry) (lane : ℕ) (what : What)
    → AreOfGroupFirst m test (with_lane lane what ∷ past) → IsGroupInOrder m test past
    → IsGroupInOrder m test (with_lane lane what ∷ past)
group_more m test past lane (Queue run work key) first before =
    group_quiet m test past lane (Queue run work key) refl before
group_more m test past lane (Admit run key fresh job) first before =
    group_quiet m test past lane (Admit run key fresh job) refl before
group_more m test past lane (Refuse run job) first before = group_quiet m test past lane (Refuse run job) refl before
group_more m test past lane (Tick moment) first before = group_quiet m test past lane (Tick moment) refl before
group_more m test past lane (Begin run serial) first before =
    group_quiet m test past lane (Begin run serial) refl before
group_more m test past lane (App run call reply) first before =
    group_quiet m test past lane (App run call reply) refl before
group_more m test past lane (End run kind status size n1 n2) first before =
    group_quiet m test past lane (End run kind status size n1 n2) refl before
group_more m test past lane (Take run) first before = elim (cases_Bool (test run)) [
  | inl t ↦ (let one = first.0 t in group_in m test past lane run one.0 one.1.0 t one.1.1 before)
  | inr t ↦ group_out m test past lane run t before
]
group_more m test past lane Stop first before = group_quiet m test past lane Stop refl before
group_more m test past lane Halt first before = group_quiet m test past lane Halt refl before

pub group_in_order : (m : Rules) (past : List Entry) (test : ℕ → Bool) → AreOfGroupFirst m test past
    → of_group test (given m past) ≡ of_group test (handed m past) ++ of_group test (ready m past)
group_in_order m [] test first = refl
group_in_order m (entry ∷ past) test first =
    group_more m test past entry.lane entry.what first (group_in_order m past test first.1)
