-- Answers are handed out in the order in which they were made, where each hand-out takes the first that waits.
use Rattle.std.proofs.Common.{◌≡◌, ℕ, true, false, List, [], ◌∷◌, ◌++◌, Option, Some, None, refl, ap, sym, ◌∙◌}
use Rattle.std.proofs.Common.{append-nil, append_assoc, arith, nat_eq}
use Rattle.std.specs.Map.{remove_entry}
use Rattle.asp_job.specs.declared.answer.Answer.{Answer}
use Rattle.asp_job.specs.declared.entry.Entry.{Entry}
use Rattle.asp_job.specs.declared.entry.What.{What}
use Rattle.asp_job.specs.declared.entry.What.TheVariants.{Admit, App, Begin, End, Halt, Queue, Refuse, Stop, Take}
use Rattle.asp_job.specs.declared.entry.What.TheVariants.{Tick}
use Rattle.asp_job.specs.History.{with_lane}
use Rattle.asp_job.specs.Output.{answer_by, unavailable_in}
use Rattle.asp_job.specs.Rules.{Rules, TooManySessions}
use Rattle.core_laws.specs.Given.{AreOfFirst, answer_among, given, handed, hands_out, made_by}
use Rattle.asp_core.specs.Ready.{ready, with_answer}
use Rattle.asp_journal.proofs.Others.{own_number}

-- ---- one more entry

with_more : (answers : List (ℕ × Answer)) (run : ℕ) (answer : Option Answer)
    → with_answer answers run answer ≡ answers ++ with_answer [] run answer
with_more answers run None = sym (append-nil answers)
with_more answers run (Some answer) = refl

pub given_more : (m : Rules) (past : List Entry) (lane : ℕ) (what : What)
    → given m (with_lane lane what ∷ past) ≡ given m past ++ made_by m past what
given_more m past lane (Queue run work key) = sym (append-nil (given m past))
given_more m past lane (Admit run key fresh job) = sym (append-nil (given m past))
given_more m past lane (Refuse run job) = with_more (given m past) run (unavailable_in m TooManySessions job.work)
given_more m past lane (Tick moment) = sym (append-nil (given m past))
given_more m past lane (Begin run serial) = sym (append-nil (given m past))
given_more m past lane (App run call reply) = sym (append-nil (given m past))
given_more m past lane (End run kind status size n1 n2) = with_more (given m past) run (answer_by m past run kind)
given_more m past lane (Take run) = sym (append-nil (given m past))
given_more m past lane Stop = sym (append-nil (given m past))
given_more m past lane Halt = sym (append-nil (given m past))

pub ready_more : (m : Rules) (past : List Entry) (lane : ℕ) (what : What) → hands_out what ≡ false
    → ready m (with_lane lane what ∷ past) ≡ ready m past ++ made_by m past what
ready_more m past lane (Queue run work key) e = sym (append-nil (ready m past))
ready_more m past lane (Admit run key fresh job) e = sym (append-nil (ready m past))
ready_more m past lane (Refuse run job) e = with_more (ready m past) run (unavailable_in m TooManySessions job.work)
ready_more m past lane (Tick moment) e = sym (append-nil (ready m past))
ready_more m past lane (Begin run serial) e = sym (append-nil (ready m past))
ready_more m past lane (App run call reply) e = sym (append-nil (ready m past))
ready_more m past lane (End run kind status size n1 n2) e = with_more (ready m past) run (answer_by m past run kind)
ready_more m past lane (Take run) e = absurd cc
ready_more m past lane Stop e = sym (append-nil (ready m past))
ready_more m past lane Halt e = sym (append-nil (ready m past))

pub both_more : (m : Rules) (past : List Entry) (entry : Entry) → hands_out entry.what ≡ false
    → (given m (entry ∷ past) ≡ given m past ++ made_by m past entry.what)
    × (ready m (entry ∷ past) ≡ ready m past ++ made_by m past entry.what)
both_more m past entry e =
    (given_more m past entry.lane entry.what, ready_more m past entry.lane entry.what e)

-- ---- a hand-out

pub first_removed : (run : ℕ) (answer : Answer) (rest : List (ℕ × Answer))
    → remove_entry (nat_eq run) ((run, answer) ∷ rest) ≡ rest
first_removed run answer rest = let own : nat_eq run run ≡ true = grind arith in rw own refl

pub first_found : (run : ℕ) (answer : Answer) (rest : List (ℕ × Answer))
    → answer_among run ((run, answer) ∷ rest) ≡ (run, answer) ∷ []
first_found run answer rest = let own = own_number run in rw (own, answer_among) refl

-- the first that waits is then the last that was handed out
pub hand_out : (m : Rules) (past : List Entry) (lane run : ℕ) (answer : Answer) (before rest : List (ℕ × Answer))
    → given m past ≡ before ++ ready m past → ready m past ≡ (run, answer) ∷ rest
    → given m (with_lane lane (Take run) ∷ past)
    ≡ (before ++ (run, answer) ∷ []) ++ ready m (with_lane lane (Take run) ∷ past)
hand_out m past lane run answer before rest e f =
    let left : remove_entry (nat_eq run) (ready m past) ≡ rest =
    ap (remove_entry (nat_eq run)) f ∙ first_removed run answer rest in
    e ∙ ap (λ xs. before ++ xs) f ∙ sym (append_assoc before ((run, answer) ∷ []) rest)
    ∙ ap (λ xs. (before ++ (run, answer) ∷ []) ++ xs) (sym left)

pub handed_more : (m : Rules) (past : List Entry) (lane : ℕ) (what : What) → hands_out what ≡ false
    → handed m (with_lane lane what ∷ past) ≡ handed m past
handed_more m past lane (Queue run work key) e = refl
handed_more m past lane (Admit run key fresh job) e = refl
handed_more m past lane (Refuse run job) e = refl
handed_more m past lane (Tick moment) e = refl
handed_more m past lane (Begin run serial) e = refl
handed_more m past lane (App run call reply) e = refl
handed_more m past lane (End run kind status size n1 n2) e = refl
handed_more m past lane (Take run) e = absurd cc
handed_more m past lane Stop e = refl
handed_more m past lane Halt e = refl

-- ---- all of them

abbrev IsInOrder : Rules → List Entry → Type 0
IsInOrder m past = given m past ≡ handed m past ++ ready m past

order_quiet : (m : Rules) (past : List Entry) (lane : ℕ) (what : What) → hands_out what ≡ false → IsInOrder m past
    → IsInOrder m (with_lane lane what ∷ past)
order_quiet m past lane what e before =
    let new = with_lane lane what ∷ past in
    let made = made_by m past what in
    given_more m past lane what ∙ ap (λ xs. xs ++ made) before ∙ append_assoc (handed m past) (ready m past) made
    ∙ ap (λ xs. handed m past ++ xs) (sym (ready_more m past lane what e))
    ∙ ap (λ xs. xs ++ ready m new) (sym (handed_more m past lane what e))

order_more : (m : Rules) (past : List Entry) (lane : ℕ) (what : What)
    → AreOfFirst m (with_lane lane what ∷ past) → IsInOrder m past → IsInOrder m (with_lane lane what ∷ past)
order_more m past lane (Queue run work key) first before = order_quiet m past lane (Queue run work key) refl before
order_more m past lane (Admit run key fresh job) first before =
    order_quiet m past lane (Admit run key fresh job) refl before
order_more m past lane (Refuse run job) first before = order_quiet m past lane (Refuse run job) refl before
order_more m past lane (Tick moment) first before = order_quiet m past lane (Tick moment) refl before
order_more m past lane (Begin run serial) first before = order_quiet m past lane (Begin run serial) refl before
order_more m past lane (App run call reply) first before = order_quiet m past lane (App run call reply) refl before
order_more m past lane (End run kind status size n1 n2) first before =
    order_quiet m past lane (End run kind status size n1 n2) refl before
order_more m past lane (Take run) first before =
    let answer = first.0.0 in let rest = first.0.1.0 in let is = first.0.1.1 in
    let found : answer_among run (ready m past) ≡ (run, answer) ∷ [] =
    ap (answer_among run) is ∙ first_found run answer rest in
    hand_out m past lane run answer (handed m past) rest before is
    ∙ ap (λ xs. (handed m past ++ xs) ++ ready m (with_lane lane (Take run) ∷ past)) (sym found)
order_more m past lane Stop first before = order_quiet m past lane Stop refl before
order_more m past lane Halt first before = order_quiet m past lane Halt refl before

pub in_order : (m : Rules) (past : List Entry) → AreOfFirst m past → given m past ≡ handed m past ++ ready m past
in_order m [] first = refl
in_order m (entry ∷ past) first = order_more m past entry.lane entry.what first (in_order m past first.1)
