-- The session of a key, and what its runs were told, are in the entries of its runs alone.
use Rattle.std.proofs.Common.{◌≡◌, ◌≢◌, ℕ, ◌==◌, ◌&&◌, ◌⊎◌, true, false, not, if◌then◌else◌, List, [], ◌∷◌, ◌++◌}
use Rattle.std.proofs.Common.{Option, Some, None, unwrap_or, refl, ap, sym, ◌∙◌, subst, append-nil, arith, inl, inr}
use Rattle.std.proofs.lemmas.Bool.{cases_Bool, eqb-true, eq-eqb}
use Rattle.asp_job.specs.declared.entry.EndKind.{EndKind}
use Rattle.asp_job.specs.declared.entry.EndKind.TheVariants as kind
use Rattle.asp_job.specs.declared.entry.Entry.{Entry}
use Rattle.asp_job.specs.declared.entry.Stage.{Stage}
use Rattle.asp_job.specs.declared.entry.Stage.TheVariants.{Ended, Undrawn, Unfinished, Waiting}
use Rattle.asp_job.specs.declared.entry.What.{What}
use Rattle.asp_job.specs.declared.entry.What.TheVariants.{Admit, App, Begin, End, Halt, Queue, Refuse, Stop, Take}
use Rattle.asp_job.specs.declared.entry.What.TheVariants.{Tick}
use Rattle.asp_job.specs.declared.session.SessionState.{SessionState}
use Rattle.asp_job.specs.History.{run_in, with_lane}
use Rattle.asp_job.specs.Journal.{AreRight, IsRight}
use Rattle.asp_job.specs.Keys.{began_with, given, session_left, session_of, told}
use Rattle.asp_job.specs.Rules.{Rules}
use Rattle.asp_job.specs.Runs.{draw_of, draws, key_of, replies_of, reply_in, stage_of}
use Rattle.asp_job.specs.Told.{Told}
use Rattle.asp_job.specs.Turns.{owed}
use Rattle.core_laws.specs.Alone.{alone}
use Rattle.asp_journal.proofs.Others.{key_other, stage_other}
use Rattle.asp_core.proofs.Others.{began_other, draw_other, replies_other}
use Rattle.asp_core.proofs.Right.{call_running, drawn_next, next_undrawn, unfinished_is}
use Rattle.asp_core.proofs.Staying.{unequal}

-- a run was drawn, began and was replied to the same in two pasts
record IsSame (m : Rules) (one other : List Entry) (r : ℕ) : Type 0 where
  draw : draw_of one r ≡ draw_of other r
  began : began_with m one r ≡ began_with m other r
  replies : replies_of one r ≡ replies_of other r

same_told : (m : Rules) (one other : List Entry) (r : ℕ) → IsSame m one other r → told m one r ≡ told m other r
same_told m one other r same =
    let draw = same.draw in let began = same.began in let replies = same.replies in
    cc

-- the run is one of the key, or was not drawn
abbrev IsOfKey : List Entry → ℕ → ℕ → Type 0
IsOfKey past k r = (key_of past r ≡ k) ⊎ (stage_of past r ≡ Undrawn)

-- ---- what is the same of two pasts

record AreAlike (m : Rules) (past own : List Entry) (k : ℕ) : Type 0 where
  runs : (r : ℕ) → IsOfKey past k r → IsSame m past own r
  session : session_of m past k ≡ session_of m own k

-- an entry about another run, on one side and on both
one_apart : (m : Rules) (past own : List Entry) (lane : ℕ) (what : What) (r : ℕ) → (run_in what == r) ≡ false
    → IsSame m past own r → IsSame m (with_lane lane what ∷ past) own r
one_apart m past own lane what r apart same = record {
  draw = draw_other past lane r what apart ∙ same.draw;
  began = began_other m past lane r what apart ∙ same.began;
  replies = replies_other past lane r what apart ∙ same.replies;
}

both_apart : (m : Rules) (past own : List Entry) (lane : ℕ) (what : What) (r : ℕ) → (run_in what == r) ≡ false
    → IsSame m past own r → IsSame m (with_lane lane what ∷ past) (with_lane lane what ∷ own) r
both_apart m past own lane what r apart same = record {
  draw = draw_other past lane r what apart ∙ same.draw ∙ sym (draw_other own lane r what apart);
  began = began_other m past lane r what apart ∙ same.began ∙ sym (began_other m own lane r what apart);
  replies = replies_other past lane r what apart ∙ same.replies ∙ sym (replies_other own lane r what apart);
}

-- another run is still one of the key
of_key_other : (past : List Entry) (lane k : ℕ) (what : What) (r : ℕ) → (run_in what == r) ≡ false
    → IsOfKey (with_lane lane what ∷ past) k r → IsOfKey past k r
of_key_other past lane k what r apart (inl key) = inl (sym (key_other past lane r what apart) ∙ key)
of_key_other past lane k what r apart (inr stage) = inr (sym (stage_other past lane r what apart) ∙ stage)

-- ---- the entry's own run

fresh_run : (m : Rules) (past : List Entry) (lane : ℕ) (what : What) (r : ℕ) → AreRight m past
    → draws what ≡ true → IsRight m past (with_lane lane what) → run_in what ≡ r → stage_of past r ≡ Undrawn
fresh_run m past lane what r all drawn_one one e =
    let next = drawn_next m past lane what (owed m past) one.turn drawn_one in
    next_undrawn m past all r (omega arith)

-- a run begins with the session of its key
began_both : (m : Rules) (past own : List Entry) (lane run serial r k : ℕ) → AreAlike m past own k → run ≡ r
    → key_of past r ≡ k
    → began_with m (with_lane lane (Begin run serial) ∷ past) r
    ≡ began_with m (with_lane lane (Begin run serial) ∷ own) r
began_both m past own lane run serial r k alike e keyed =
    let is = eq-eqb run r e in
    let mine : key_of past run ≡ k = ap (key_of past) e ∙ keyed in
    let same = alike.runs run (inl mine) in
    let draw = same.draw in
    let key : key_of past run ≡ key_of own run = ap (λ d. d.key) draw in
    let session : session_of m past (key_of past run) ≡ session_of m own (key_of own run) =
    ap (session_of m past) mine ∙ alike.session ∙ ap (session_of m own) (sym mine ∙ key) in
    let begins : given (draw_of past run) (session_of m past (key_of past run)) serial
    ≡ given (draw_of own run) (session_of m own (key_of own run)) serial = cc in
    rw is begins

own_both : (m : Rules) (past own : List Entry) (lane : ℕ) (what : What) (r k : ℕ) → AreRight m past
    → IsRight m past (with_lane lane what) → AreAlike m past own k → run_in what ≡ r
    → key_of (with_lane lane what ∷ past) r ≡ k → IsSame m (with_lane lane what ∷ past) (with_lane lane what ∷ own) r
own_both m past own lane (Queue run work key) r k all one alike e keyed =
    let same = alike.runs r (inr (fresh_run m past lane (Queue run work key) r all refl one e)) in
    let is = eq-eqb run r e in
    record { draw = rw is refl; began = same.began; replies = ap (λ xs. xs ++ []) same.replies }
own_both m past own lane (Admit run key fresh job) r k all one alike e keyed =
    let same = alike.runs r (inr (fresh_run m past lane (Admit run key fresh job) r all refl one e)) in
    let is = eq-eqb run r e in
    record { draw = rw is refl; began = same.began; replies = ap (λ xs. xs ++ []) same.replies }
own_both m past own lane (Refuse run job) r k all one alike e keyed =
    let same = alike.runs r (inr (fresh_run m past lane (Refuse run job) r all refl one e)) in
    let is = eq-eqb run r e in
    record { draw = rw is refl; began = same.began; replies = ap (λ xs. xs ++ []) same.replies }
own_both m past own lane (Tick moment) r k all one alike e keyed =
    let same = alike.runs r (inl keyed) in
    record { draw = same.draw; began = same.began; replies = ap (λ xs. xs ++ []) same.replies }
own_both m past own lane (Begin run serial) r k all one alike e keyed =
    let same = alike.runs r (inl keyed) in
    record {
      draw = same.draw;
      began = began_both m past own lane run serial r k alike e keyed;
      replies = ap (λ xs. xs ++ []) same.replies;
    }
own_both m past own lane (App run call reply) r k all one alike e keyed =
    let same = alike.runs r (inl keyed) in
    let heard = reply_in r (App run call reply) in
    record { draw = same.draw; began = same.began; replies = ap (λ xs. xs ++ heard) same.replies }
own_both m past own lane (End run kind status size n1 n2) r k all one alike e keyed =
    let same = alike.runs r (inl keyed) in
    record { draw = same.draw; began = same.began; replies = ap (λ xs. xs ++ []) same.replies }
own_both m past own lane (Take run) r k all one alike e keyed =
    let same = alike.runs r (inl keyed) in
    record { draw = same.draw; began = same.began; replies = ap (λ xs. xs ++ []) same.replies }
own_both m past own lane Stop r k all one alike e keyed =
    let same = alike.runs r (inl keyed) in
    record { draw = same.draw; began = same.began; replies = ap (λ xs. xs ++ []) same.replies }
own_both m past own lane Halt r k all one alike e keyed =
    let same = alike.runs r (inl keyed) in
    record { draw = same.draw; began = same.began; replies = ap (λ xs. xs ++ []) same.replies }

-- a stage that an entry gives to its own run
staged : (run r : ℕ) (given before : Stage) → run ≡ r
    → unwrap_or (if run == r then Some given else None) before ≡ given
staged run r given before e = let own = eq-eqb run r e in rw own refl

quiet_one : (m : Rules) (past own : List Entry) (lane : ℕ) (what : What) (r : ℕ) → IsSame m past own r
    → draw_of (with_lane lane what ∷ past) r ≡ draw_of past r
    → began_with m (with_lane lane what ∷ past) r ≡ began_with m past r
    → replies_of (with_lane lane what ∷ past) r ≡ replies_of past r → IsSame m (with_lane lane what ∷ past) own r
quiet_one m past own lane what r same draw began replies =
    record { draw = draw ∙ same.draw; began = began ∙ same.began; replies = replies ∙ same.replies }

-- a run that is not drawn stays so by entries about none
own_one : (m : Rules) (past own : List Entry) (lane : ℕ) (what : What) (r k : ℕ) → AreRight m past
    → IsRight m past (with_lane lane what) → AreAlike m past own k → run_in what ≡ r
    → stage_of (with_lane lane what ∷ past) r ≡ Undrawn → IsSame m (with_lane lane what ∷ past) own r
own_one m past own lane (Queue run work key) r k all one alike e stage =
    absurd (let is = staged run r Waiting (stage_of past r) e in cc)
own_one m past own lane (Admit run key fresh job) r k all one alike e stage =
    absurd (let is = staged run r Waiting (stage_of past r) e in cc)
own_one m past own lane (Refuse run job) r k all one alike e stage =
    absurd (let is = staged run r Ended (stage_of past r) e in cc)
own_one m past own lane (Tick moment) r k all one alike e stage =
    quiet_one m past own lane (Tick moment) r (alike.runs r (inr stage)) refl refl (append-nil (replies_of past r))
own_one m past own lane (Begin run serial) r k all one alike e stage =
    absurd (let is = staged run r Unfinished (stage_of past r) e in cc)
own_one m past own lane (App run call reply) r k all one alike e stage =
    absurd (let running = call_running m past lane run call reply (owed m past) one.turn in
    let busy : stage_of past r ≡ Unfinished =
    ap (stage_of past) (sym e) ∙ unfinished_is (stage_of past run) running.unfinished in cc)
own_one m past own lane (End run kind status size n1 n2) r k all one alike e stage =
    absurd (let is = staged run r Ended (stage_of past r) e in cc)
own_one m past own lane (Take run) r k all one alike e stage =
    quiet_one m past own lane (Take run) r (alike.runs r (inr stage)) refl refl (append-nil (replies_of past r))
own_one m past own lane Stop r k all one alike e stage =
    quiet_one m past own lane Stop r (alike.runs r (inr stage)) refl refl (append-nil (replies_of past r))
own_one m past own lane Halt r k all one alike e stage =
    quiet_one m past own lane Halt r (alike.runs r (inr stage)) refl refl (append-nil (replies_of past r))

-- ---- the session

-- the session of a key after an End of a run of another key, or of one of its own
abbrev after_end : Rules → ℕ → ℕ → Told → Option SessionState → Option SessionState
after_end m key k t before = if key == k && not (k == 0) then session_left (m.meaning.does t) else before

other_end : (m : Rules) (key k : ℕ) (t : Told) (before : Option SessionState) → (key == k) ≡ false
    → after_end m key k t before ≡ before
other_end m key k t before e = rw e refl

ends_both : (m : Rules) (past own : List Entry) (run k : ℕ) → AreAlike m past own k → key_of past run ≡ k
    → after_end m (key_of past run) k (told m past run) (session_of m past k)
    ≡ after_end m (key_of own run) k (told m own run) (session_of m own k)
ends_both m past own run k alike mine =
    let same = alike.runs run (inl mine) in
    let draw = same.draw in
    let key : key_of past run ≡ key_of own run = ap (λ d. d.key) draw in
    ap (λ x. after_end m x k (told m past run) (session_of m past k)) key
    ∙ ap (λ t. after_end m (key_of own run) k t (session_of m past k)) (same_told m past own run same)
    ∙ ap (after_end m (key_of own run) k (told m own run)) alike.session

session_end_both : (m : Rules) (past own : List Entry) (lane run : ℕ) (kind : EndKind) (status size n1 n2 k : ℕ)
    → AreAlike m past own k → key_of past run ≡ k
    → session_of m (with_lane lane (End run kind status size n1 n2) ∷ past) k
    ≡ session_of m (with_lane lane (End run kind status size n1 n2) ∷ own) k
session_end_both m past own lane run kind.Done status size n1 n2 k alike mine = ends_both m past own run k alike mine
session_end_both m past own lane run kind.Memory status size n1 n2 k alike mine = alike.session
session_end_both m past own lane run kind.JournalFull status size n1 n2 k alike mine = alike.session

session_end_one : (m : Rules) (past own : List Entry) (lane run : ℕ) (kind : EndKind) (status size n1 n2 k : ℕ)
    → AreAlike m past own k → (key_of past run == k) ≡ false
    → session_of m (with_lane lane (End run kind status size n1 n2) ∷ past) k ≡ session_of m own k
session_end_one m past own lane run kind.Done status size n1 n2 k alike other =
    other_end m (key_of past run) k (told m past run) (session_of m past k) other ∙ alike.session
session_end_one m past own lane run kind.Memory status size n1 n2 k alike other = alike.session
session_end_one m past own lane run kind.JournalFull status size n1 n2 k alike other = alike.session

session_both : (m : Rules) (past own : List Entry) (lane : ℕ) (what : What) (k : ℕ) → AreAlike m past own k
    → key_of (with_lane lane what ∷ past) (run_in what) ≡ k
    → session_of m (with_lane lane what ∷ past) k ≡ session_of m (with_lane lane what ∷ own) k
session_both m past own lane (Queue run work key) k alike mine = alike.session
session_both m past own lane (Admit run key fresh job) k alike mine = alike.session
session_both m past own lane (Refuse run job) k alike mine = alike.session
session_both m past own lane (Tick moment) k alike mine = alike.session
session_both m past own lane (Begin run serial) k alike mine = alike.session
session_both m past own lane (App run call reply) k alike mine = alike.session
session_both m past own lane (End run kind status size n1 n2) k alike mine =
    session_end_both m past own lane run kind status size n1 n2 k alike mine
session_both m past own lane (Take run) k alike mine = alike.session
session_both m past own lane Stop k alike mine = alike.session
session_both m past own lane Halt k alike mine = alike.session

session_one : (m : Rules) (past own : List Entry) (lane : ℕ) (what : What) (k : ℕ) → AreAlike m past own k
    → (key_of (with_lane lane what ∷ past) (run_in what) == k) ≡ false
    → session_of m (with_lane lane what ∷ past) k ≡ session_of m own k
session_one m past own lane (Queue run work key) k alike other = alike.session
session_one m past own lane (Admit run key fresh job) k alike other = alike.session
session_one m past own lane (Refuse run job) k alike other = alike.session
session_one m past own lane (Tick moment) k alike other = alike.session
session_one m past own lane (Begin run serial) k alike other = alike.session
session_one m past own lane (App run call reply) k alike other = alike.session
session_one m past own lane (End run kind status size n1 n2) k alike other =
    session_end_one m past own lane run kind status size n1 n2 k alike other
session_one m past own lane (Take run) k alike other = alike.session
session_one m past own lane Stop k alike other = alike.session
session_one m past own lane Halt k alike other = alike.session

-- ---- one more entry

-- the runs where the entry is one of the key's
runs_both : (m : Rules) (past own : List Entry) (lane : ℕ) (what : What) (k : ℕ) → AreRight m past
    → IsRight m past (with_lane lane what) → AreAlike m past own k
    → key_of (with_lane lane what ∷ past) (run_in what) ≡ k → (r : ℕ) → IsOfKey (with_lane lane what ∷ past) k r
    → IsSame m (with_lane lane what ∷ past) (with_lane lane what ∷ own) r
runs_both m past own lane what k all one alike mine r of = elim (cases_Bool (run_in what == r)) [
  | inl own_run ↦ (let is : run_in what ≡ r = eqb-true (run_in what) r own_run in
      own_both m past own lane what r k all one alike is
      (ap (key_of (with_lane lane what ∷ past)) (sym is) ∙ mine))
  | inr apart ↦ both_apart m past own lane what r apart (alike.runs r (of_key_other past lane k what r apart of))
]

key_apart : (a b k : ℕ) → (a == k) ≡ false → a ≡ b → b ≡ k → ⊥
key_apart a b k e f g = let same : a ≡ k = f ∙ g in let own : (a == k) ≡ true = eq-eqb a k same in
    let both : true ≡ false = sym own ∙ e in cc

-- the runs where it is not
runs_one : (m : Rules) (past own : List Entry) (lane : ℕ) (what : What) (k : ℕ) → AreRight m past
    → IsRight m past (with_lane lane what) → AreAlike m past own k
    → (key_of (with_lane lane what ∷ past) (run_in what) == k) ≡ false → (r : ℕ)
    → IsOfKey (with_lane lane what ∷ past) k r → IsSame m (with_lane lane what ∷ past) own r
runs_one m past own lane what k all one alike other r of = elim (cases_Bool (run_in what == r)) [
  | inl own_run ↦ (let is : run_in what ≡ r = eqb-true (run_in what) r own_run in
      let new = with_lane lane what ∷ past in
      elim of [
        | inl key ↦ absurd (key_apart (key_of new (run_in what)) (key_of new r) k other (ap (key_of new) is) key)
        | inr stage ↦ own_one m past own lane what r k all one alike is stage
      ])
  | inr apart ↦ one_apart m past own lane what r apart (alike.runs r (of_key_other past lane k what r apart of))
]

alike_more : (m : Rules) (past own : List Entry) (entry : Entry) (k : ℕ) → AreRight m (entry ∷ past)
    → AreAlike m past own k
    → AreAlike m (entry ∷ past) (if key_of (entry ∷ past) (run_in entry.what) == k then entry ∷ own else own) k
alike_more m past own entry k right alike = elim (cases_Bool (key_of (entry ∷ past) (run_in entry.what) == k)) [
  | inl mine ↦ (let is = eqb-true (key_of (entry ∷ past) (run_in entry.what)) k mine in
      let kept : (if key_of (entry ∷ past) (run_in entry.what) == k then entry ∷ own else own) ≡ entry ∷ own =
      rw mine refl in
      subst (λ xs. AreAlike m (entry ∷ past) xs k) (sym kept) (record {
        runs = runs_both m past own entry.lane entry.what k right.1 right.0 alike is;
        session = session_both m past own entry.lane entry.what k alike is;
      }))
  | inr other ↦ (let left : (if key_of (entry ∷ past) (run_in entry.what) == k then entry ∷ own else own) ≡ own =
      rw other refl in
      subst (λ xs. AreAlike m (entry ∷ past) xs k) (sym left) (record {
        runs = runs_one m past own entry.lane entry.what k right.1 right.0 alike other;
        session = session_one m past own entry.lane entry.what k alike other;
      }))
]

alike : (m : Rules) (past : List Entry) (k : ℕ) → AreRight m past → AreAlike m past (alone past k) k
alike m [] k right = record { runs = λ r of. record { draw = refl; began = refl; replies = refl }; session = refl }
alike m (entry ∷ past) k right = alike_more m past (alone past k) entry k right (alike m past k right.1)

-- an entry of another key is left out
pub left_out : (past : List Entry) (entry : Entry) (k : ℕ) → key_of (entry ∷ past) (run_in entry.what) ≢ k
    → alone (entry ∷ past) k ≡ alone past k
left_out past entry k apart = let other = unequal (key_of (entry ∷ past) (run_in entry.what)) k apart in rw other refl

pub session_alone : (m : Rules) (past : List Entry) (k : ℕ) → AreRight m past
    → session_of m past k ≡ session_of m (alone past k) k
session_alone m past k right = (alike m past k right).session

pub told_alone : (m : Rules) (past : List Entry) (run : ℕ) → AreRight m past
    → told m past run ≡ told m (alone past (key_of past run)) run
told_alone m past run right =
    let k = key_of past run in
    same_told m past (alone past k) run ((alike m past k right).runs run (inl refl))
