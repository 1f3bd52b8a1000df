-- What a hand-out leaves of a right journal.
use Rattle.std.proofs.Common.{◌≡◌, ℕ, zero, suc, ◌+◌, ◌<◌, ◌==◌, ◌⊎◌, nat_eq, nat_lt, Bool, true, false}
use Rattle.std.proofs.Common.{if◌then◌else◌, List, [], ◌∷◌, ◌++◌, length, reverse, get_or, Option, Some, None, IsSome}
use Rattle.std.proofs.Common.{is_some, refl, ap, sym, ◌∙◌, subst, arith, inl, inr}
use Rattle.std.specs.List.{find, position, position_or_len, remove}
use Rattle.std.specs.Map.{lookup, remove_entry}
use Rattle.std.specs.Option.{option_map, option_map_or}
use Rattle.std.proofs.lemmas.Bool.{cases_Bool, eqb-true}
use Rattle.std.proofs.lemmas.List.Quantifiers.{position-Some}
use Rattle.asp_core.specs.Book.{BookView, IsSound, past_in}
use Rattle.asp_core.specs.Kernel.{IsKept, IsWithin}
use Rattle.asp_core.specs.Ready.{IsAnswered, asked_by, collect_stop, ended_stop, first_for, lane_stop, ready}
use Rattle.asp_core.specs.Waits.{AreOnce, HasNone, waits}
use Rattle.asp_core.specs.declared.stop.CollectStop.TheVariants.{Foreign}
use Rattle.asp_job.specs.declared.answer.Fail.{Fail}
use Rattle.asp_app.specs.View.{AppView}
use Rattle.asp_job.specs.History.{with_lane}
use Rattle.asp_job.specs.Journal.{AreRight}
use Rattle.asp_job.specs.Output.{answer_of_run}
use Rattle.asp_job.specs.Rules.{Rules}
use Rattle.asp_job.specs.Running.{is_page}
use Rattle.asp_job.specs.Runs.{asking_lane_of, has_ended, is_taken, job_of}
use Rattle.asp_job.specs.Turns.{IsTake}
use Rattle.asp_job.specs.declared.answer.Answer.{Answer}
use Rattle.asp_job.specs.declared.entry.Entry.{Entry}
use Rattle.asp_job.specs.declared.entry.What.TheVariants.{Take}
use Rattle.asp_session.specs.Account.{Account}
use Rattle.asp_journal.proofs.Others.{own_number}
use Rattle.asp_journal.proofs.Past.{past_push}
use Rattle.asp_core.proofs.Answering.{are_those, its_answer}
use Rattle.asp_core.proofs.Jobs.{page_asked}
use Rattle.asp_core.proofs.Kept.{may_follow}

-- ---- the place of a run's answer

found_at : (run : ℕ) (answers : List (ℕ × Answer)) (at : ℕ) (d : ℕ × Answer) → at < length answers
    → (run == (get_or answers at d).0) ≡ true → ((k : ℕ) → k < at → (run == (get_or answers k d).0) ≡ false)
    → (lookup (nat_eq run) answers ≡ Some (get_or answers at d).1)
    × (remove_entry (nat_eq run) answers ≡ remove answers at)
found_at run [] at d l own before = absurd (omega arith)
found_at run (x ∷ xs) zero d l own before = (rw own refl, rw own refl)
found_at run (x ∷ xs) (suc at) d l own before =
    let first : (run == x.0) ≡ false = before 0 (omega arith) in
    let rest = found_at run xs at d (omega arith) own (λ k less. before (suc k) (omega arith)) in
    (rw first rest.0, rw first (ap (λ l. x ∷ l) rest.1))

pub place_some : (run : ℕ) (answers : List (ℕ × Answer)) (at : ℕ) (d : ℕ × Answer) → position (λ ready. run == ready.0)
    answers ≡ Some at → (at < length answers) × (lookup (nat_eq run) answers ≡ Some (get_or answers at d).1)
    × (remove_entry (nat_eq run) answers ≡ remove answers at)
place_some run answers at d e =
    let facts = position-Some (λ (ready : ℕ × Answer). run == ready.0) answers at d e in
    let found = found_at run answers at d facts.0 facts.1 facts.2 in
    (facts.0, found.0, found.1)

none_if : (b : Bool) (n : ℕ) → (if b then Some n else None) ≡ None → b ≡ false
none_if true n e = absurd cc
none_if false n e = refl

first_lt : (n : ℕ) → nat_lt 0 (suc n) ≡ true
first_lt n = grind arith

lt_less : (n k : ℕ) → nat_lt (1 + n) (suc k) ≡ false → nat_lt n k ≡ false
lt_less n k e = grind arith

pub place_none : (run : ℕ) (answers : List (ℕ × Answer)) → position (λ ready. run == ready.0) answers ≡ None
    → lookup (nat_eq run) answers ≡ None
place_none run [] e = refl
place_none run (x ∷ xs) e = elim (cases_Bool (run == x.0)) [
  | inl own ↦ absurd (let some : position (λ (ready : ℕ × Answer). run == ready.0) (x ∷ xs) ≡ Some 0 =
      rw (own, first_lt (length xs)) refl in cc)
  | inr other ↦ (let n = position_or_len (λ (ready : ℕ × Answer). run == ready.0) xs in
      let test : nat_lt (1 + n) (suc (length xs)) ≡ false = none_if (nat_lt (1 + n) (suc (length xs))) (1 + n)
      (rw other at e) in
      let none : position (λ (ready : ℕ × Answer). run == ready.0) xs ≡ None = ap (λ b. if b then Some n else None)
      (lt_less n (length xs) test) in
      rw other (place_none run xs none))
]

-- ---- the answer that is handed out

-- the answer of the run waits for the lane
pub record CanTake (m : Rules) (past : List Entry) (lane run : ℕ) : Type 0 where
  pub is_take : IsTake past lane run
  pub found : lookup (nat_eq run) (ready m past) ≡ answer_of_run m past run
  pub some : IsSome (lookup (nat_eq run) (ready m past))

ended_none : (ended page taken : Bool) → ended_stop ended page taken ≡ None → (ended ≡ true) × (page ≡ true)
    × (taken ≡ false)
ended_none false page taken e = absurd cc
ended_none true false taken e = absurd cc
ended_none true true true e = absurd cc
ended_none true true false e = (refl, refl, refl)

lane_none : (lane : ℕ) (asking : Option ℕ) (ended page taken : Bool) → lane_stop lane asking ended page taken ≡ None
    → ((ended ≡ true) × (page ≡ true) × (taken ≡ false)) × ((asking ≡ None) ⊎ (asking ≡ Some lane))
lane_none lane None ended page taken e = (ended_none ended page taken e, inl refl)
lane_none lane (Some asking) ended page taken e = elim (cases_Bool (asking == lane)) [
  | inl own ↦ (let none : ended_stop ended page taken ≡ None = rw own at e in
      (ended_none ended page taken none, inr (ap (λ n. Some n) (eqb-true asking lane own))))
  | inr other ↦ absurd (let some : Some (Foreign asking) ≡ None = rw other at e in cc)
]

waits_of : (m : Rules) (past : List Entry) (run : ℕ) → AreRight m past → has_ended past run ≡ true → is_taken past run
    ≡ false → lookup (nat_eq run) (ready m past) ≡ answer_of_run m past run
waits_of m past run right ended taken =
    (are_those m past right).found run ∙ ap (λ b. waits b (is_taken past run) (answer_of_run m past run)) ended
    ∙ ap (λ b. waits true b (answer_of_run m past run)) taken

asked_lane : (past : List Entry) (lane run : ℕ) (asking : Option ℕ) → (asking ≡ None) ⊎ (asking ≡ Some lane)
    → IsSome asking → asking ≡ Some lane
asked_lane past lane run asking (inl none) some = absurd (let no : false ≡ true = sym (ap is_some none) ∙ some in cc)
asked_lane past lane run asking (inr is) some = is

pub can_take : (m : Rules) (past : List Entry) (lane run : ℕ) → AreRight m past → IsAnswered m past
    → collect_stop past lane run ≡ None → CanTake m past lane run
can_take m past lane run right answered e =
    let all = lane_none lane (asking_lane_of past run) (has_ended past run) (is_page (job_of past run).work)
    (is_taken past run) e in
    let ended = all.0.0 in
    let page = all.0.1 in
    let taken = all.0.2 in
    let asked = asked_lane past lane run (asking_lane_of past run) all.1 (page_asked m past right run page) in
    let found = waits_of m past run right ended taken in
    let has : is_some (answer_of_run m past run) ≡ true = its_answer m past right answered run ended ∙ page in
    record {
      is_take = record { ended = ended; page = page; asked_by = asked; kept = taken };
      found = found;
      some = ap is_some found ∙ has;
    }

-- ---- the first answer for a lane

waits_some : (ended taken : Bool) (answer : Option Answer) (given : Answer) → waits ended taken answer ≡ Some given
    → (ended ≡ true) × (taken ≡ false) × (answer ≡ Some given)
waits_some false taken answer given e = absurd cc
waits_some true true answer given e = absurd cc
waits_some true false answer given e = (refl, refl, e)

find_is : (p : ℕ × Answer → Bool) (answers : List (ℕ × Answer)) (given : ℕ × Answer) → AreOnce answers → find p answers
    ≡ Some given → (p given ≡ true) × (lookup (nat_eq given.0) answers ≡ Some given.1)
find_is p [] given once e = absurd cc
find_is p (first ∷ rest) given once e = elim (cases_Bool (p first)) [
  | inl own ↦ (let is : Some first ≡ Some given = rw own at e in
      let same : first ≡ given = cc in
      let number : (given.0 == first.0) ≡ true = ap (λ (x : ℕ × Answer). x.0 == first.0) (sym same)
      ∙ own_number first.0 in
      (ap p (sym same) ∙ own, rw number (ap (λ (x : ℕ × Answer). Some x.1) same)))
  | inr other ↦ (let behind : find p rest ≡ Some given = rw other at e in
      let ih = find_is p rest given once.1 behind in
      elim (cases_Bool (given.0 == first.0)) [
        | inl own ↦ absurd (let none : lookup (nat_eq given.0) rest ≡ None = subst (λ k. HasNone k rest)
            (sym (eqb-true given.0 first.0 own)) once.0 in let some = ih.1 in cc)
        | inr apart ↦ (ih.0, rw apart ih.1)
      ])
]

asked_is : (asking : Option ℕ) (lane : ℕ) → option_map_or (λ k. k == lane) asking false ≡ true → asking ≡ Some lane
asked_is None lane e = absurd cc
asked_is (Some k) lane e = ap (λ n. Some n) (eqb-true k lane e)

pub can_take_first : (m : Rules) (past : List Entry) (lane : ℕ) (given : ℕ × Answer) → AreRight m past
    → IsAnswered m past → first_for past lane (ready m past) ≡ Some given → CanTake m past lane given.0
    × (lookup (nat_eq given.0) (ready m past) ≡ Some given.1)
can_take_first m past lane given right answered e =
    let those = are_those m past right in
    let run = given.0 in
    let is = find_is (λ (one : ℕ × Answer). asked_by past lane one.0) (ready m past) given those.once e in
    let facts = waits_some (has_ended past run) (is_taken past run) (answer_of_run m past run) given.1
    (sym (those.found run) ∙ is.1) in
    let page : is_page (job_of past run).work ≡ true = sym (its_answer m past right answered run facts.0)
    ∙ ap is_some facts.2 in (
      record {
        is_take = record {
          ended = facts.0;
          page = page;
          asked_by = asked_is (asking_lane_of past run) lane is.0;
          kept = facts.1;
        };
        found = is.1 ∙ sym facts.2;
        some = ap is_some is.1;
      },
      is.1,
    )

first_given : (found : Option (ℕ × Answer)) (run : ℕ) → option_map (λ (one : ℕ × Answer). one.0) found ≡ Some run
    → (given : ℕ × Answer) × (found ≡ Some given) × (given.0 ≡ run)
first_given None run e = absurd cc
first_given (Some given) run e = (given, refl, cc)

-- the run is that of the first answer that waits for the lane
abbrev pub IsFirst : List Entry → ℕ → List (ℕ × Answer) → ℕ → Type 0
IsFirst past lane answers run = option_map (λ (one : ℕ × Answer). one.0) (first_for past lane answers) ≡ Some run

pub can_take_run : (m : Rules) (past : List Entry) (lane run : ℕ) (answers : List (ℕ × Answer)) → AreRight m past
    → IsAnswered m past → answers ≡ ready m past → IsFirst past lane answers run → CanTake m past lane run
can_take_run m past lane run answers right answered is e =
    let before = subst (λ list. IsFirst past lane list run) is e in
    let first = first_given (first_for past lane (ready m past)) run before in
    subst (CanTake m past lane) first.2 (can_take_first m past lane first.0 right answered first.1).0

pair_is : (run : ℕ) (answer : Answer) (given : ℕ × Answer) → given.0 ≡ run → Some given.1 ≡ Some answer
    → Some given ≡ Some (run, answer)
pair_is run answer given e f =
    let same : given.1 ≡ answer = cc in
    ap (λ k. Some (k, given.1)) e ∙ ap (λ one. Some (run, one)) same

-- and that answer is handed out
pub first_is : (m : Rules) (past : List Entry) (lane run : ℕ) (answer : Answer) (answers : List (ℕ × Answer))
    → AreRight m past → IsAnswered m past → answers ≡ ready m past → IsFirst past lane answers run
    → lookup (nat_eq run) answers ≡ Some answer → Some (run, answer) ≡ first_for past lane (ready m past)
first_is m past lane run answer answers right answered is e found =
    let before = subst (λ list. IsFirst past lane list run) is e in
    let first = first_given (first_for past lane (ready m past)) run before in
    let has = (can_take_first m past lane first.0 right answered first.1).1 in
    let same = sym has ∙ ap (λ k. lookup (nat_eq k) (ready m past)) first.2
    ∙ ap (lookup (nat_eq run)) (sym is) ∙ found in
    sym (first.1 ∙ pair_is run answer first.0 first.2 same)

-- ---- the journal

kept_take : (m : Rules) (past : List Entry) (account : Account) (held : AppView)
    (answers : List (ℕ × Answer)) (lane run : ℕ) → IsKept m past account held answers → IsTake past lane run
    → IsKept m (with_lane lane (Take run) ∷ past) account held (remove_entry (nat_eq run) answers)
kept_take m past account held answers lane run kept is =
    let entry = with_lane lane (Take run) in
    record {
      sessions = record {
        journal = record {
          entries = (
            record { turn = may_follow m past entry kept.sessions.journal.settled is; legal = tt; follows = tt },
            kept.sessions.journal.entries,
          );
          settled = refl;
        };
        account_is = kept.sessions.account_is;
      };
      held_is = kept.held_is;
      answers_are = ap (remove_entry (nat_eq run)) kept.answers_are;
      answered = (tt, kept.answered);
      formed = (tt, kept.formed);
    }

-- a journal with a hand-out is kept
pub sound_take : (m : Rules) (old new : BookView) (account : Account) (held : AppView) (fail : Option Fail)
    (lane run : ℕ) → IsSound m (past_in old) account held old.answers fail → CanTake m (past_in old) lane run
    → new.items ≡ old.items ++ with_lane lane (Take run) ∷ [] → new.answers ≡ remove_entry (nat_eq run) old.answers
    → IsSound m (past_in new) account held new.answers fail
sound_take m old new account held fail lane run sound can e taken =
    let past = past_in old in
    let entry = with_lane lane (Take run) in
    let of : past_in new ≡ entry ∷ past = ap reverse e ∙ past_push old.items entry in
    let few = sound.1.few in
    let light = sound.1.light in
    let within : IsWithin (entry ∷ past) = record { few = omega arith; light = omega arith } in
    rw (of, taken) (kept_take m past account held old.answers lane run sound.0 can.is_take, within, sound.2)
