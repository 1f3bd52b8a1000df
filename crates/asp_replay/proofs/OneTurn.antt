-- What one turn of a feed is.
use Rattle.std.proofs.Common.{◌≡◌, ℕ, ◌&&◌, ◌||◌, Bool, true, false, is_some, nat_le, nat_lt, List, [], ◌∷◌, length}
use Rattle.std.proofs.Common.{filter}
use Rattle.std.proofs.Common.{refl, sym, ◌∙◌, inl, inr, Option, Result, Ok, Err}
use Rattle.std.proofs.lemmas.Bool.{cases_Bool}
use Rattle.std.specs.Borrow.{Bor}
use Rattle.asp_journal.specs.Telling.{end_kind}
use Rattle.asp_job.specs.declared.entry.Entry.{Entry}
use Rattle.asp_job.specs.declared.entry.TheConstants.{MOST_WAITING}
use Rattle.asp_job.specs.Rules.{Rules}
use Rattle.asp_job.specs.Running.{is_page}
use Rattle.asp_job.specs.Runs.{drawn, is_waiting, job_of, moment_of, numbers}
use Rattle.asp_job.specs.Turns.{waiting_pages}
use Rattle.asp_record.specs.declared.recording.Item.{Item}
use Rattle.asp_replay.specs.declared.stop.FeedStop.{FeedStop}
use Rattle.asp_feed.specs.Feeding.{Clients, is_calm}
use Rattle.asp_replay.specs.Sequential.{may_come}
use Rattle.asp_replay.specs.Underway.{After, AfterTurn, IsHandedBack}
use Rattle.asp_replay.proofs.Current.{calm_waiting}

-- where no number passes a test, none passes that and another
none_of_both : (p q : ℕ → Bool) (xs : List ℕ) → filter p xs ≡ [] → filter (λ n. p n && q n) xs ≡ []
none_of_both p q [] none = refl
none_of_both p q (x ∷ xs) none = elim (cases_Bool (p x)) [
  | inl passes ↦ absurd (let more : filter p (x ∷ xs) ≡ x ∷ filter p xs = rw passes refl in
      let both : x ∷ filter p xs ≡ [] = sym more ∙ none in cc)
  | inr fails ↦ (let skips : filter p (x ∷ xs) ≡ filter p xs = rw fails refl in
      let skips_both : filter (λ n. p n && q n) (x ∷ xs) ≡ filter (λ n. p n && q n) xs = rw fails refl in
      skips_both ∙ none_of_both p q xs (sym skips ∙ none))
]

calm_pages : (past : List Entry) → is_calm past ≡ true → waiting_pages past ≡ []
calm_pages past calm =
    none_of_both (is_waiting past) (λ r. is_page (job_of past r).work) (numbers (drawn past)) (calm_waiting past calm)

few_pages : (pages : List ℕ) → pages ≡ [] → nat_lt (length pages) MOST_WAITING ≡ true
few_pages pages none = rw none refl

may_of : (started early calm few : Bool) → started ≡ true → calm ≡ true → few ≡ true
    → started && (early || calm) && few ≡ true
may_of started true calm few a b c = rw a (rw c refl)
may_of started false calm few a b c = rw a (rw b (rw c refl))

-- where an item may not come, something is under way
pub kept_out_busy : (past : List Entry) (moment : ℕ) → is_some (end_kind past 1) ≡ true
    → may_come past moment ≡ false → is_calm past ≡ false
kept_out_busy past moment started kept = elim (cases_Bool (is_calm past)) [
  | inl calm ↦ absurd (let may : may_come past moment ≡ true = may_of (is_some (end_kind past 1))
      (nat_le moment (moment_of past)) (is_calm past) (nat_lt (length (waiting_pages past)) MOST_WAITING) started calm
      (few_pages (waiting_pages past) (calm_pages past calm)) in
      let both : true ≡ false = sym may ∙ kept in cc)
  | inr busy ↦ busy
]

-- what a turn of the items came to is handed back with the items that are left
pub turn_back : {T : Type 0} → (m : Rules) (all : List Item) (past : List Entry) (clients : Clients)
    (left : Bor (List Item)) (before after : Option (List ℕ)) (came : Result T FeedStop)
    (back : Result (Bor (List Item)) FeedStop) → IsHandedBack left came back
    → After came m all past clients left.now before after → AfterTurn back m all past clients before after
turn_back m all past clients left before after (Ok given) back is holds = rw is holds
turn_back m all past clients left before after (Err ended) back is holds = rw is holds

pub nothing_is : {A : Type 0} → (xs : List A) → length xs ≡ 0 → xs ≡ []
nothing_is [] e = refl
nothing_is (x ∷ xs) e = absurd cc
