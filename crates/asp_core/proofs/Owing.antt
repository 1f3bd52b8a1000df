-- Which keys the runs that are owed in a right journal are for.
use Rattle.std.proofs.Common.{◌≡◌, ℕ, zero, suc, ◌<◌, ◌≤◌, ◌==◌, ◌&&◌, ◌||◌, Bool, true, false}
use Rattle.std.proofs.Common.{if◌then◌else◌, List, [], ◌∷◌, ◌++◌, drop, filter, is_some, Option, Some, None, refl}
use Rattle.std.proofs.Common.{ap, sym, ◌∙◌, arith}
use Rattle.std.proofs.lemmas.List.Elements.{filter-append}
use Rattle.asp_job.specs.declared.entry.Entry.{Entry}
use Rattle.asp_job.specs.declared.entry.What.{What}
use Rattle.asp_job.specs.declared.entry.What.TheVariants.{Admit, App, Begin, End, Halt, Queue, Refuse, Stop, Take, Tick}
use Rattle.asp_job.specs.declared.job.Work.{Work}
use Rattle.asp_job.specs.declared.job.Work.TheVariants as work
use Rattle.asp_job.specs.declared.session.SessionState.{SessionState}
use Rattle.asp_job.specs.History.{with_lane}
use Rattle.asp_job.specs.Journal.{AreRight, IsRight}
use Rattle.asp_job.specs.Keys.{due_at, is_busy, is_due, is_due_key, is_live, keeps_busy, live, made}
use Rattle.asp_job.specs.Keys.{session_of}
use Rattle.asp_job.specs.Rules.{Rules}
use Rattle.asp_job.specs.Runs.{drawn, is_open, is_stage_unfinished, is_stage_waiting, is_stopping}
use Rattle.asp_job.specs.Runs.{key_of, numbers}
use Rattle.asp_job.specs.Turns.{MayFollow, closing_runs, owed}
use Rattle.asp_journal.proofs.Others.{key_other, stage_other}
use Rattle.asp_core.proofs.Right.{drawn_next}
use Rattle.asp_core.proofs.Rising.{any_more, any_same}

-- ---- what is owed

abbrev AllOf : (ℕ → Type 0) → List ℕ → Type 0
AllOf P [] = Unit {0}
AllOf P (x ∷ xs) = P x × AllOf P xs

all_append : (P : ℕ → Type 0) (xs ys : List ℕ) → AllOf P xs → AllOf P ys → AllOf P (xs ++ ys)
all_append P [] ys a b = b
all_append P (x ∷ xs) ys a b = (a.0, all_append P xs ys a.1 b)

all_if : (P : ℕ → Type 0) (b : Bool) (x : ℕ) → (b ≡ true → P x) → AllOf P (if b then x ∷ [] else [])
all_if P true x h = (h refl, tt)
all_if P false x h = tt

all_passing : (P : ℕ → Type 0) (p : ℕ → Bool) (n : ℕ) → ((k : ℕ) → 0 < k → k ≤ n → p k ≡ true → P k)
    → AllOf P (filter p (numbers n))
all_passing P p zero h = tt
all_passing P p (suc n) h =
    rw (filter-append p (numbers n) (suc n ∷ [])) (all_append P (filter p (numbers n)) (filter p (suc n ∷ []))
    (all_passing P p n (λ k l m. h k l (omega arith)))
    (all_if P (p (suc n)) (suc n) (h (suc n) (omega arith) (omega arith))))

-- a key that was made and is live
pub record IsLiveKey (m : Rules) (past : List Entry) (key : ℕ) : Type 0 where
  pub low : 0 < key
  pub high : key ≤ made past
  pub lives : is_live (session_of m past) past key ≡ true

-- a run for the end of a session is owed to a live key, any other to none
abbrev pub IsOwed : Rules → List Entry → Work → ℕ → Type 0
IsOwed m past work.SessionEnd key = IsLiveKey m past key
IsOwed m past work key = key ≡ 0

abbrev AreOwed : Rules → List Entry → List (Work × ℕ) → Type 0
AreOwed m past [] = Unit {0}
AreOwed m past (first ∷ rest) = IsOwed m past first.0 first.1 × AreOwed m past rest

owed_closing : (m : Rules) (past : List Entry) (keys : List ℕ) → AllOf (IsLiveKey m past) keys
    → AreOwed m past (closing_runs keys)
owed_closing m past [] a = tt
owed_closing m past (k ∷ keys) a = (a.0, owed_closing m past keys a.1)

owed_last : (m : Rules) (past : List Entry) (list : List (Work × ℕ)) → AreOwed m past list
    → AreOwed m past (list ++ (work.Stop, 0) ∷ [])
owed_last m past [] a = (refl, tt)
owed_last m past (first ∷ rest) a = (a.0, owed_last m past rest a.1)

due_lives : (session : Option SessionState) (past : List Entry) (moment k : ℕ) → is_due session past moment k ≡ true
    → (is_some session || is_busy past k) ≡ true
due_lives None past moment k e = absurd cc
due_lives (Some s) past moment k e = refl

owed_due : (m : Rules) (past : List Entry) (stop : Bool) (moment : ℕ) → AreOwed m past (closing_runs
    (if stop then [] else filter (is_due_key (session_of m past) past moment) (numbers (made past))))
owed_due m past true moment = tt
owed_due m past false moment =
    owed_closing m past (filter (is_due_key (session_of m past) past moment) (numbers (made past)))
    (all_passing (IsLiveKey m past) (is_due_key (session_of m past) past moment) (made past) (λ k l h due.
    record { low = l; high = h; lives = due_lives (session_of m past k) past moment k due }))

or_more : (a b c : Bool) → (a || b) ≡ true → (a || (b || c)) ≡ true
or_more true b c e = refl
or_more false true c e = refl
or_more false false c e = absurd cc

abbrev IsGrown : List Entry → List Entry → Type 0
IsGrown past new = (made past ≤ made new)
    × ((k : ℕ) → is_busy past k ≡ true → is_busy new k ≡ true)

or_grown : (s b c : Bool) → (b ≡ true → c ≡ true) → (s || b) ≡ true → (s || c) ≡ true
or_grown true b c h e = refl
or_grown false b c h e = h e

-- a key that is live stays so where sessions stay
owed_stay : (m : Rules) (past new : List Entry) (list : List (Work × ℕ)) → session_of m new ≡ session_of m past
    → IsGrown past new → AreOwed m past list → AreOwed m new list
owed_stay m past new [] e g a = tt
owed_stay m past new (first ∷ rest) e g a = (one first.0 first.1 a.0, owed_stay m past new rest e g a.1)
  where
    one : (work : Work) (key : ℕ) → IsOwed m past work key → IsOwed m new work key
    one work.SessionEnd key is =
        let more = g.0 in let high = is.high in
        record {
          low = is.low;
          high = omega arith;
          lives = ap (λ (f : ℕ → Option SessionState). is_some (f key) || is_busy new key) e
              ∙ or_grown (is_some (session_of m past key)) (is_busy past key) (is_busy new key) (g.1 key) is.lives;
        }
    one work.Start key is = is
    one work.Stop key is = is
    one (work.Page request) key is = is

owed_drop : (m : Rules) (past : List Entry) (list : List (Work × ℕ)) → AreOwed m past list
    → AreOwed m past (drop 1 list)
owed_drop m past [] a = tt
owed_drop m past (first ∷ rest) a = a.1

or_left : (a b : Bool) → a ≡ true → (a || b) ≡ true
or_left true b e = refl
or_left false b e = absurd cc

queue_grows : (m : Rules) (past : List Entry) (lane run : ℕ) (work : Work) (key : ℕ)
    → IsRight m past (with_lane lane (Queue run work key)) → IsGrown past (with_lane lane (Queue run work key) ∷ past)
queue_grows m past lane run work key right =
    let what = Queue run work key in
    let new = with_lane lane what ∷ past in
    let next = drawn_next m past lane what (owed m past) right.turn refl in (
      omega arith,
      λ k busy. any_more (keeps_busy new k) (drawn past) ∙ or_left _ _ (any_same (keeps_busy new k) (keeps_busy past k)
          (drawn past) (λ r l h. let other : (run == r) ≡ false = grind arith in
          ap (λ key. key == k && is_open new r) (key_other past lane r what other)
          ∙ ap (λ stage. key_of past r == k && (is_stage_waiting stage || is_stage_unfinished stage))
          (stage_other past lane r what other)) ∙ busy),
    )

pub owed_are : (m : Rules) (past : List Entry) → AreRight m past → AreOwed m past (owed m past)
owed_are m [] right = (refl, tt)
owed_are m (entry ∷ past) right = one entry.what right.0 (owed_are m past right.1)
  where
    one : (what : What) → IsRight m past (with_lane entry.lane what) → AreOwed m past (owed m past)
        → AreOwed m (with_lane entry.lane what ∷ past) (owed m (with_lane entry.lane what ∷ past))
    one (Queue run work key) here ih =
        owed_stay m past (with_lane entry.lane (Queue run work key) ∷ past) (drop 1 (owed m past)) refl
        (queue_grows m past entry.lane run work key here) (owed_drop m past (owed m past) ih)
    one (Admit run key fresh job) here ih = tt
    one (Refuse run job) here ih = tt
    one (Tick moment) here ih = owed_stay m past (with_lane entry.lane (Tick moment) ∷ past)
        (closing_runs (due_at (session_of m past) past moment)) refl (omega arith, λ k busy. busy)
        (owed_due m past (is_stopping past) moment)
    one (Begin run serial) here ih = tt
    one (App run call reply) here ih = tt
    one (End run kind status size n1 n2) here ih = tt
    one (Take run) here ih = tt
    one Stop here ih = owed_stay m past (with_lane entry.lane Stop ∷ past)
        (closing_runs (live (session_of m past) past) ++ (work.Stop, 0) ∷ []) refl (omega arith, λ k busy. busy)
        (owed_last m past (closing_runs (live (session_of m past) past))
        (owed_closing m past (live (session_of m past) past)
        (all_passing (IsLiveKey m past) (is_live (session_of m past) past) (made past)
        (λ k l h lives. record { low = l; high = h; lives = lives }))))
    one Halt here ih = tt

queued_by : (m : Rules) (past : List Entry) (lane run : ℕ) (work : Work) (key : ℕ) (list : List (Work × ℕ))
    → MayFollow m past list (with_lane lane (Queue run work key)) → AreOwed m past list → IsOwed m past work key
queued_by m past lane run work key [] may a = absurd may
queued_by m past lane run work key (first ∷ rest) may a =
    let is = may.0 in
    let work_is : first.0 ≡ work = cc in
    let key_is : first.1 ≡ key = cc in
    subst2 first.0 work first.1 key work_is key_is a.0
  where
    subst2 : (w v : Work) (j k : ℕ) → w ≡ v → j ≡ k → IsOwed m past w j → IsOwed m past v k
    subst2 w v j k e f o = rw (sym e, sym f) o

-- a run for the end of a session is queued for a live key, any other for none
pub queue_owed : (m : Rules) (past : List Entry) (lane run : ℕ) (work : Work) (key : ℕ) → AreRight m past
    → IsRight m past (with_lane lane (Queue run work key)) → IsOwed m past work key
queue_owed m past lane run work key all right =
    queued_by m past lane run work key (owed m past) right.turn (owed_are m past all)
