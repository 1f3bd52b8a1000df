-- What the entries of runs, and hand-outs, leave of a journal.
use Rattle.std.proofs.Common.{◌≡◌, ℕ, zero, suc, ◌≤◌, ◌==◌, ◌&&◌, ◌||◌, Bool, true, false, nat_le, nat_lt}
use Rattle.std.proofs.Common.{List, [], ◌∷◌, ◌++◌, filter, length, is_some, Some, None, Option, refl, ap, sym, ◌∙◌, subst, arith}
use Rattle.std.proofs.Common.{inl, inr, length-append}
use Rattle.std.specs.Option.{option_or}
use Rattle.std.proofs.lemmas.Bool.{cases_Bool}
use Rattle.std.proofs.lemmas.List.Elements.{filter-append}
use Rattle.asp_core.proofs.Right.{begin_right, call_running, end_running, may_begin_waits}
use Rattle.asp_core.specs.Laws.{NoneIs}
use Rattle.asp_desk.specs.Calls.{AreWork, IsWork}
use Rattle.asp_job.specs.declared.entry.EndKind.{EndKind}
use Rattle.asp_job.specs.declared.entry.Entry.{Entry}
use Rattle.asp_job.specs.declared.entry.Stage.TheVariants.{Waiting}
use Rattle.asp_job.specs.declared.entry.TheConstants.{MOST_WAITING}
use Rattle.asp_job.specs.declared.entry.What.{What}
use Rattle.asp_job.specs.declared.entry.What.TheVariants.{Admit, App, Begin, End, Halt, Queue, Refuse, Stop, Take, Tick}
use Rattle.asp_job.specs.History.{with_lane}
use Rattle.asp_job.specs.Journal.{AreRight, IsRight, past_after}
use Rattle.asp_job.specs.Rules.{Rules}
use Rattle.asp_job.specs.Runs.{drawn, is_stage_waiting, is_stopping, moment_of, numbers, stage_of}
use Rattle.asp_job.specs.Turns.{is_waiting_page, owed, waiting_pages}
use Rattle.asp_journal.specs.Telling.{end_kind, kind_in}
use Rattle.asp_feed.specs.Feeding.{comes, is_calm}
use Rattle.asp_replay.specs.Near.{AreQuiet, GrowsQuietly, IsBorneOut, IsQuiet, OthersWork}
use Rattle.asp_replay.specs.Sequential.{may_come}
use Rattle.asp_replay.proofs.Current.{is_tick_or_take, none_unfinished, none_waiting}
use Rattle.asp_replay.proofs.Events.{ended_may, few_may, quiet_all, time_may}
use Rattle.asp_replay.proofs.Showing.{after_both, answered_before, right_before}

-- ---- which entries these are

work_one : (what : What) → IsWork what → IsQuiet what
work_one (Queue run work key) is = absurd is
work_one (Admit run key fresh job) is = absurd is
work_one (Refuse run job) is = absurd is
work_one (Tick moment) is = absurd is
work_one (Begin run serial) is = tt
work_one (App run call reply) is = tt
work_one (End run kind status size made finished) is = tt
work_one (Take run) is = absurd is
work_one Stop is = absurd is
work_one Halt is = absurd is

pub work_quiet : (entries : List Entry) → AreWork entries → AreQuiet entries
work_quiet [] work = tt
work_quiet (entry ∷ entries) work = (work_one entry.what work.0, work_quiet entries work.1)

plain_one : (what : What) → IsWork what → is_tick_or_take what ≡ false
plain_one (Queue run work key) is = refl
plain_one (Admit run key fresh job) is = refl
plain_one (Refuse run job) is = refl
plain_one (Tick moment) is = absurd is
plain_one (Begin run serial) is = refl
plain_one (App run call reply) is = refl
plain_one (End run kind status size made finished) is = refl
plain_one (Take run) is = absurd is
plain_one Stop is = refl
plain_one Halt is = refl

pub work_plain : (entries : List Entry) → AreWork entries → NoneIs is_tick_or_take entries
work_plain [] work = tt
work_plain (entry ∷ entries) work = (plain_one entry.what work.0, work_plain entries work.1)

comes_one : (what : What) → IsQuiet what → comes what ≡ false
comes_one (Queue run work key) is = refl
comes_one (Admit run key fresh job) is = absurd is
comes_one (Refuse run job) is = absurd is
comes_one (Tick moment) is = absurd is
comes_one (Begin run serial) is = refl
comes_one (App run call reply) is = refl
comes_one (End run kind status size made finished) is = refl
comes_one (Take run) is = refl
comes_one Stop is = absurd is
comes_one Halt is = refl

pub quiet_comes : (entries : List Entry) → AreQuiet entries → NoneIs comes entries
quiet_comes [] quiet = tt
quiet_comes (entry ∷ entries) quiet = (comes_one entry.what quiet.0, quiet_comes entries quiet.1)

quiet_both : (xs ys : List Entry) → AreQuiet xs → AreQuiet ys → AreQuiet (xs ++ ys)
quiet_both [] ys p q = q
quiet_both (x ∷ xs) ys p q = (p.0, quiet_both xs ys p.1 q)

-- ---- one growth behind another

pub quiet_none : (old : List Entry) → GrowsQuietly old old
quiet_none old = record { entries = []; new_is = refl; quiet = tt }

pub quiet_then : (old mid new : List Entry) → GrowsQuietly old mid → GrowsQuietly mid new → GrowsQuietly old new
quiet_then old mid new one two = record {
  entries = one.entries ++ two.entries;
  new_is = two.new_is ∙ ap (λ past. past_after past two.entries) one.new_is
      ∙ sym (after_both old one.entries two.entries);
  quiet = quiet_both one.entries two.entries one.quiet two.quiet;
}

pub others_before : (past entries : List Entry) → OthersWork (past_after past entries) → OthersWork past
others_before past [] others = others
others_before past (entry ∷ entries) others = (others_before (entry ∷ past) entries others).1

-- what is borne out of a journal is borne out of what it began with
pub borne_before : (m : Rules) (past entries : List Entry) → IsBorneOut m (past_after past entries) → IsBorneOut m past
borne_before m past entries borne = record {
  others = others_before past entries borne.others;
  answered = answered_before m past entries borne.answered;
}

pub borne_quiet : (m : Rules) (old new : List Entry) → GrowsQuietly old new → IsBorneOut m new → IsBorneOut m old
borne_quiet m old new grows borne = borne_before m old grows.entries (subst (IsBorneOut m) grows.new_is borne)

-- ---- where nothing is under way no run adds anything

work_calm : (m : Rules) (past : List Entry) (lane : ℕ) (what : What) → AreRight m past
    → IsRight m past (with_lane lane what) → is_calm past ≡ true → IsWork what → ⊥
work_calm m past lane (Begin run serial) right one calm is =
    let begin = begin_right m past lane run serial (owed m past) one.turn in
    let stage : stage_of past run ≡ Waiting = may_begin_waits past run begin.next.begins in
    let none = none_waiting m past right calm run in
    let both : true ≡ false = sym (ap is_stage_waiting stage) ∙ none in
    cc
work_calm m past lane (App run call reply) right one calm is =
    let running = call_running m past lane run call reply (owed m past) one.turn in
    let both : true ≡ false = sym running.unfinished ∙ none_unfinished m past right calm run in
    cc
work_calm m past lane (End run kind status size n1 n2) right one calm is =
    let running = end_running m past lane run kind status size n1 n2 (owed m past) one.turn in
    let both : true ≡ false = sym running.unfinished ∙ none_unfinished m past right calm run in
    cc
work_calm m past lane (Queue run work key) right one calm is = is
work_calm m past lane (Admit run key fresh job) right one calm is = is
work_calm m past lane (Refuse run job) right one calm is = is
work_calm m past lane (Tick moment) right one calm is = is
work_calm m past lane (Take run) right one calm is = is
work_calm m past lane Stop right one calm is = is
work_calm m past lane Halt right one calm is = is

pub calm_none : (m : Rules) (past entries : List Entry) → AreRight m (past_after past entries) → is_calm past ≡ true
    → AreWork entries → entries ≡ []
calm_none m past [] right calm work = refl
calm_none m past (entry ∷ entries) right calm work =
    let before = right_before m (entry ∷ past) entries right in
    absurd (work_calm m past entry.lane entry.what before.1 before.0 calm work.0)

calm_one : (m : Rules) (past : List Entry) (lane : ℕ) (what : What) → AreRight m past
    → IsRight m past (with_lane lane what) → is_calm past ≡ true → IsQuiet what
    → is_calm (with_lane lane what ∷ past) ≡ true
calm_one m past lane (Begin run serial) right one calm is =
    absurd (work_calm m past lane (Begin run serial) right one calm tt)
calm_one m past lane (App run call reply) right one calm is =
    absurd (work_calm m past lane (App run call reply) right one calm tt)
calm_one m past lane (End run kind status size n1 n2) right one calm is =
    absurd (work_calm m past lane (End run kind status size n1 n2) right one calm tt)
calm_one m past lane (Take run) right one calm is = calm
calm_one m past lane (Queue run work key) right one calm is = absurd is
calm_one m past lane (Admit run key fresh job) right one calm is = absurd is
calm_one m past lane (Refuse run job) right one calm is = absurd is
calm_one m past lane (Tick moment) right one calm is = absurd is
calm_one m past lane Stop right one calm is = absurd is
calm_one m past lane Halt right one calm is = absurd is

-- so nothing is under way later
pub calm_quiet : (m : Rules) (past entries : List Entry) → AreRight m (past_after past entries) → is_calm past ≡ true
    → AreQuiet entries → is_calm (past_after past entries) ≡ true
calm_quiet m past [] right calm quiet = calm
calm_quiet m past (entry ∷ entries) right calm quiet =
    let before = right_before m (entry ∷ past) entries right in
    calm_quiet m (entry ∷ past) entries right
    (calm_one m past entry.lane entry.what before.1 before.0 calm quiet.0) quiet.1

-- ---- no more pages wait

fewer_one : (p q : ℕ → Bool) (k : ℕ) → (p k ≡ true → q k ≡ true)
    → length (filter p (k ∷ [])) ≤ length (filter q (k ∷ []))
fewer_one p q k only = elim (cases_Bool (p k)) [
  | inl passes ↦ (let also = only passes in rw (passes, also) (omega arith))
  | inr fails ↦ rw fails (omega arith)
]

fewer : (p q : ℕ → Bool) (n : ℕ) → ((r : ℕ) → p r ≡ true → q r ≡ true)
    → length (filter p (numbers n)) ≤ length (filter q (numbers n))
fewer p q zero only = omega arith
fewer p q (suc n) only =
    let before = fewer p q n only in
    let last = fewer_one p q (suc n) (only (suc n)) in
    let left = ap length (filter-append p (numbers n) (suc n ∷ []))
    ∙ length-append (filter p (numbers n)) (filter p (suc n ∷ [])) in
    let right = ap length (filter-append q (numbers n) (suc n ∷ []))
    ∙ length-append (filter q (numbers n)) (filter q (suc n ∷ [])) in
    omega (arith, before, last, left, right)

waits_one : (past : List Entry) (lane : ℕ) (what : What) (r : ℕ) → IsQuiet what
    → is_waiting_page (with_lane lane what ∷ past) r ≡ true → is_waiting_page past r ≡ true
waits_one past lane (Begin run serial) r is waits = elim (cases_Bool (run == r)) [
  | inl own ↦ absurd (let none : is_waiting_page (with_lane lane (Begin run serial) ∷ past) r ≡ false = rw own refl in
      let both : true ≡ false = sym waits ∙ none in cc)
  | inr other ↦ rw other at waits
]
waits_one past lane (App run call reply) r is waits = waits
waits_one past lane (End run kind status size n1 n2) r is waits = elim (cases_Bool (run == r)) [
  | inl own ↦ absurd (let none : is_waiting_page (with_lane lane (End run kind status size n1 n2) ∷ past) r ≡ false =
      rw own refl in
      let both : true ≡ false = sym waits ∙ none in cc)
  | inr other ↦ rw other at waits
]
waits_one past lane (Take run) r is waits = waits
waits_one past lane (Queue run work key) r is waits = absurd is
waits_one past lane (Admit run key fresh job) r is waits = absurd is
waits_one past lane (Refuse run job) r is waits = absurd is
waits_one past lane (Tick moment) r is waits = absurd is
waits_one past lane Stop r is waits = absurd is
waits_one past lane Halt r is waits = absurd is

drawn_one : (past : List Entry) (lane : ℕ) (what : What) → IsQuiet what → drawn (with_lane lane what ∷ past) ≡ drawn past
drawn_one past lane (Begin run serial) is = refl
drawn_one past lane (App run call reply) is = refl
drawn_one past lane (End run kind status size n1 n2) is = refl
drawn_one past lane (Take run) is = refl
drawn_one past lane (Queue run work key) is = absurd is
drawn_one past lane (Admit run key fresh job) is = absurd is
drawn_one past lane (Refuse run job) is = absurd is
drawn_one past lane (Tick moment) is = absurd is
drawn_one past lane Stop is = absurd is
drawn_one past lane Halt is = absurd is

pages_one : (past : List Entry) (lane : ℕ) (what : What) → IsQuiet what
    → length (waiting_pages (with_lane lane what ∷ past)) ≤ length (waiting_pages past)
pages_one past lane what is =
    let new = with_lane lane what ∷ past in
    subst (λ n. length (filter (is_waiting_page new) (numbers n)) ≤ length (waiting_pages past))
    (sym (drawn_one past lane what is))
    (fewer (is_waiting_page new) (is_waiting_page past) (drawn past) (λ r waits. waits_one past lane what r is waits))

pages_fewer : (past entries : List Entry) → AreQuiet entries
    → length (waiting_pages (past_after past entries)) ≤ length (waiting_pages past)
pages_fewer past [] quiet = omega arith
pages_fewer past (entry ∷ entries) quiet =
    let one = pages_one past entry.lane entry.what quiet.0 in
    let more = pages_fewer (entry ∷ past) entries quiet.1 in
    omega (arith, one, more)

-- ---- an item that may come still may

all_three : (a b c : Bool) → a ≡ true → b ≡ true → c ≡ true → a && b && c ≡ true
all_three a b c x y z = rw (x, y, z) refl

or_second : (a b : Bool) → b ≡ true → a || b ≡ true
or_second true b is = refl
or_second false b is = is

few_after : (old new most : ℕ) → nat_lt old most ≡ true → new ≤ old → nat_lt new most ≡ true
few_after old new most few less = grind arith

time_after : (m : Rules) (past entries : List Entry) (moment : ℕ) → AreRight m (past_after past entries)
    → AreQuiet entries → (nat_le moment (moment_of past) || is_calm past) ≡ true
    → (nat_le moment (moment_of (past_after past entries)) || is_calm (past_after past entries)) ≡ true
time_after m past entries moment right quiet may =
    let new = past_after past entries in
    let same : moment_of new ≡ moment_of past = (quiet_all past entries (quiet_comes entries quiet)).moment in
    elim (cases_Bool (nat_le moment (moment_of past))) [
      | inl now ↦ (let also : nat_le moment (moment_of new) ≡ true = ap (nat_le moment) same ∙ now in rw also refl)
      | inr later ↦ or_second (nat_le moment (moment_of new)) (is_calm new)
          (calm_quiet m past entries right (rw later at may) quiet)
    ]

or_some : (a b : Option EndKind) → is_some b ≡ true → is_some (option_or a b) ≡ true
or_some None b is = is
or_some (Some kind) b is = refl

ended_stays : (past entries : List Entry) → is_some (end_kind past 1) ≡ true
    → is_some (end_kind (past_after past entries) 1) ≡ true
ended_stays past [] is = is
ended_stays past (entry ∷ entries) is =
    ended_stays (entry ∷ past) entries (or_some (kind_in 1 entry.what) (end_kind past 1) is)

pub may_stays : (m : Rules) (old new : List Entry) (moment : ℕ) → GrowsQuietly old new → AreRight m new
    → may_come old moment ≡ true → may_come new moment ≡ true
may_stays m old new moment grows right may =
    let entries = grows.entries in
    let right_then = subst (AreRight m) grows.new_is right in
    let after = past_after old entries in
    let fewer_wait = pages_fewer old entries grows.quiet in
    subst (λ past. may_come past moment ≡ true) (sym grows.new_is)
    (all_three (is_some (end_kind after 1)) (nat_le moment (moment_of after) || is_calm after)
    (nat_lt (length (waiting_pages after)) MOST_WAITING) (ended_stays old entries (ended_may old moment may))
    (time_after m old entries moment right_then grows.quiet (time_may old moment may))
    (few_after (length (waiting_pages old)) (length (waiting_pages after)) MOST_WAITING (few_may old moment may)
    fewer_wait))

pub calm_stays : (m : Rules) (old new : List Entry) → GrowsQuietly old new → AreRight m new → is_calm old ≡ true
    → is_calm new ≡ true
calm_stays m old new grows right calm =
    ap is_calm grows.new_is ∙ calm_quiet m old grows.entries (subst (AreRight m) grows.new_is right) calm grows.quiet

pub stopping_stays : (old new : List Entry) → GrowsQuietly old new → is_stopping new ≡ is_stopping old
stopping_stays old new grows =
    ap is_stopping grows.new_is ∙ (quiet_all old grows.entries (quiet_comes grows.entries grows.quiet)).stopping
