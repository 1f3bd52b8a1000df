-- The calls of a run are the ones that its meaning wants.
use Rattle.std.proofs.Common.{◌≡◌, ℕ, ◌+◌, ◌<◌, ◌≤◌, ◌==◌, false, true, List, [], ◌∷◌, ◌++◌, length, take, get_or}
use Rattle.std.proofs.Common.{Some, slice_get, refl, ap, sym, ◌∙◌, subst, append-nil, arith, inl, inr, length-append}
use Rattle.std.proofs.lemmas.Bool.{cases_Bool, cases_lt, eqb-true, eq-eqb}
use Rattle.std.proofs.lemmas.List.{take-append-le}
use Rattle.std.proofs.lemmas.Option.{slice_get-get_or, slice_get_within}
use Rattle.std.proofs.Math.ListN.{get_or-append}
use Rattle.std.proofs.Math.Seq.{get_or-append_seam, take-append_seam}
use Rattle.vb_value.specs.declared.application.AppCall.{AppCall}
use Rattle.vb_value.specs.declared.application.AppReply.{AppReply}
use Rattle.asp_job.specs.declared.entry.Entry.{Entry}
use Rattle.asp_job.specs.declared.entry.Stage.TheVariants.{Waiting}
use Rattle.asp_job.specs.declared.entry.What.{What}
use Rattle.asp_job.specs.declared.entry.What.TheVariants.{Admit, App, Begin, End, Halt, Queue, Refuse, Stop, Take}
use Rattle.asp_job.specs.declared.entry.What.TheVariants.{Tick}
use Rattle.asp_job.specs.History.{calls_of_run, run_in, with_lane}
use Rattle.asp_job.specs.Journal.{AreRight, IsRight}
use Rattle.asp_job.specs.Keys.{told}
use Rattle.asp_job.specs.Rules.{Rules}
use Rattle.asp_job.specs.Runs.{replies_of, stage_of}
use Rattle.asp_job.specs.Told.{Told, Wants, Meaning, heard}
use Rattle.asp_job.specs.Turns.{owed}
use Rattle.core_laws.specs.Wanted.{AreWanted}
use Rattle.asp_core.proofs.Others.{told_other}
use Rattle.asp_core.proofs.Right.{begin_right, drawn_next, is_begun, may_begin_waits, next_undrawn, no_replies}

-- ---- one more call

nth : (calls : List AppCall) (n : ℕ) (call made : AppCall) → n < length calls
    → slice_get (calls ++ made ∷ []) n ≡ Some call → slice_get calls n ≡ Some call
nth calls n call made l e =
    let longer : length (calls ++ made ∷ []) ≡ length calls + 1 = length-append calls (made ∷ []) in
    let a : slice_get calls n ≡ Some (get_or calls n made) = slice_get-get_or calls n made l in
    let b : slice_get (calls ++ made ∷ []) n ≡ Some (get_or (calls ++ made ∷ []) n made) =
    slice_get-get_or (calls ++ made ∷ []) n made (omega arith) in
    let c : get_or (calls ++ made ∷ []) n made ≡ get_or calls n made = get_or-append calls (made ∷ []) made n l in
    a ∙ ap (λ x. Some x) (sym c) ∙ sym b ∙ e

last : (calls : List AppCall) (call made : AppCall) → slice_get (calls ++ made ∷ []) (length calls) ≡ Some call
    → made ≡ call
last calls call made e =
    let longer : length (calls ++ made ∷ []) ≡ length calls + 1 = length-append calls (made ∷ []) in
    let b : slice_get (calls ++ made ∷ []) (length calls) ≡ Some (get_or (calls ++ made ∷ []) (length calls) made) =
    slice_get-get_or (calls ++ made ∷ []) (length calls) made (omega arith) in
    let c : get_or (calls ++ made ∷ []) (length calls) made ≡ made = get_or-append_seam calls made [] made in
    cc

with_replies : Told → List AppReply → Told
with_replies t replies = record t { replies = replies }

wanted_one : (m : Meaning) (t : Told) (calls : List AppCall) (made : AppCall) (reply : AppReply) → AreWanted m t calls
    → m.does t ≡ Wants made → AreWanted m (heard t reply) (calls ++ made ∷ [])
unfolding with_replies
wanted_one m t calls made reply before wants = record {
  replied = length-append t.replies (reply ∷ []) ∙ ap (λ n. n + 1) before.replied
      ∙ sym (length-append calls (made ∷ []));
  wanted = λ n call e. elim (cases_lt n (length calls)) [
    | inl less ↦ (let short : n ≤ length t.replies = (let same = before.replied in omega arith) in
        let same : take n (t.replies ++ reply ∷ []) ≡ take n t.replies =
        take-append-le n t.replies (reply ∷ []) short in
        ap (λ replies. m.does (with_replies t replies)) same ∙ before.wanted n call (nth calls n call made less e))
    | inr more ↦ (let within = slice_get_within (calls ++ made ∷ []) n call e in
        let longer : length (calls ++ made ∷ []) ≡ length calls + 1 = length-append calls (made ∷ []) in
        let replied = before.replied in
        let at : n ≡ length t.replies = omega arith in
        let place : n ≡ length calls = omega arith in
        let all : take n (t.replies ++ reply ∷ []) ≡ t.replies =
        ap (λ k. take k (t.replies ++ reply ∷ [])) at ∙ take-append_seam t.replies (reply ∷ []) in
        let is : made ≡ call =
        last calls call made (ap (λ k. slice_get (calls ++ made ∷ []) k) (sym place) ∙ e) in
        ap (λ replies. m.does (with_replies t replies)) all ∙ wants ∙ ap (λ c. Wants c) is)
  ];
}

no_calls : (replies : List AppReply) (calls : List AppCall) → length replies ≡ length calls → replies ≡ []
    → calls ≡ []
no_calls replies [] e none = refl
no_calls replies (call ∷ calls) e none = absurd (let empty : length replies ≡ 0 = ap length none in omega arith)

none_wanted : (m : Meaning) (t : Told) (calls : List AppCall) → t.replies ≡ [] → calls ≡ [] → AreWanted m t calls
none_wanted m t calls e f =
    let empty : length calls ≡ 0 = ap length f in
    let silent : length t.replies ≡ 0 = ap length e in
    record {
      replied = silent ∙ sym empty;
      wanted = λ n call g. absurd (let within = slice_get_within calls n call g in omega arith);
    }

same_wanted : (m : Meaning) (t now : Told) (calls more : List AppCall) → AreWanted m t calls → now ≡ t → more ≡ calls
    → AreWanted m now more
same_wanted m t now calls more before e f =
    subst (λ cs. AreWanted m now cs) (sym f) (subst (λ x. AreWanted m x calls) (sym e) before)

-- ---- one more entry

calls_other : (past : List Entry) (lane r : ℕ) (what : What) → (run_in what == r) ≡ false
    → calls_of_run (with_lane lane what ∷ past) r ≡ calls_of_run past r
calls_other past lane r (Queue run work key) e = append-nil (calls_of_run past r)
calls_other past lane r (Admit run key fresh job) e = append-nil (calls_of_run past r)
calls_other past lane r (Refuse run job) e = append-nil (calls_of_run past r)
calls_other past lane r (Tick moment) e = append-nil (calls_of_run past r)
calls_other past lane r (Begin run serial) e = append-nil (calls_of_run past r)
calls_other past lane r (App run call reply) e = rw e (append-nil (calls_of_run past r))
calls_other past lane r (End run kind status size n1 n2) e = append-nil (calls_of_run past r)
calls_other past lane r (Take run) e = append-nil (calls_of_run past r)
calls_other past lane r Stop e = append-nil (calls_of_run past r)
calls_other past lane r Halt e = append-nil (calls_of_run past r)

abbrev IsFollowed : Rules → List Entry → ℕ → Type 0
IsFollowed m past r = AreWanted m.meaning (told m past r) (calls_of_run past r)

-- a run that has not begun has no calls
fresh_followed : (m : Rules) (past : List Entry) (r : ℕ) (now : Told) → IsFollowed m past r
    → replies_of past r ≡ [] → now.replies ≡ replies_of past r ++ []
    → AreWanted m.meaning now (calls_of_run past r ++ [])
fresh_followed m past r now before none e =
    none_wanted m.meaning now (calls_of_run past r ++ []) (e ∙ append-nil (replies_of past r) ∙ none)
    (append-nil (calls_of_run past r) ∙ no_calls (replies_of past r) (calls_of_run past r) before.replied none)

-- what is told where nothing is replied
quiet_followed : (m : Rules) (past : List Entry) (r : ℕ) → IsFollowed m past r
    → AreWanted m.meaning (with_replies (told m past r) (replies_of past r ++ [])) (calls_of_run past r ++ [])
unfolding with_replies
quiet_followed m past r before = same_wanted m.meaning (told m past r)
    (with_replies (told m past r) (replies_of past r ++ [])) (calls_of_run past r) (calls_of_run past r ++ []) before
    (ap (with_replies (told m past r)) (append-nil (replies_of past r))) (append-nil (calls_of_run past r))

followed_own : (m : Rules) (past : List Entry) (lane : ℕ) (what : What) (r : ℕ) → AreRight m past
    → IsRight m past (with_lane lane what) → IsFollowed m past r → run_in what ≡ r
    → IsFollowed m (with_lane lane what ∷ past) r
unfolding with_replies
followed_own m past lane (Queue run work key) r all one before e =
    let next = drawn_next m past lane (Queue run work key) (owed m past) one.turn refl in
    let stage = next_undrawn m past all r (omega arith) in
    fresh_followed m past r (told m (with_lane lane (Queue run work key) ∷ past) r) before
    (no_replies m past all r (ap is_begun stage)) refl
followed_own m past lane (Admit run key fresh job) r all one before e =
    let next = drawn_next m past lane (Admit run key fresh job) (owed m past) one.turn refl in
    let stage = next_undrawn m past all r (omega arith) in
    fresh_followed m past r (told m (with_lane lane (Admit run key fresh job) ∷ past) r) before
    (no_replies m past all r (ap is_begun stage)) refl
followed_own m past lane (Refuse run job) r all one before e =
    let next = drawn_next m past lane (Refuse run job) (owed m past) one.turn refl in
    let stage = next_undrawn m past all r (omega arith) in
    fresh_followed m past r (told m (with_lane lane (Refuse run job) ∷ past) r) before
    (no_replies m past all r (ap is_begun stage)) refl
followed_own m past lane (Tick moment) r all one before e = quiet_followed m past r before
followed_own m past lane (Begin run serial) r all one before e =
    let begin = begin_right m past lane run serial (owed m past) one.turn in
    let waits : stage_of past r ≡ Waiting = ap (stage_of past) (sym e) ∙ may_begin_waits past run begin.next.begins in
    fresh_followed m past r (told m (with_lane lane (Begin run serial) ∷ past) r) before
    (no_replies m past all r (ap is_begun waits)) refl
followed_own m past lane (App run made reply) r all one before e =
    let own : (run == r) ≡ true = eq-eqb run r e in
    let wants : m.meaning.does (told m past r) ≡ Wants made =
    ap (λ x. m.meaning.does (told m past x)) (sym e) ∙ one.follows in
    let after = wanted_one m.meaning (told m past r) (calls_of_run past r) made reply before wants in
    rw own after
followed_own m past lane (End run kind status size n1 n2) r all one before e = quiet_followed m past r before
followed_own m past lane (Take run) r all one before e = quiet_followed m past r before
followed_own m past lane Stop r all one before e = quiet_followed m past r before
followed_own m past lane Halt r all one before e = quiet_followed m past r before

pub calls_follow : (m : Rules) (past : List Entry) (r : ℕ) → AreRight m past
    → AreWanted m.meaning (told m past r) (calls_of_run past r)
calls_follow m [] r right = none_wanted m.meaning (told m [] r) [] refl refl
calls_follow m (entry ∷ past) r right = elim (cases_Bool (run_in entry.what == r)) [
  | inl own ↦ followed_own m past entry.lane entry.what r right.1 right.0 (calls_follow m past r right.1)
      (eqb-true (run_in entry.what) r own)
  | inr other ↦ same_wanted m.meaning (told m past r) (told m (entry ∷ past) r) (calls_of_run past r)
      (calls_of_run (entry ∷ past) r) (calls_follow m past r right.1) (told_other m past entry.lane r entry.what other)
      (calls_other past entry.lane r entry.what other)
]
