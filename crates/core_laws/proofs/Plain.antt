-- A journal that is valid under the strict rule is valid under the plain one.
use Rattle.std.proofs.Common.{◌≡◌, ℕ, ◌+◌, ◌==◌, ◌&&◌, Bool, true, false, MatchBool, if◌then◌else◌, List, [], ◌∷◌, ◌++◌}
use Rattle.std.proofs.Common.{Option, None, drop, refl, ap, sym, ◌∙◌, subst, inl, inr}
use Rattle.std.proofs.Math.Path.{fun_ext}
use Rattle.vb_value.specs.declared.application.AppCall.{AppCall}
use Rattle.vb_value.specs.declared.application.AppCall.TheVariants as call
use Rattle.asp_job.specs.declared.answer.Answer.{Answer}
use Rattle.asp_job.specs.declared.entry.EndKind.{EndKind}
use Rattle.asp_job.specs.declared.entry.EndKind.TheVariants as kind
use Rattle.asp_job.specs.declared.entry.Entry.{Entry}
use Rattle.asp_job.specs.declared.entry.What.{What}
use Rattle.asp_job.specs.declared.entry.What.TheVariants.{Queue, Admit, Refuse, Tick, Begin, App, End, Take, Stop, Halt}
use Rattle.asp_job.specs.declared.job.Job.{Job}
use Rattle.asp_job.specs.declared.job.Work.{Work}
use Rattle.asp_job.specs.declared.job.Work.TheVariants as work
use Rattle.asp_job.specs.declared.session.SessionState.{SessionState}
use Rattle.asp_job.specs.Application.{AppState, blocker_of, has_lock}
use Rattle.asp_job.specs.History.{HasNoRoom, HasNotFit, IsLegal, held_by, run_in, with_lane}
use Rattle.asp_job.specs.Journal.{AreRight, FollowsMeaning, IsRight, IsValidJournal, MayEnd}
use Rattle.asp_job.specs.Keys.{Given, began_with, due_at, given, live, opened, opens, serial_by, session_left, session_of}
use Rattle.asp_job.specs.Keys.{told, told_by}
use Rattle.asp_job.specs.Output.{answer_in, end_of, finished_in, length_in, made_in, status_in, unavailable_in}
use Rattle.asp_job.specs.Rules.{Cause, JournalFull, OutOfMemory, Rules}
use Rattle.asp_job.specs.Runs.{draw_of, job_of, key_of}
use Rattle.asp_job.specs.Told.{Told}
use Rattle.asp_job.specs.Turns.{IsAdmit, IsBegin, IsNext, IsRefuse, MayCome, MayFollow, closing_runs, has_most_keys}
use Rattle.asp_job.specs.Turns.{key_asked_by, key_for, needs_key, owed}
use Rattle.core_laws.specs.Locks.{with_rule}

-- ---- what the rule has no part in

pick : {T : Type 0} → (b : Bool) (x y u v : T) → x ≡ u → y ≡ v → (if b then x else y) ≡ (if b then u else v)
pick true x y u v e f = e
pick false x y u v e f = f

module _ (rules : Rules) where
  abbrev strictly : Rules
  strictly = with_rule rules true

  abbrev plainly : Rules
  plainly = with_rule rules false

  abbrev SameSessions : List Entry → Type 0
  SameSessions past = (k : ℕ) → session_of strictly past k ≡ session_of plainly past k

  abbrev SameBegun : List Entry → Type 0
  SameBegun past = (r : ℕ) → began_with strictly past r ≡ began_with plainly past r

  told_from : (past : List Entry) → SameBegun past → (r : ℕ) → told strictly past r ≡ told plainly past r
  told_from past begun r = ap (λ (g : Given). told_by plainly past g r) (begun r)

  session_step : (past : List Entry) (lane : ℕ) (what : What) → SameSessions past → SameBegun past
      → SameSessions (with_lane lane what ∷ past)
  session_step past lane (End run kind.Done status size made finished) sessions begun k =
      pick _ _ _ _ _ (ap (λ (t : Told). session_left (rules.meaning.does t)) (told_from past begun run)) (sessions k)
  session_step past lane (End run kind.Memory status size made finished) sessions begun k = sessions k
  session_step past lane (End run kind.JournalFull status size made finished) sessions begun k = sessions k
  session_step past lane (Queue run work key) sessions begun k = sessions k
  session_step past lane (Admit run key fresh job) sessions begun k = sessions k
  session_step past lane (Refuse run job) sessions begun k = sessions k
  session_step past lane (Tick moment) sessions begun k = sessions k
  session_step past lane (Begin run serial) sessions begun k = sessions k
  session_step past lane (App run made reply) sessions begun k = sessions k
  session_step past lane (Take run) sessions begun k = sessions k
  session_step past lane Stop sessions begun k = sessions k
  session_step past lane Halt sessions begun k = sessions k

  begun_step : (past : List Entry) (lane : ℕ) (what : What) → SameSessions past → SameBegun past
      → SameBegun (with_lane lane what ∷ past)
  begun_step past lane (Begin run serial) sessions begun r = pick _ _ _ _ _
      (ap (λ (s : Option SessionState). given (draw_of past run) s serial) (sessions (key_of past run))) (begun r)
  begun_step past lane (End run kind status size made finished) sessions begun r = begun r
  begun_step past lane (Queue run work key) sessions begun r = begun r
  begun_step past lane (Admit run key fresh job) sessions begun r = begun r
  begun_step past lane (Refuse run job) sessions begun r = begun r
  begun_step past lane (Tick moment) sessions begun r = begun r
  begun_step past lane (App run made reply) sessions begun r = begun r
  begun_step past lane (Take run) sessions begun r = begun r
  begun_step past lane Stop sessions begun r = begun r
  begun_step past lane Halt sessions begun r = begun r

  same_before : (past : List Entry) → SameSessions past × SameBegun past
  same_before [] = (λ k. refl, λ r. refl)
  same_before (entry ∷ past) =
      let before = same_before past in (
        session_step past entry.lane entry.what before.0 before.1,
        begun_step past entry.lane entry.what before.0 before.1,
      )

  same_sessions : (past : List Entry) → session_of strictly past ≡ session_of plainly past
  same_sessions past = fun_ext (λ k. (same_before past).0 k)

  same_told : (past : List Entry) (r : ℕ) → told strictly past r ≡ told plainly past r
  same_told past r = told_from past (same_before past).1 r

  opened_step : (past : List Entry) (lane : ℕ) (what : What) → opened strictly past ≡ opened plainly past
      → opened strictly (with_lane lane what ∷ past) ≡ opened plainly (with_lane lane what ∷ past)
  opened_step past lane (Begin run serial) same =
      ap (λ (s : Option SessionState).
      if opens (draw_of past run) s then opened strictly past + 1 else opened strictly past)
      ((same_before past).0 (key_of past run))
      ∙ ap (λ n. if opens (draw_of past run) (session_of plainly past (key_of past run)) then n + 1 else n) same
  opened_step past lane (End run kind status size made finished) same = same
  opened_step past lane (Queue run work key) same = same
  opened_step past lane (Admit run key fresh job) same = same
  opened_step past lane (Refuse run job) same = same
  opened_step past lane (Tick moment) same = same
  opened_step past lane (App run made reply) same = same
  opened_step past lane (Take run) same = same
  opened_step past lane Stop same = same
  opened_step past lane Halt same = same

  same_opened : (past : List Entry) → opened strictly past ≡ opened plainly past
  same_opened [] = refl
  same_opened (entry ∷ past) = opened_step past entry.lane entry.what (same_opened past)

  owed_step : (past : List Entry) (lane : ℕ) (what : What) → owed strictly past ≡ owed plainly past
      → owed strictly (with_lane lane what ∷ past) ≡ owed plainly (with_lane lane what ∷ past)
  owed_step past lane (Queue run work key) same = ap (drop 1) same
  owed_step past lane (Tick moment) same =
      ap (λ (s : ℕ → Option SessionState). closing_runs (due_at s past moment)) (same_sessions past)
  owed_step past lane Stop same =
      ap (λ (s : ℕ → Option SessionState). closing_runs (live s past) ++ (work.Stop, 0) ∷ []) (same_sessions past)
  owed_step past lane (End run kind status size made finished) same = refl
  owed_step past lane (Admit run key fresh job) same = refl
  owed_step past lane (Refuse run job) same = refl
  owed_step past lane (Begin run serial) same = refl
  owed_step past lane (App run made reply) same = refl
  owed_step past lane (Take run) same = refl
  owed_step past lane Halt same = refl

  same_owed : (past : List Entry) → owed strictly past ≡ owed plainly past
  same_owed [] = refl
  same_owed (entry ∷ past) = owed_step past entry.lane entry.what (same_owed past)

  -- ---- which entry may come next

  admit_plain : (past : List Entry) (run key : ℕ) (fresh : Bool) (job : Job) → IsAdmit strictly past run key fresh job
      → IsAdmit plainly past run key fresh job
  admit_plain past run key fresh job is = record {
    asked = is.asked;
    number = is.number;
    key_is = is.key_is
        ∙ ap (λ (s : ℕ → Option SessionState). key_for (rules.meaning.is_keyed job) (key_asked_by rules job) s past)
        (same_sessions past);
    fresh_is = is.fresh_is
        ∙ ap (λ (s : ℕ → Option SessionState). needs_key (rules.meaning.is_keyed job) (key_asked_by rules job) s past)
        (same_sessions past);
    live = subst (λ (s : ℕ → Option SessionState). (fresh && has_most_keys s past) ≡ false) (same_sessions past) is.live;
  }

  refuse_plain : (past : List Entry) (run : ℕ) (job : Job) → IsRefuse strictly past run job
      → IsRefuse plainly past run job
  refuse_plain past run job is = record {
    asked = is.asked;
    number = is.number;
    needs = subst (λ (s : ℕ → Option SessionState).
        needs_key (rules.meaning.is_keyed job) (key_asked_by rules job) s past ≡ true) (same_sessions past) is.needs;
    most = subst (λ (s : ℕ → Option SessionState). has_most_keys s past ≡ true) (same_sessions past) is.most;
  }

  begin_plain : (past : List Entry) (run serial : ℕ) → IsBegin strictly past run serial
      → IsBegin plainly past run serial
  begin_plain past run serial is = record {
    next = is.next;
    few = is.few;
    going = is.going;
    session = is.session
        ∙ ap (λ n. serial_by n (draw_of past run) (session_of strictly past (key_of past run))) (same_opened past)
        ∙ ap (λ (s : Option SessionState). serial_by (opened plainly past) (draw_of past run) s)
        ((same_before past).0 (key_of past run));
  }

  come_plain : (past : List Entry) (lane : ℕ) (what : What) → MayCome strictly past lane what
      → MayCome plainly past lane what
  come_plain past lane (Admit run key fresh job) may = admit_plain past run key fresh job may
  come_plain past lane (Refuse run job) may = refuse_plain past run job may
  come_plain past lane (Begin run serial) may = begin_plain past run serial may
  come_plain past lane (Queue run work key) may = may
  come_plain past lane (Tick moment) may = may
  come_plain past lane (App run made reply) may = may
  come_plain past lane (End run kind status size made finished) may = may
  come_plain past lane (Take run) may = may
  come_plain past lane Stop may = may
  come_plain past lane Halt may = may

  follow_plain : (past : List Entry) (list : List (Work × ℕ)) (entry : Entry) → MayFollow strictly past list entry
      → MayFollow plainly past list entry
  follow_plain past [] entry may = come_plain past entry.lane entry.what may
  follow_plain past (first ∷ rest) entry may = may

  next_plain : (past : List Entry) (entry : Entry) → IsNext strictly past entry → IsNext plainly past entry
  next_plain past entry may =
      subst (λ (list : List (Work × ℕ)). MayFollow plainly past list entry) (same_owed past)
      (follow_plain past (owed strictly past) entry may)

-- ---- the lock

none_if : (b : Bool) (n : Option ℕ) → n ≡ None → (if b then None else n) ≡ None
none_if true n e = refl
none_if false n e = e

-- a call that the strict rule lets through, the plain one lets through
free_plain : (state : AppState) (run : ℕ) (c : AppCall) → blocker_of true state run c ≡ None
    → blocker_of false state run c ≡ None
free_plain state run (call.Get name) free = none_if (has_lock run state) None refl
free_plain state run call.Count free = none_if (has_lock run state) None refl
free_plain state run (call.KeyAt place) free = none_if (has_lock run state) None refl
free_plain state run call.Names free = none_if (has_lock run state) None refl
free_plain state run (call.Put name value) free = free
free_plain state run (call.Remove name) free = free
free_plain state run call.RemoveAll free = free
free_plain state run call.Lock free = free
free_plain state run call.Unlock free = free

legal_plain : (past : List Entry) (what : What) → IsLegal true past what → IsLegal false past what
legal_plain past (App run made reply) legal = (free_plain (held_by past) run made legal.0, legal.1)
legal_plain past (Queue run work key) legal = legal
legal_plain past (Admit run key fresh job) legal = legal
legal_plain past (Refuse run job) legal = legal
legal_plain past (Tick moment) legal = legal
legal_plain past (Begin run serial) legal = legal
legal_plain past (End run kind status size made finished) legal = legal
legal_plain past (Take run) legal = legal
legal_plain past Stop legal = legal
legal_plain past Halt legal = legal

no_room_plain : (past : List Entry) (lane run : ℕ) (c : AppCall) → HasNoRoom true past lane run c
    → HasNoRoom false past lane run c
no_room_plain past lane run c has = record { free = free_plain (held_by past) run c has.free; overfull = has.overfull }

unless : (b : Bool) (P Q : Type 0) → (P → Q) → MatchBool b ⊥ P → MatchBool b ⊥ Q
unless true P Q f has = has
unless false P Q f has = f has

not_fit_plain : (past : List Entry) (lane run : ℕ) (c : AppCall) → HasNotFit true past lane run c
    → HasNotFit false past lane run c
not_fit_plain [] lane run c has = no_room_plain [] lane run c has
not_fit_plain (entry ∷ past) lane run c (inl here) = inl (no_room_plain (entry ∷ past) lane run c here)
not_fit_plain (entry ∷ past) lane run c (inr before) = inr
    (unless (run_in entry.what == run) (HasNotFit true past lane run c) (HasNotFit false past lane run c)
    (not_fit_plain past lane run c) before)

-- ---- the journal

module _ (rules : Rules) where
  abbrev under_strict : Rules
  under_strict = with_rule rules true

  abbrev under_plain : Rules
  under_plain = with_rule rules false

  same_does : (past : List Entry) (r : ℕ) → rules.meaning.does (told under_plain past r)
      ≡ rules.meaning.does (told under_strict past r)
  same_does past r = ap (λ (t : Told). rules.meaning.does t) (sym (same_told rules past r))

  same_fixed : (cause : Cause) (w : Work) → unavailable_in under_strict cause w ≡ unavailable_in under_plain cause w
  same_fixed cause (work.Page request) = refl
  same_fixed cause work.Start = refl
  same_fixed cause work.SessionEnd = refl
  same_fixed cause work.Stop = refl

  same_end : (past : List Entry) (run : ℕ) (how : EndKind) → end_of under_strict past run how
      ≡ end_of under_plain past run how
  same_end past run kind.Done = ap (λ (t : Told). let o = rules.meaning.does t in
      End run kind.Done (status_in (answer_in o)) (length_in (answer_in o)) (made_in o) (finished_in o))
      (same_told rules past run)
  same_end past run kind.Memory = ap (λ (a : Option Answer). End run kind.Memory (status_in a) (length_in a) 0 0)
      (same_fixed OutOfMemory (job_of past run).work)
  same_end past run kind.JournalFull = ap
      (λ (a : Option Answer). End run kind.JournalFull (status_in a) (length_in a) 0 0)
      (same_fixed JournalFull (job_of past run).work)

  end_plain : (past : List Entry) (lane run : ℕ) (how : EndKind) → MayEnd under_strict past lane run how
      → MayEnd under_plain past lane run how
  end_plain past lane run kind.Done may = (may.0, same_does past run ∙ may.1)
  end_plain past lane run kind.Memory may = may
  end_plain past lane run kind.JournalFull may =
      (may.0, same_does past run ∙ may.1, not_fit_plain past lane run may.0 may.2)

  meaning_plain : (past : List Entry) (lane : ℕ) (what : What) → FollowsMeaning under_strict past lane what
      → FollowsMeaning under_plain past lane what
  meaning_plain past lane (App run made reply) follows = same_does past run ∙ follows
  meaning_plain past lane (End run how status size made finished) follows =
      (end_plain past lane run how follows.0, follows.1 ∙ same_end past run how)
  meaning_plain past lane (Queue run work key) follows = follows
  meaning_plain past lane (Admit run key fresh job) follows = follows
  meaning_plain past lane (Refuse run job) follows = follows
  meaning_plain past lane (Tick moment) follows = follows
  meaning_plain past lane (Begin run serial) follows = follows
  meaning_plain past lane (Take run) follows = follows
  meaning_plain past lane Stop follows = follows
  meaning_plain past lane Halt follows = follows

  right_plain : (past : List Entry) (entry : Entry) → IsRight under_strict past entry → IsRight under_plain past entry
  right_plain past entry right = record {
    turn = next_plain rules past entry right.turn;
    legal = legal_plain past entry.what right.legal;
    follows = meaning_plain past entry.lane entry.what right.follows;
  }

  all_plain : (past : List Entry) → AreRight under_strict past → AreRight under_plain past
  all_plain [] right = tt
  all_plain (entry ∷ past) right = (right_plain past entry right.0, all_plain past right.1)

-- a journal that is valid under the strict rule is valid under the plain one
pub strict_is_plain : (rules : Rules) (past : List Entry) → IsValidJournal (with_rule rules true) past
    → IsValidJournal (with_rule rules false) past
strict_is_plain rules past valid = record {
  entries = all_plain rules past valid.entries;
  settled = sym (same_owed rules past) ∙ valid.settled;
}
