-- A run that has ended stands as one that has, and leaves what it may.
use Rattle.std.proofs.Common.{◌≡◌, ℕ, Bool, true, false, if◌then◌else◌, List, [], ◌∷◌, Option, Some, None, IfSome, length}
use Rattle.std.proofs.Common.{◌+◌, ◌≤◌, ℤ, ap, arith, refl, sym, ◌∙◌, subst}
use Rattle.std.proofs.lemmas.List.Elements.{All-nil, All-push}
use Rattle.std.proofs.lemmas.List.Quantifiers.{all_pairs_push}
use Rattle.std.proofs.lemmas.List.Sums.{sum_by-cons}
use Rattle.std.specs.List.{AllPairs, sum_by}
use Rattle.std.specs.Prelude.{is_some}
use Rattle.vb_value.specs.declared.application.AppCall.{AppCall}
use Rattle.vb_value.specs.declared.value.Value.{Long}
use Rattle.vb_value.specs.declared.value.Value.TheFolds.{fold-roll-Value}
use Rattle.vb_value.specs.declared.value.Value.TheOpen.{Value-F}
use Rattle.vb_value.specs.declared.value.Value.TheViews.{rolls-Long}
use Rattle.vb_value.specs.Plain.{array_depth, array_refers, depth_of, has_reference, value_depth, value_refers}
use Rattle.vb_value.specs.Sound.{array_sound, is_sound, value_sound}
use Rattle.vb_value.specs.Weight.{array_weight, value_weight, weight_of}
use Rattle.asp_job.specs.declared.answer.Finished.{Finished}
use Rattle.asp_job.specs.declared.job.Work.{Work}
use Rattle.asp_job.specs.declared.job.Work.TheVariants as work
use Rattle.asp_job.specs.declared.session.Named.{Named}
use Rattle.asp_job.specs.declared.session.SessionState.{SessionState}
use Rattle.asp_job.specs.Running.{Going, IsBounded, IsLeft, is_page}
use Rattle.asp_job.specs.Session.{Differ, IsEntry, IsSession, entry_weight}
use Rattle.asp_job.specs.Told.{Told, Ends}
use Rattle.word_runs.specs.declared.run.At.{At}
use Rattle.word_runs.specs.declared.run.At.TheVariants as at
use Rattle.word_runs.specs.declared.run.Page.{Page}
use Rattle.word_runs.specs.declared.run.WordRun.{WordRun}
use Rattle.word_runs.specs.declared.runner.Came.TheVariants as came
use Rattle.word_runs.specs.Words.{HasCome, IsAt, Stands, count_in, counted, is_letter, left_at, left_by_event}
use Rattle.word_runs.specs.Words.{outcome_by, outcome_of, page_of, phase_at, place_after, requested, session_after}

-- ---- what a run leaves

sound-Long : (n : ℤ) → is_sound (Long n) ≡ true
sound-Long n = ap is_sound (sym (rolls-Long n)) ∙ fold-roll-Value Bool Bool value_sound array_sound (Value-F.Long n)

free-Long : (n : ℤ) → has_reference (Long n) ≡ false
free-Long n =
    ap has_reference (sym (rolls-Long n)) ∙ fold-roll-Value Bool Bool value_refers array_refers (Value-F.Long n)

flat-Long : (n : ℤ) → depth_of (Long n) ≡ 0
flat-Long n = ap depth_of (sym (rolls-Long n)) ∙ fold-roll-Value ℕ ℕ value_depth array_depth (Value-F.Long n)

weight-Long : (n : ℤ) → weight_of (Long n) ≡ 32
weight-Long n = ap weight_of (sym (rolls-Long n)) ∙ fold-roll-Value ℕ ℕ value_weight array_weight (Value-F.Long n)

-- the one entry of a session that counts
abbrev entry_of : ℤ → Named
entry_of n = record { name = 110 ∷ []; value = Long n }

entry_is : (n : ℤ) → IsEntry (entry_of n)
entry_is n = record {
  name = refl;
  plain = record { free = free-Long n; flat = subst (λ (depth : ℕ). depth ≤ 64) (sym (flat-Long n)) (omega arith) };
  sound = sound-Long n;
}

one_differs : (n : ℤ) → AllPairs Differ (entry_of n ∷ [])
one_differs n = all_pairs_push Differ [] (entry_of n) (λ i j d low high. absurd (omega (arith, high)))
    (λ k d within. absurd (omega (arith, within)))

one_is_light : (n : ℤ) → sum_by entry_weight (entry_of n ∷ []) ≤ 262144
one_is_light n =
    let weight : weight_of (Long n) ≡ 32 = weight-Long n in
    let sum : sum_by entry_weight (entry_of n ∷ []) ≡ 36 + weight_of (Long n) + sum_by entry_weight [] =
    sum_by-cons entry_weight (entry_of n) [] in
    let none : sum_by entry_weight [] ≡ 0 = refl in
    omega (arith, weight, sum, none)

counted_is : (session : SessionState) → IsSession session → IsSession (counted session)
counted_is session valid =
    let n = count_in session in
    record {
      counted = valid.counted;
      few = valid.few;
      lasts = valid.lasts;
      ends = valid.ends;
      entries = All-push IsEntry [] (entry_of n) (All-nil IsEntry) (entry_is n);
      differ = one_differs n;
      light = one_is_light n;
      bare = refl;
    }

if_left : (left : Bool) (session : SessionState) → IsSession session
    → IfSome (if left then None else Some (counted session)) IsSession
if_left true session valid = tt
if_left false session valid = counted_is session valid

session_left : (word : List ℕ) (session : Option SessionState) (place : ℕ) → IfSome session IsSession
    → IfSome (session_after word session place) IsSession
session_left word None place valid = tt
session_left word (Some session) place valid = if_left (is_letter word place 120) session valid

page_left : (found : Option AppCall) (page : Page) (session : Option SessionState) (cookie : Option (List ℕ)) (place : ℕ)
    (finished : Finished) → outcome_by found page session cookie place ≡ Ends finished
    → finished ≡ left_at page session cookie place
page_left None page session cookie place finished is =
    let same : Ends (left_at page session cookie place) ≡ Ends finished = is in cc
page_left (Some call) page session cookie place finished is = absurd cc

event_left : (work : Work) (finished : Finished) → is_page work ≡ false → IfSome finished.answer IsBounded
    → Ends left_by_event ≡ Ends finished → IsLeft work finished
event_left work finished other bounded is =
    let same : finished ≡ left_by_event = cc in
    record {
      answered = ap (λ (f : Finished). is_some f.answer) same ∙ sym other;
      bounded = bounded;
      session_is = subst (λ (f : Finished). IfSome f.session IsSession) (sym same) tt;
    }

left_is : (work : Work) (session : Option SessionState) (cookie : Option (List ℕ)) (place : ℕ) (finished : Finished)
    → IfSome session IsSession → IfSome finished.answer IsBounded
    → outcome_of (page_of work) session cookie place ≡ Ends finished → IsLeft work finished
left_is (work.Page request) session cookie place finished valid bounded is =
    let page : Page = requested request in
    let same : finished ≡ left_at page session cookie place = page_left _ page session cookie place finished is in
    record {
      answered = ap (λ (f : Finished). is_some f.answer) same;
      bounded = bounded;
      session_is = subst (λ (f : Finished). IfSome f.session IsSession) (sym same)
          (session_left request.path session place valid);
    }
left_is work.Start session cookie place finished valid bounded is = event_left work.Start finished refl bounded is
left_is work.SessionEnd session cookie place finished valid bounded is =
    event_left work.SessionEnd finished refl bounded is
left_is work.Stop session cookie place finished valid bounded is = event_left work.Stop finished refl bounded is

-- ---- the run

going_at : (told : Told) (place : ℕ) (standing : At) → phase_at standing ≡ Going → IsAt told place standing
    → place ≡ place_after (page_of told.job.work) (length told.replies)
going_at told place at.Going going is = is
going_at told place at.Wanting going is = absurd cc
going_at told place (at.Over finished) going is = absurd cc
going_at told place at.Dead going is = absurd cc

pub ended : (run : WordRun) (told : Told) (finished : Finished) → phase_at run.at ≡ Going → Stands run told
    → HasCome run (came.Ends finished) → Stands (record run { at = at.Over finished }) told
ended run told finished going stands come =
    let page = page_of told.job.work in
    let place = place_after page (length told.replies) in
    let at_page = subst (λ (one : Option Page). outcome_of one run.session run.cookie run.place ≡ Ends finished)
    stands.page_is come.0 in
    let at_session = subst (λ (one : Option SessionState). outcome_of page one run.cookie run.place ≡ Ends finished)
    stands.session_is at_page in
    let at_cookie = subst (λ (one : Option (List ℕ)). outcome_of page told.session one run.place ≡ Ends finished)
    stands.cookie_is at_session in
    let is = subst (λ (one : ℕ). outcome_of page told.session told.cookie one ≡ Ends finished)
    (going_at told run.place run.at going stands.at_is) at_cookie in
    record {
      page_is = stands.page_is;
      session_is = stands.session_is;
      cookie_is = stands.cookie_is;
      valid = stands.valid;
      at_is = (is, left_is told.job.work told.session told.cookie place finished stands.valid come.1 is);
    }
