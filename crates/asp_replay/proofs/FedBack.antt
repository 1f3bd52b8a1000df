-- What is handed back of a feed.
use Rattle.std.proofs.Common.{◌≡◌, ◌⊎◌, ℕ, List, ap, sym, ◌∙◌, subst, inr, Option, Result, Ok, Err, IfErr, IfOk}
use Rattle.asp_core.specs.Kernel.{CoreView, IsHostOf, grown, rules_by, rules_of}
use Rattle.asp_core.specs.Ready.{IsAnswered}
use Rattle.asp_job.specs.declared.entry.Entry.{Entry}
use Rattle.asp_job.specs.Journal.{IsValidJournal}
use Rattle.asp_job.specs.Rules.{Rules}
use Rattle.asp_job.specs.Told.{Meaning}
use Rattle.asp_record.specs.declared.recording.Item.{Item}
use Rattle.asp_replay.specs.declared.stop.FeedStop.{FeedStop}
use Rattle.asp_replay.specs.Feed.{HasFed, HasFedPart, IsPassed, IsWoundUp}
use Rattle.asp_replay.specs.Underway.{AfterAll, HasNotBegun, IsCoreOf, IsHandedBack}
use Rattle.asp_core.specs.declared.setting.Setting.{Setting}

-- the core is still that of the runner, the site and the setting
pub core_still : {R Site : Type 0} → (old new : CoreView R Site) (runner : R) (site : Site) (setting : Setting)
    → IsHostOf old runner site → old.setting ≡ setting → ((entries : List Entry) × (new ≡ grown old entries))
    → IsCoreOf runner site setting new
core_still old new runner site setting host same grows = rw grows.1 (record {
  runner_is = sym host.runner_is;
  site_is = sym host.site_is;
  setting_is = same;
})

-- what its journal is held against
pub rules_here : {R Site : Type 0} → (meaning : R → Site → Meaning) (core : CoreView R Site) (runner : R) (site : Site)
    (setting : Setting) → IsCoreOf runner site setting core → rules_of meaning core ≡ rules_by (meaning runner site)
    setting
rules_here meaning core runner site setting is =
    ap (λ some. rules_by (meaning some core.site) core.setting) is.runner_is
    ∙ ap (λ some. rules_by (meaning runner some) core.setting) is.site_is
    ∙ ap (λ some. rules_by (meaning runner site) some) is.setting_is

pub core_handed : {T Core : Type 0} → (fed : Result T FeedStop) (core : Core) (back : Result Core FeedStop)
    (P : Core → Type 0) → IsHandedBack core fed back → P core → IfOk back P
core_handed (Ok given) core back P is holds = rw is holds
core_handed (Err ended) core back P is holds = rw is tt

pub fed_handed : {T Core : Type 0} → (m other : Rules) (items : List Item) (past_at : Core → List Entry)
    (before after : Option (List ℕ)) (fed : Result T FeedStop) (core : Core) (back : Result Core FeedStop)
    → m ≡ other → IsHandedBack core fed back → AfterAll fed m items (past_at core) before after
    → IfOk back (λ some. HasFed other items (past_at some) before after)
fed_handed m other items past_at before after (Ok given) core back same is holds =
    rw is (subst (λ some. HasFed some items (past_at core) before after) same holds)
fed_handed m other items past_at before after (Err ended) core back same is holds = rw is tt

pub stop_handed : {T Core : Type 0} → (m other : Rules) (items : List Item) (past : List Entry)
    (before after : Option (List ℕ)) (fed : Result T FeedStop) (core : Core) (back : Result Core FeedStop)
    → m ≡ other → IsValidJournal m past → IsAnswered m past → IsHandedBack core fed back
    → AfterAll fed m items past before after → IfErr fed (IsPassed m past) → IfErr fed (IsWoundUp past)
    → IfErr back (λ ended. HasNotBegun ended before after
    ⊎ ((some : List Entry) × HasFedPart other items some ended before after))
stop_handed m other items past before after (Ok given) core back same valid answered is holds passed wound = rw is tt
stop_handed m other items past before after (Err ended) core back same valid answered is holds passed wound =
    rw is (inr (
      past,
      subst (λ some. HasFedPart some items past ended before after) same (record {
        account = valid;
        answered = answered;
        fed = holds.fed;
        passed = passed;
        cause = holds.cause;
        written = holds.written;
        wound_up = wound;
      }),
    ))
