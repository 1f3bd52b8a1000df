-- How the first run is taken to its end.
use Rattle.std.proofs.Common.{◌≡◌, ℕ, ◌++◌, ◌&&◌, Bool, true, false, not, is_some, List, [], ◌∷◌, refl, ap, sym, ◌∙◌}
use Rattle.std.proofs.Common.{subst, append-nil}
use Rattle.std.proofs.Common.{Option, Result, Ok, Err, IfErr, ◌<◌, ◌≤◌, ◌^◌}
use Rattle.asp_core.specs.Kernel.{CoreView, IsHostOf, grown, rules_of}
use Rattle.asp_journal.specs.Telling.{end_kind}
use Rattle.asp_io.specs.Faults.{HasCause}
use Rattle.asp_job.specs.declared.entry.Entry.{Entry}
use Rattle.asp_job.specs.Rules.{Rules}
use Rattle.asp_job.specs.Told.{Meaning}
use Rattle.asp_record.specs.declared.recording.Item.{Item}
use Rattle.asp_replay.specs.declared.stop.FeedStop.{FeedStop}
use Rattle.asp_replay.specs.declared.stop.FeedStop.TheVariants as stop
use Rattle.asp_replay.specs.Feed as feed
use Rattle.asp_feed.specs.Feeding.{Clients, events_of, is_calm}
use Rattle.asp_replay.specs.Sequential.{IsBusy}
use Rattle.asp_replay.specs.Underway.{After, IsStartStop, IsUnderWay, is_starting}
use Rattle.asp_replay.proofs.Grown.{ends_here}
use Rattle.asp_replay.proofs.Turning.{grown_both}

pub grown_none : {R Site : Type 0} → (core : CoreView R Site) → core ≡ grown core []
grown_none core =
    ap (λ journal. record { journal = journal; runner = core.runner; site = core.site; setting = core.setting })
    (sym (append-nil core.journal))

pub host_grown : {R Site : Type 0} → (old new : CoreView R Site) (entries : List Entry) (runner : R) (site : Site)
    → new ≡ grown old entries → IsHostOf old runner site → IsHostOf new runner site
host_grown old new entries runner site is host =
    rw is (record { runner_is = host.runner_is; site_is = host.site_is })

pub rules_grown : {R Site : Type 0} → (meaning : R → Site → Meaning) (old new : CoreView R Site) (entries : List Entry)
    → new ≡ grown old entries → rules_of meaning new ≡ rules_of meaning old
rules_grown meaning old new entries is = ap (λ core. rules_of meaning core) is

pub grown_more : {R Site : Type 0} → (old mid new : CoreView R Site) → ((first : List Entry) × (mid ≡ grown old first))
    → ((second : List Entry) × (new ≡ grown mid second)) → (all : List Entry) × (new ≡ grown old all)
grown_more old mid new one two =
    (one.0 ++ two.0, two.1 ∙ ap (λ core. grown core two.0) one.1 ∙ grown_both old one.0 two.0)

both_parts : (a b : Bool) → not a && not b ≡ true → (a ≡ false) × (b ≡ false)
both_parts true b e = absurd cc
both_parts false true e = absurd cc
both_parts false false e = (refl, refl)

pub starting_parts : (past : List Entry) → is_starting past ≡ true
    → (is_some (end_kind past 1) ≡ false) × (is_calm past ≡ false)
starting_parts past e = both_parts (is_some (end_kind past 1)) (is_calm past) e

-- no item may come before the first run has ended
pub starting_busy : (past : List Entry) (left : List Item) → is_starting past ≡ true → IsBusy past left
starting_busy past [] e = (starting_parts past e).1
starting_busy past (next ∷ left) e = let none = (starting_parts past e).0 in rw none refl

start_cause : (m : Rules) (items : List Item) (past : List Entry) (ended : FeedStop) → events_of past ≡ []
    → IsStartStop m past ended → feed.HasCause m items past ended
start_cause m items past (stop.StartFailed fail) none is = record { none_came = none; failed = is }
start_cause m items past (stop.JournalFull full) none is = absurd is
start_cause m items past stop.WriteFault none is = absurd is
start_cause m items past stop.Memory none is = tt

-- it is told why nothing comes
pub start_ends : {T : Type 0} → (m here : Rules) (items : List Item) (past : List Entry) (clients : Clients)
    (left : List Item) (before held : Option (List ℕ)) (told : Result T FeedStop)
    → here ≡ m → IfErr told (IsStartStop here past) → events_of past ≡ []
    → IsUnderWay m items past clients left before held → After told m items past clients left before held
start_ends m here items past clients left before held (Ok given) same why none under = under
start_ends m here items past clients left before held (Err ended) same why none under =
    ends_here m items past clients left before held ended under
    (start_cause m items past ended none (subst (λ some. IsStartStop some past ended) same why))

pub after_rules : {T : Type 0} → (m other : Rules) (items left : List Item) (past : List Entry) (clients : Clients)
    (before after : Option (List ℕ)) (result : Result T FeedStop) → m ≡ other
    → After result m items past clients left before after → After result other items past clients left before after
after_rules m other items left past clients before after result same is =
    subst (λ some. After result some items past clients left before after) same is

pub under_rules : (m other : Rules) (items left : List Item) (past : List Entry) (clients : Clients)
    (before after : Option (List ℕ)) → m ≡ other → IsUnderWay m items past clients left before after
    → IsUnderWay other items past clients left before after
under_rules m other items left past clients before after same is =
    subst (λ some. IsUnderWay some items past clients left before after) same is

-- ---- answers

pub on_err : {T E : Type 0} → (result : Result T E) (P : E → Type 0) → ((ended : E) → P ended) → IfErr result P
on_err (Ok given) P holds = tt
on_err (Err ended) P holds = holds ended

pub none_still : (old new : List Entry) → events_of new ≡ events_of old → events_of old ≡ [] → events_of new ≡ []
none_still old new same none = same ∙ none

no_fault : (m : Rules) (past : List Entry) (ended : FeedStop) → IsStartStop m past ended → ended ≡ stop.WriteFault → ⊥
no_fault m past (stop.StartFailed fail) is e = absurd cc
no_fault m past (stop.JournalFull full) is e = absurd is
no_fault m past stop.WriteFault is e = absurd is
no_fault m past stop.Memory is e = absurd cc

-- why nothing comes is no fault of the sink
pub start_no_fault : {T : Type 0} → (m : Rules) (past : List Entry) (old new : ℕ) (told : Result T FeedStop)
    → old ≤ new → (old < 2 ^ 64 → new < 2 ^ 64) → IfErr told (IsStartStop m past)
    → HasCause stop.WriteFault old new told
start_no_fault m past old new (Ok given) later within why =
    record { later = later; within = within; failed = λ e. absurd cc }
start_no_fault m past old new (Err ended) later within why = record {
  later = later;
  within = within;
  failed = λ e. absurd (let same : ended ≡ stop.WriteFault = cc in no_fault m past ended why same);
}

pub told_no_fault : {T : Type 0} → (m : Rules) (past : List Entry) (told : Result T FeedStop)
    → IfErr told (IsStartStop m past) → told ≡ Err stop.WriteFault → ⊥
told_no_fault m past (Ok given) why e = absurd cc
told_no_fault m past (Err ended) why e = no_fault m past ended why (let same : ended ≡ stop.WriteFault = cc in same)
