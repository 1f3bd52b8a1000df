-- What a lane holds stays what it is, while other lanes add entries and while its own adds none of a run's.
use Rattle.std.proofs.Common.{◌≡◌, ℕ, ◌++◌, List, reverse, ap, sym, ◌∙◌, subst, Option, Some, None}
use Rattle.std.proofs.Common.{IfSome}
use Rattle.turn_desk.specs.Histories.{own_part}
use Rattle.turn_desk.specs.Shown.{LaneFits, LaneView}
use Rattle.asp_job.specs.declared.entry.Entry.{Entry}
use Rattle.asp_job.specs.Journal.{AreRight, IsValidJournal, past_after}
use Rattle.asp_job.specs.Told.{Meaning, Told}
use Rattle.asp_job.specs.Turns.{IsRunning}
use Rattle.asp_core.specs.declared.setting.Setting.{Setting}
use Rattle.asp_core.specs.Kernel.{CoreView, IsRunOf, RunView}
use Rattle.asp_core.specs.Laws.{AreOfOthers}
use Rattle.asp_core.proofs.Kept.{past_of_more}
use Rattle.asp_core.proofs.Moved as moved
use Rattle.asp_desk.specs.Calls.{AddsEvents}
use Rattle.asp_desk.specs.Hands.{Fixed, Holds, HostView, core_at, rules_at}
use Rattle.asp_desk.proofs.Adding.{no_steps}
use Rattle.asp_desk.proofs.Running.{are_others, before_events, before_others}

if_stays : {A : Type 0} (P Q : A → Type 0) (run : Option A) → ((a : A) → P a → Q a) → IfSome run P → IfSome run Q
if_stays P Q None h p = p
if_stays P Q (Some a) h p = h a p

module _ {R Site State : Type 0} (meaning : R → Site → Meaning) (stands : R → Site → State → Told → ℕ → Type 0)
    (host : HostView R Site) (lane : ℕ) (held : Option (RunView State)) where
  -- with more entries, which leave each run of the lane one, and make none unfinished
  holds_more : (before entries : List Entry) → IsValidJournal (rules_at meaning host) (reverse (before ++ entries))
      → ((run : RunView State) → IsRunOf meaning stands (core_at host before) lane run
      → IsRunOf meaning stands (core_at host (before ++ entries)) lane run)
      → ((r : ℕ) → IsRunning (past_after (reverse before) entries) lane r → IsRunning (reverse before) lane r)
      → Holds meaning stands (core_at host before) lane held
      → Holds meaning stands (core_at host (before ++ entries)) lane held
  holds_more before entries valid stays was holds = record {
    valid = valid;
    run_is = if_stays (IsRunOf meaning stands (core_at host before) lane)
        (IsRunOf meaning stands (core_at host (before ++ entries)) lane) held stays holds.run_is;
    alone = λ r running. holds.alone r
        (was r (subst (λ past. IsRunning past lane r) (past_of_more before entries) running));
  }

  right_after : (before entries : List Entry) → IsValidJournal (rules_at meaning host) (reverse (before ++ entries))
      → AreRight (rules_at meaning host) (past_after (reverse before) entries)
  right_after before entries valid =
      subst (AreRight (rules_at meaning host)) (past_of_more before entries) valid.entries

  -- after a call that leaves runs as they are
  pub holds_after : (before after : List Entry) → AddsEvents lane before after
      → IsValidJournal (rules_at meaning host) (reverse after) → Holds meaning stands (core_at host before) lane held
      → Holds meaning stands (core_at host after) lane held
  holds_after before after adds valid holds =
      let entries = adds.entries in
      let valid' = subst (λ journal. IsValidJournal (rules_at meaning host) (reverse journal)) adds.after_is valid in
      subst (λ journal. Holds meaning stands (core_at host journal) lane held) (sym adds.after_is)
      (holds_more before entries valid'
      (λ run one. moved.no_steps meaning stands (core_at host before) entries lane run
      (right_after before entries valid') one (no_steps run.number entries adds.events))
      (λ r running. before_events (reverse before) entries lane r adds.events running) holds)

  -- as a turn finds it
  pub holds_found : (seen found : List Entry) (of : LaneView Entry (Fixed R Site)) → of.seen ≡ seen
      → of.number ≡ lane → of.own ≡ own_part (λ (entry : Entry). entry.lane) lane seen
      → LaneFits (λ (entry : Entry). entry.lane) found of
      → IsValidJournal (rules_at meaning host) (reverse found) → Holds meaning stands (core_at host seen) lane held
      → Holds meaning stands (core_at host found) lane held
  holds_found seen found of is number own fits valid holds =
      let entries = fits.0.0 in
      let found_is : found ≡ seen ++ entries = fits.0.1 ∙ ap (λ xs. xs ++ entries) is in
      let same : own_part (λ (entry : Entry). entry.lane) lane (seen ++ entries)
      ≡ own_part (λ (entry : Entry). entry.lane) lane seen =
      ap (λ xs. own_part (λ (entry : Entry). entry.lane) lane xs) (sym found_is)
      ∙ ap (λ n. own_part (λ (entry : Entry). entry.lane) n found) (sym number) ∙ fits.1 ∙ own in
      let others : AreOfOthers lane entries = are_others lane seen entries same in
      let valid' = subst (λ journal. IsValidJournal (rules_at meaning host) (reverse journal)) found_is valid in
      subst (λ journal. Holds meaning stands (core_at host journal) lane held) (sym found_is)
      (holds_more seen entries valid'
      (λ run one. moved.of_others meaning stands (core_at host seen) entries lane run
      (right_after seen entries valid') one others)
      (λ r running. before_others (reverse seen) entries lane r others running) holds)

abbrev core_of : {R Site : Type 0} → List Entry → R → Site → Setting → CoreView R Site
core_of j r s t = record { journal = j; runner = r; site = s; setting = t }

fields : {R Site : Type 0} (j j' : List Entry) (r r' : R) (s s' : Site) (t t' : Setting) → j ≡ j' → r ≡ r' → s ≡ s'
    → t ≡ t' → core_of j r s t ≡ core_of j' r' s' t'
fields j j' r r' s s' t t' e f g h = cc

-- the core that a turn finds
pub core_is : {R Site : Type 0} (host : HostView R Site) (core : CoreView R Site) (seen : List Entry)
    → core.journal ≡ seen → core.runner ≡ host.runner → core.site ≡ host.site → core.setting ≡ host.setting
    → core ≡ core_at host seen
core_is host core seen journal runner site setting =
    fields core.journal seen core.runner host.runner core.site host.site core.setting host.setting journal runner site
    setting
