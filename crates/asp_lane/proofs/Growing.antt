-- Cores that grow.
use Rattle.std.proofs.Common.{◌≡◌, List, [], ◌∷◌, ◌++◌, append_assoc, ap, sym, ◌∙◌}
use Rattle.asp_core.specs.Kernel.{CoreView, IsHostOf, grown, past_of, rules_by, rules_of}
use Rattle.asp_lane.specs.Underway.{Grows}
use Rattle.asp_job.specs.declared.entry.Entry.{Entry}
use Rattle.asp_job.specs.Told.{Meaning}
use Rattle.asp_journal.proofs.Past.{past_push}
use Rattle.asp_lane.proofs.Turns.{grown_none}
use Rattle.asp_core.specs.declared.setting.Setting.{Setting}

grown_both : {R Site : Type 0} → (core : CoreView R Site) (first second : List Entry)
    → grown (grown core first) second ≡ grown core (first ++ second)
grown_both core first second =
    ap (λ journal. record { journal = journal; runner = core.runner; site = core.site; setting = core.setting })
    (append_assoc core.journal first second)

pub grows_not : {R Site : Type 0} → (core : CoreView R Site) → Grows core core
grows_not core = ([], sym (grown_none core))

pub grows_more : {R Site : Type 0} → (old mid new : CoreView R Site) → Grows old mid → Grows mid new → Grows old new
grows_more old mid new first second =
    (first.0 ++ second.0, second.1 ∙ ap (λ core. grown core second.0) first.1 ∙ grown_both old first.0 second.0)

pub host_grown : {R Site : Type 0} → (old new : CoreView R Site) (runner : R) (site : Site) → Grows old new
    → IsHostOf old runner site → IsHostOf new runner site
host_grown old new runner site grows host =
    rw grows.1 (record { runner_is = host.runner_is; site_is = host.site_is })

pub rules_grown : {R Site : Type 0} → (meaning : R → Site → Meaning) (old new : CoreView R Site) → Grows old new
    → rules_of meaning new ≡ rules_of meaning old
rules_grown meaning old new grows = ap (λ core. rules_of meaning core) grows.1

-- by one entry
pub past_one : {R Site : Type 0} → (old new : CoreView R Site) (entries : List Entry) (entry : Entry)
    → new ≡ grown old entries → entries ≡ entry ∷ [] → past_of new ≡ entry ∷ past_of old
past_one old new entries entry grows one =
    ap (λ core. past_of core) (grows ∙ ap (λ (some : List Entry). grown old some) one) ∙ past_push old.journal entry

-- by none
pub same_core : {R Site : Type 0} → (old new : CoreView R Site) (entries : List Entry) → new ≡ grown old entries
    → entries ≡ [] → new ≡ old
same_core old new entries grows none =
    grows ∙ ap (λ (some : List Entry). grown old some) none ∙ grown_none old

-- what the journal of a core that was just made is held against
pub rules_here : {R Site : Type 0} → (meaning : R → Site → Meaning) (core : CoreView R Site) (runner : R) (site : Site)
    (setting : Setting) → IsHostOf core runner site → core.setting ≡ setting
    → rules_of meaning core ≡ rules_by (meaning runner site) setting
rules_here meaning core runner site setting host same =
    ap (λ some. rules_by (meaning some core.site) core.setting) (sym host.runner_is)
    ∙ ap (λ some. rules_by (meaning runner some) core.setting) (sym host.site_is)
    ∙ ap (λ (some : Setting). rules_by (meaning runner site) some) same
