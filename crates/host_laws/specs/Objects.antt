-- Objects that the runs of a journal made and ended.
use Rattle.std.specs.Prelude.{◌≡◌, ℕ, List, ◌∷◌, ◌++◌}
use Rattle.asp_job.specs.declared.entry.EndKind.TheVariants.{Done}
use Rattle.asp_job.specs.declared.entry.Entry.{Entry}
use Rattle.asp_job.specs.declared.entry.What.TheVariants.{End}
use Rattle.asp_job.specs.Journal.{IsValidJournal}
use Rattle.asp_job.specs.Keys.{told}
use Rattle.asp_job.specs.Rules.{Rules}
use Rattle.asp_acts.specs.ActEnds.{MetNoLimit, ends_of}
use Rattle.asp_acts.specs.Running.{meaning_of}
use Rattle.asp_site.specs.declared.site.Site.{Site}

-- In a valid journal of a site's runs: a run that ended by itself has ended as many objects as it made, where no limit
-- ended an act of it.
abbrev pub ObjectsEnd : Type 0
ObjectsEnd = (site : Site) (rules : Rules) → rules.meaning ≡ meaning_of site → (journal newer past : List Entry)
    (entry : Entry) (run status size made finished : ℕ) → IsValidJournal rules journal
    → journal ≡ newer ++ entry ∷ past → entry.what ≡ End run Done status size made finished
    → MetNoLimit (ends_of site (told rules past run)) → made ≡ finished
