-- A run that ended by itself has ended as many objects as it made.
use Rattle.std.proofs.Common.{◌≡◌, ◌∙◌, ℕ, List, [], ◌∷◌, ◌++◌, sym, ap, subst}
use Rattle.asp_job.specs.declared.answer.Finished.{Finished}
use Rattle.asp_job.specs.declared.entry.EndKind.TheVariants.{Done}
use Rattle.asp_job.specs.declared.entry.Entry.{Entry}
use Rattle.asp_job.specs.declared.entry.What.{What}
use Rattle.asp_job.specs.declared.entry.What.TheVariants.{End}
use Rattle.asp_job.specs.Journal.{AreRight, FollowsMeaning, IsRight}
use Rattle.asp_job.specs.Keys.{told}
use Rattle.asp_job.specs.Output.{finished_in, made_in}
use Rattle.asp_job.specs.Rules.{Rules}
use Rattle.asp_job.specs.Told.{Ends, Meaning, Told}
use Rattle.asp_acts.specs.ActEnds.{MetNoLimit, ends_of}
use Rattle.asp_acts.specs.Running.{does, meaning_of}
use Rattle.asp_site.specs.declared.site.Site.{Site}
use Rattle.host_laws.specs.Objects.{ObjectsEnd}

-- the law of a run's meaning
abbrev pub RunsEnd : Type 0
RunsEnd = (site : Site) (told : Told) (finished : Finished) → MetNoLimit (ends_of site told)
    → does site told ≡ Ends finished → finished.made ≡ finished.finished

-- an entry of a journal is right, given those before it
right_there : (rules : Rules) (newer past : List Entry) (entry : Entry) → AreRight rules (newer ++ entry ∷ past)
    → IsRight rules past entry
right_there rules [] past entry right = right.0
right_there rules (first ∷ newer) past entry right = right_there rules newer past entry right.1

ended_even : (runs : RunsEnd) (site : Site) (rules : Rules) → rules.meaning ≡ meaning_of site → (past : List Entry)
    (lane run status size made finished : ℕ)
    → FollowsMeaning rules past lane (End run Done status size made finished)
    → MetNoLimit (ends_of site (told rules past run)) → made ≡ finished
ended_even runs site rules meaning past lane run status size made finished follows met =
    let left = follows.0.0 in
    let comes : rules.meaning.does (told rules past run) ≡ Ends left = follows.0.1 in
    let same : does site (told rules past run) ≡ Ends left =
    ap (λ (one : Meaning). one.does (told rules past run)) (sym meaning) ∙ comes in
    let is = follows.1 in
    let made_is : made ≡ made_in (rules.meaning.does (told rules past run)) = cc (is) in
    let finished_is : finished ≡ finished_in (rules.meaning.does (told rules past run)) = cc (is) in
    made_is ∙ ap made_in comes ∙ runs site (told rules past run) left met same ∙ sym (finished_is ∙ ap finished_in comes)

pub objects_end : RunsEnd → ObjectsEnd
objects_end runs site rules meaning journal newer past entry run status size made finished valid cut is met =
    let right = right_there rules newer past entry (subst (AreRight rules) cut valid.entries) in
    ended_even runs site rules meaning past entry.lane run status size made finished
    (subst (λ (what : What). FollowsMeaning rules past entry.lane what) is right.follows) met
