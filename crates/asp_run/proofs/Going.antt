-- What a run that goes on comes to.
use Rattle.std.proofs.Common.{◌≡◌, ◌∙◌, refl, sym, ap}
use Rattle.std.specs.Prelude.{IfSome}
use Rattle.asp_job.specs.declared.answer.Finished.{Finished}
use Rattle.asp_job.specs.Running.{IsBounded, is_page}
use Rattle.asp_job.specs.Session.{IsSession}
use Rattle.asp_job.specs.Told.{Told, Outcome, Ends}
use Rattle.asp_site.specs.declared.site.Site.{Site}
use Rattle.asp_run.specs.declared.run.At.TheVariants as at
use Rattle.asp_run.specs.declared.run.PlainRun.{PlainRun}
use Rattle.asp_acts.specs.Running.{does, work_of}
use Rattle.asp_run.specs.Stands.{Stands, told_of}
use Rattle.asp_run.proofs.Left.{answered, has_answer}

does_come : (site : Site) (run : PlainRun) (told : Told) (outcome : Outcome) → told ≡ told_of run
    → outcome ≡ work_of site (told_of run) run.job.work → does site told ≡ outcome
unfolding does
does_come site run told outcome same is = ap (λ (one : Told). work_of site one one.job.work) same ∙ sym is

-- what a run comes to that was told this is what its meaning has
pub comes_to : (site : Site) (old run : PlainRun) (told : Told) (outcome : Outcome) → Stands site old told
    → told_of run ≡ told_of old → outcome ≡ work_of site (told_of run) run.job.work → does site told ≡ outcome
comes_to site old run told outcome stood same is = does_come site run told outcome (stood.told_is ∙ sym same) is

-- it stands at its end
pub stands_over : (site : Site) (old run : PlainRun) (told : Told) (finished : Finished) → Stands site old told
    → told_of run ≡ told_of old → Ends finished ≡ work_of site (told_of run) run.job.work
    → IfSome finished.answer IsBounded → IfSome finished.session IsSession
    → Stands site (record run { at = at.Over finished }) told
stands_over site old run told finished stood same is bounded session = record {
  told_is = stood.told_is ∙ sym same;
  at_is = (
    does_come site run (told_of run) (Ends finished) refl is,
    record {
      answered = ap (has_answer (is_page run.job.work)) is ∙ answered site (told_of run) run.job.work;
      bounded = bounded;
      session_is = session;
    },
  );
}
