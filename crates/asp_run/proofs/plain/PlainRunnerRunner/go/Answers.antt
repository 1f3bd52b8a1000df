use Rattle.std.proofs.Common.{◌∙◌, IfSome, ap, subst, sym}
use Rattle.asp_job.specs.declared.answer.Finished.{Finished}
use Rattle.asp_job.specs.Running.{IsBounded}
use Rattle.asp_job.specs.Told.{Wants, Ends}
use Rattle.asp_run.proofs.Going.{comes_to, stands_over}
use Rattle.asp_run.proofs.plain.PlainRunnerRunner.go.Goals as goal

pub returns-in-Ok-Ends-clause-step : goal.returns-in-Ok-Ends-clause-step
returns-in-Ok-Ends-clause-step c = λ told spent stood.
    let work = rw c.in-Ok-Ends.field-0-is at c.in-Ok-Ends.ensures.work in (
      (
        c.into_finished.result,
        comes_to c.args.site.now c.args.run.now c.goes.new.run told (Ends c.into_finished.result) stood
            c.in-Ok-Ends.ensures.told (ap Ends c.into_finished.ensures.same ∙ work),
      ),
      tt,
    )

pub returns-in-Ok-Ends-clause-stands : goal.returns-in-Ok-Ends-clause-stands
returns-in-Ok-Ends-clause-stands c = λ told spent stood.
    let work = rw c.in-Ok-Ends.field-0-is at c.in-Ok-Ends.ensures.work in
    let may = rw c.in-Ok-Ends.field-0-is at c.in-Ok-Ends.ensures.may in
    stands_over c.args.site.now c.args.run.now c.goes.new.run told c.into_finished.result stood
    c.in-Ok-Ends.ensures.told (ap Ends c.into_finished.ensures.same ∙ work)
    (subst (λ (one : Finished). IfSome one.answer IsBounded) (sym c.into_finished.ensures.same) may)
    c.into_finished.ensures.session

pub returns-in-Ok-Wants-clause-step : goal.returns-in-Ok-Wants-clause-step
returns-in-Ok-Wants-clause-step c = λ told spent stood.
    let work = rw c.in-Ok-Wants.field-0-is at c.in-Ok-Wants.ensures.work in (
      comes_to c.args.site.now c.args.run.now c.goes.new.run told (Wants c.in-Ok-Wants.call) stood
          c.in-Ok-Wants.ensures.told work,
      tt,
    )
