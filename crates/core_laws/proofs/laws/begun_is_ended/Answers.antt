use Rattle.asp_job.specs.declared.entry.EndKind.TheVariants.{Memory}
use Rattle.core_laws.proofs.Ended as over
use Rattle.core_laws.proofs.laws.begun_is_ended.Goals as goal

pub returns : goal.returns
returns c = λ rules past lane run valid within running. over.is_ended c.answer_stays.ensures
    c.holder_is_unfinished.ensures c.answers_wait.ensures rules past lane run running valid.entries
    (c.end_fits.ensures.may rules past lane run valid running)
    (c.end_fits.ensures.within rules past lane run Memory _ _ _ _ valid.entries within running.unfinished)
