use Rattle.asp_acts.proofs.Answering.{runs_sound}
use Rattle.asp_acts.proofs.laws.runs_answer_sound.Goals as goal

pub returns : goal.returns
returns c = runs_sound c.drafts_finish_sound.ensures c.fixed_answers_are_sound.ensures.statuses
    c.fixed_answers_are_sound.ensures.methods
