use Rattle.host_laws.proofs.Heads.{heads_stay}
use Rattle.host_laws.proofs.laws.heads_stay_whole.Goals as goal

pub returns : goal.returns
returns c = heads_stay c.heads_are_whole.ensures c.fixed_answers_are_sound.ensures.causes
    c.runs_answer_sound.ensures
