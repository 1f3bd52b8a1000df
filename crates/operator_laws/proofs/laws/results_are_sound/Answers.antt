use Rattle.operator_laws.proofs.SoundResults.{sound_of_one, sound_of_two}
use Rattle.operator_laws.proofs.laws.results_are_sound.Goals as goal

pub returns-clause-one : goal.returns-clause-one
returns-clause-one c = sound_of_one

pub returns-clause-two : goal.returns-clause-two
returns-clause-two c = sound_of_two
