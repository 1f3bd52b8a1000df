use Rattle.function_laws.proofs.SoundResults.{gives_sound}
use Rattle.function_laws.proofs.laws.results_are_sound.Goals as goal

pub returns : goal.returns
returns c = gives_sound
