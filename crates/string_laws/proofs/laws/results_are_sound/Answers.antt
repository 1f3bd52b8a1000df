use Rattle.string_laws.proofs.SoundLaws.{results_are_sound}
use Rattle.string_laws.proofs.laws.results_are_sound.Goals as goal

pub returns : goal.returns
returns c = results_are_sound
