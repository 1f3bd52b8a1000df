use Rattle.asp_record.proofs.GeneratedSound as sound
use Rattle.asp_record.proofs.laws.generated_sound.Goals as goal

pub returns : goal.returns
returns c = sound.generated_sound
