use Rattle.asp_response.proofs.Finishing.{not_allowed_sound, status_answer_sound, unavailable_sound}
use Rattle.asp_response.proofs.laws.fixed_answers_are_sound.Goals as goal

pub returns : goal.returns
returns c = record { statuses = status_answer_sound; methods = not_allowed_sound; causes = unavailable_sound }
