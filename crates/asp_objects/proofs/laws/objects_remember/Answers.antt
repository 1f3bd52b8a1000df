use Rattle.asp_objects.proofs.Remembering.{answered_remembers, asked_remembers}
use Rattle.asp_objects.proofs.laws.objects_remember.Goals as goal

pub returns : goal.returns
returns c = record { asked = asked_remembers; answered = answered_remembers }
