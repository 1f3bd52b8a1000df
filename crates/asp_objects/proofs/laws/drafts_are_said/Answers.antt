use Rattle.asp_objects.proofs.Drafting.{answered_drafts, asked_drafts}
use Rattle.asp_objects.proofs.laws.drafts_are_said.Goals as goal

pub returns : goal.returns
returns c = record { asked = asked_drafts; answered = answered_drafts }
