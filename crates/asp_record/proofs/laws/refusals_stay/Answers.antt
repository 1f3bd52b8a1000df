use Rattle.asp_record.proofs.Lengths.{refusal_stays}
use Rattle.asp_record.proofs.laws.refusals_stay.Goals as goal

pub returns : goal.returns
returns c = refusal_stays
