use Rattle.asp_record.proofs.OneRecording.{not_refused}
use Rattle.asp_record.proofs.laws.recording_not_refused.Goals as goal

pub returns : goal.returns
returns c = not_refused
