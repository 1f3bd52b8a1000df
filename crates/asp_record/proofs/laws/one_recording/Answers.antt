use Rattle.asp_record.proofs.OneRecording as recordings
use Rattle.asp_record.proofs.laws.one_recording.Goals as goal

pub returns : goal.returns
returns c = recordings.one_recording
