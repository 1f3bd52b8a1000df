use Rattle.asp_record.proofs.OneRecording.{only_one}
use Rattle.asp_record.proofs.reading.read_recording.Goals as goal

pub returns-clause-only : goal.returns-clause-only
returns-clause-only c =
    only_one c.args.bytes.now c.recording_at.result c.recording_at.ensures.recording c.recording_at.ensures.refused
