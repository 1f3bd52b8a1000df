use Rattle.host_laws.proofs.OneReplayOutput as output
use Rattle.host_laws.proofs.laws.one_replay_output.Goals as goal

pub returns : goal.returns
returns c = output.one_replay_output c.one_site.ensures c.one_recording.ensures c.one_replay.ensures.items
