use Rattle.replay_laws.proofs.OneReplay as replay
use Rattle.replay_laws.proofs.laws.one_replay.Goals as goal

pub returns-clause-items : goal.returns-clause-items
returns-clause-items c = replay.one_replay c.one_front.ensures

pub returns-clause-bytes : goal.returns-clause-bytes
returns-clause-bytes c = replay.one_replay_of_bytes c.one_front.ensures c.one_recording.ensures
