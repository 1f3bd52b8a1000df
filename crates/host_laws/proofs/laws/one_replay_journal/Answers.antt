use Rattle.host_laws.proofs.OneReplayJournal as journal
use Rattle.host_laws.proofs.laws.one_replay_journal.Goals as goal

pub returns : goal.returns
returns c = journal.one_replay_journal c.one_recording.ensures c.one_journal.ensures.replayed
