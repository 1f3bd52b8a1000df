use Rattle.host_laws.proofs.OneGenJournal as journal
use Rattle.host_laws.proofs.laws.one_gen_journal.Goals as goal

pub returns : goal.returns
returns c = journal.one_gen_journal c.one_journal.ensures.begins c.one_journal.ensures.lines
    c.one_journal.ensures.journal
