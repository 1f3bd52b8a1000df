use Rattle.replay_laws.proofs.OneJournal.{one_journal_of_lines}
use Rattle.replay_laws.proofs.SameLines.{no_line_begins, one_lines}
use Rattle.replay_laws.proofs.SameOutput.{same_output}
use Rattle.replay_laws.proofs.laws.one_journal.Goals as goal

pub returns-clause-begins : goal.returns-clause-begins
returns-clause-begins c = no_line_begins

pub returns-clause-lines : goal.returns-clause-lines
returns-clause-lines c = one_lines c.one_journal.ensures c.journal_not_refused.ensures

pub returns-clause-journal : goal.returns-clause-journal
returns-clause-journal c = one_journal_of_lines c.one_front.ensures

pub returns-clause-replayed : goal.returns-clause-replayed
returns-clause-replayed c rules other_rules items past other bytes is also right right_also short output again =
    one_journal_of_lines c.one_front.ensures rules other_rules items past other is also
    (same_output c.one_journal.ensures c.journal_not_refused.ensures rules other_rules past other bytes right right_also
    short output again)
