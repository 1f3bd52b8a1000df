use Rattle.asp_record.proofs.Journals as journals
use Rattle.asp_record.proofs.laws.one_journal.Goals as goal

pub returns : goal.returns
returns c = journals.one_journal
