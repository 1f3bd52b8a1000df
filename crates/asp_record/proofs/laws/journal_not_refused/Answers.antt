use Rattle.asp_record.proofs.Journals.{not_refused}
use Rattle.asp_record.proofs.laws.journal_not_refused.Goals as goal

pub returns : goal.returns
returns c = not_refused
