use Rattle.asp_record.proofs.Journals.{only_one}
use Rattle.asp_record.proofs.journal.read_lines.Goals as goal

pub returns-clause-only : goal.returns-clause-only
returns-clause-only c =
    only_one c.args.bytes.now c.all_lines.result c.all_lines.ensures.lines c.all_lines.ensures.refused
