use Rattle.std.proofs.Common.{reverse}
use Rattle.asp_job.specs.Runs.{drawn}
use Rattle.asp_job.specs.Turns.{may_begin}
use Rattle.asp_journal.proofs.Passing.{finds_none, finds_some, finds_within, finds_least}
use Rattle.asp_journal.proofs.journal.Journal.next_run.Goals as goal

pub returns-clause-none : goal.returns-clause-none
returns-clause-none c = finds_none (may_begin (reverse c.args.self.now.items)) (drawn (reverse c.args.self.now.items))
    c.first_run.result c.first_run.ensures

pub returns-clause-next : goal.returns-clause-next
returns-clause-next c = finds_some (may_begin (reverse c.args.self.now.items)) (drawn (reverse c.args.self.now.items))
    c.first_run.result c.first_run.ensures

pub returns-clause-within : goal.returns-clause-within
returns-clause-within c = finds_within (may_begin (reverse c.args.self.now.items))
    (drawn (reverse c.args.self.now.items)) c.first_run.result c.first_run.ensures

pub returns-clause-least : goal.returns-clause-least
returns-clause-least c = finds_least (may_begin (reverse c.args.self.now.items)) (drawn (reverse c.args.self.now.items))
    c.first_run.result c.first_run.ensures
