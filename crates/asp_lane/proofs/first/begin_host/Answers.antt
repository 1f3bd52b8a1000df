use Rattle.asp_lane.proofs.Firsts.{begun_first, first_stop, free_first}
use Rattle.asp_lane.proofs.first.begin_host.Goals as goal

pub go_through-requires-clause-free : goal.go_through-requires-clause-free
go_through-requires-clause-free g c = free_first c.args.core.now c.args.lane c.requires.first

pub returns-in-Ok-clause-ok : goal.returns-in-Ok-clause-ok
returns-in-Ok-clause-ok g c =
    begun_first g.R.Runner.meaning c.args.core.now c.go_through.new.core c.args.lane _ c.start_fail.result
    c.requires.first c.go_through.ensures.grows c.in-Ok.ensures.ok c.journal.ensures.valid c.start_fail.ensures

pub returns-in-Err-clause-err : goal.returns-in-Err-clause-err
returns-in-Err-clause-err g c =
    first_stop g.R.Runner.meaning c.args.core.now c.args.lane c.in-Err.stop c.requires.first c.in-Err.ensures.err
