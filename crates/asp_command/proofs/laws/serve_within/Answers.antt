use Rattle.asp_command.proofs.Ranges.{serve_within as within}
use Rattle.asp_command.proofs.laws.serve_within.Goals as goal

pub returns : goal.returns
returns c = within
