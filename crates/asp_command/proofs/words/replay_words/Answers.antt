use Rattle.std.proofs.Common.{rules}
use Rattle.asp_command.proofs.Behind.{no_replay, other_replay}
use Rattle.asp_command.proofs.words.replay_words.Goals as goal

pub returns-in_err-said : goal.returns-in_err-said
returns-in_err-said c =
    rw c.from_residual-in_err-said.ensures (no_replay _ _ _
    (rw c.in_ok-site.ensures.cases.0 at c.in_ok-rest.ensures) c.in_err-said.ensures)

pub returns-else-are_of_replay : goal.returns-else-are_of_replay
returns-else-are_of_replay c =
    other_replay _ _ _ c.in_ok-said.said (rw c.in_ok-site.ensures.cases.0 at c.in_ok-rest.ensures)
    c.in_ok-said.ensures (search rules)
