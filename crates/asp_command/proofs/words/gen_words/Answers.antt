use Rattle.std.proofs.Common.{rules}
use Rattle.asp_command.proofs.Behind.{no_gen, other_gen}
use Rattle.asp_command.proofs.words.gen_words.Goals as goal

pub returns-in_err-said : goal.returns-in_err-said
returns-in_err-said c =
    rw c.from_residual-in_err-said.ensures (no_gen _ _ _
    (rw c.in_ok-number.ensures.cases.0 at c.in_ok-rest.ensures) c.in_err-said.ensures)

pub returns-else-are_of_gen : goal.returns-else-are_of_gen
returns-else-are_of_gen c =
    other_gen _ _ _ c.in_ok-said.said (rw c.in_ok-number.ensures.cases.0 at c.in_ok-rest.ensures)
    c.in_ok-said.ensures (search rules)
