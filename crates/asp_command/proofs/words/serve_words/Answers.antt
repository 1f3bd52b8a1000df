use Rattle.std.proofs.Common.{rules}
use Rattle.asp_command.proofs.Behind.{no_serve, unsaid_serve, journal_served}
use Rattle.asp_command.proofs.words.serve_words.Goals as goal

pub returns-in_err-said : goal.returns-in_err-said
returns-in_err-said c =
    rw c.from_residual-in_err-said.ensures (no_serve _ _ _
    (rw c.in_ok-site.ensures.cases.0 at c.in_ok-rest.ensures) c.in_err-said.ensures)

pub returns-in_err-requests : goal.returns-in_err-requests
returns-in_err-requests c =
    rw c.from_residual-in_err-requests.ensures (unsaid_serve _ _ _ c.in_ok-said.said
    (rw c.in_ok-site.ensures.cases.0 at c.in_ok-rest.ensures) c.in_ok-said.ensures (search rules))

pub returns-then-said : goal.returns-then-said
returns-then-said c =
    journal_served _ _ _ c.in_ok-said.said (rw c.in_ok-site.ensures.cases.0 at c.in_ok-rest.ensures)
    c.in_ok-said.ensures (search rules)
