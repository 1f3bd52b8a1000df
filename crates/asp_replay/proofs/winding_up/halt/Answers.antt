use Rattle.asp_replay.proofs.WindingUp.{halt_fits, halt_quiet}
use Rattle.asp_replay.proofs.winding_up.halt.Goals as goal

pub returns-clause-grows : goal.returns-clause-grows
returns-clause-grows g c =
    (halt_quiet c.args.core.now c.halt.new.self
    (record { first = c.halt.ensures.first; again = c.halt.ensures.again })).0

pub returns-clause-halted : goal.returns-clause-halted
returns-clause-halted g c =
    (halt_quiet c.args.core.now c.halt.new.self
    (record { first = c.halt.ensures.first; again = c.halt.ensures.again })).1

pub returns-clause-fits : goal.returns-clause-fits
returns-clause-fits g c = λ in_hand fits.
    halt_fits g.R.Runner.meaning g.R.Runner.stands c.args.core.now c.halt.new.self in_hand
    (record { first = c.halt.ensures.first; again = c.halt.ensures.again }) c.journal.ensures.valid.entries fits
