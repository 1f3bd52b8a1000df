use Rattle.vb_plain.proofs.plain.+down.Given as goal

abbrev pub decreases-argument : goal.decreases-argument
decreases-argument g l = l.levels

abbrev pub decreases-assign : goal.decreases-assign
decreases-assign g l = l.levels

abbrev pub decreases-call : goal.decreases-call
decreases-call g l = l.levels

abbrev pub decreases-enter : goal.decreases-enter
decreases-enter g l = l.levels

abbrev pub decreases-statement : goal.decreases-statement
decreases-statement g l = l.levels

abbrev pub decreases-value : goal.decreases-value
decreases-value g l = l.levels
