use Rattle.core_laws.proofs.Fitting as fitting
use Rattle.core_laws.proofs.laws.end_fits.Goals as goal

pub returns-clause-may : goal.returns-clause-may
returns-clause-may c = fitting.may_end

pub returns-clause-within : goal.returns-clause-within
returns-clause-within c = fitting.end_fits
