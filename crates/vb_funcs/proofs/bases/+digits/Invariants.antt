use Rattle.vb_funcs.proofs.bases.+digits.Given as goal

abbrev pub decreases-digits : goal.decreases-digits
decreases-digits l = l.n
