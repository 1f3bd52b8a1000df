use denote.Shadow.{shadow}
use denote.Text.{Utf8}
use Rattle.link_cases.proofs.said.write_text.Given as goal

abbrev pub invariant-loop-line : goal.invariant-loop-line
invariant-loop-line l = shadow (Utf8 l.between)
