use denote.Shadow.{shadow}
use denote.Text.{Utf8}
use Rattle.asp_desk.specs.Hands.{IsHandOf}
use Rattle.link_cases.proofs.story.write_steps.Given as goal

abbrev pub invariant-loop-step : goal.invariant-loop-step
invariant-loop-step g l = IsHandOf g.R.Runner.meaning g.R.Runner.stands l.host l.hand
    × IsHandOf g.R.Runner.meaning g.R.Runner.stands l.host l.other
    × shadow (Utf8 l.between)
