use Rattle.asp_desk.specs.Hands.{rules_at}
use Rattle.asp_replay.specs.Near.{HasWorked, IsBorneOut, IsLead, past_in}
use Rattle.asp_replay.proofs.beginning.begin_near.Given as goal

abbrev pub invariant-loop : goal.invariant-loop
invariant-loop g l =
    IsLead g.R.Runner.meaning g.R.Runner.stands l.host l.hand
    × (IsBorneOut (rules_at g.R.Runner.meaning l.host) (past_in l.hand)
    → HasWorked (past_in l.initial.hand) (past_in l.hand))
