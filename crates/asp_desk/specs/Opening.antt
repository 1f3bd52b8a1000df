-- How a host begins, and what its hands then are. All of it is the product's own.
use Rattle.std.specs.Prelude.{List, [], ◌∷◌, map, None}
use Rattle.turn_desk.specs.Shown.{LaneView, new_lanes}
use Rattle.asp_job.specs.declared.entry.Entry.{Entry}
use Rattle.asp_job.specs.declared.entry.What.TheVariants.{Queue}
use Rattle.asp_job.specs.declared.job.Work.TheVariants as work
use Rattle.asp_job.specs.History.{with_lane}
use Rattle.asp_core.specs.Kernel.{RunView}
use Rattle.asp_desk.specs.Hands.{Fixed, HandView, HostView}

-- a hand with this lane and without a run
abbrev pub free_hand : {E F Run : Type 0} → LaneView E F → HandView E F Run
free_hand lane = record { lane = lane; run = None }

-- the journal of a new host: lane 0 has queued the first run
abbrev pub first_journal : List Entry
first_journal = with_lane 0 (Queue 1 work.Start 0) ∷ []

-- the hands of a new host, numbered from 0, each of which has seen that journal
abbrev pub new_hands : {R Site State : Type 0} → HostView R Site → List (HandView Entry (Fixed R Site) (RunView State))
new_hands host = map free_hand (new_lanes (λ entry. entry.lane) host.desk first_journal)
