-- A recording that was fed to its end.
use Rattle.std.proofs.Common.{◌≡◌, ℕ, ◌&&◌, Bool, true, false, List, [], ◌∷◌, refl, sym, ◌∙◌, inl}
use Rattle.std.proofs.Common.{inr}
use Rattle.std.proofs.Common.{Option}
use Rattle.asp_job.specs.declared.entry.Entry.{Entry}
use Rattle.asp_job.specs.Rules.{Rules}
use Rattle.asp_job.specs.Runs.{is_stopping}
use Rattle.asp_lane.specs.Started.{HasStarted}
use Rattle.asp_record.specs.declared.recording.Item.{Item}
use Rattle.asp_replay.specs.Feed.{HasFed}
use Rattle.asp_feed.specs.Feeding.{Clients, IsFed, is_calm}
use Rattle.asp_replay.specs.Underway.{IsUnderWay, StandsAt, is_over}

-- ---- the end

and_parts : (a b : Bool) → a && b ≡ true → (a ≡ true) × (b ≡ true)
and_parts true b e = (refl, e)
and_parts false b e = absurd cc

fed_of : (items : List Item) (past : List Entry) (clients : Clients) (left : List Item) → is_stopping past ≡ true
    → StandsAt items past clients left → IsFed items past
fed_of items past clients left stopped (inl feeding) =
    absurd (let both : true ≡ false = sym stopped ∙ feeding.open_still in cc)
fed_of items past clients left stopped (inr fed) = fed.fed

pub over_fed : (m : Rules) (items : List Item) (past : List Entry) (clients : Clients) (left : List Item)
    (before after : Option (List ℕ)) → is_over past left ≡ true → HasStarted m past
    → IsUnderWay m items past clients left before after → HasFed m items past before after
over_fed m items past clients [] before after over started is =
    let both = and_parts (is_stopping past) (is_calm past) over in
    record {
      whole = record {
        fed = fed_of items past clients [] both.0 is.stands;
        started = started;
        ended = both.1;
        none_full = is.lane.none_full;
        sequential = λ none. (let turns = is.turns none in record {
          count = turns.0;
          clients = clients;
          turns = turns.1;
          stopped = both.0;
          calm = both.1;
        });
      };
      written = is.written;
    }
over_fed m items past clients (next ∷ left) before after over started is = absurd cc
