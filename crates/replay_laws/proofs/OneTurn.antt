-- A place has one turn out of it.
use Rattle.std.proofs.Common.{◌≡◌, true, false, List, [], ◌∷◌, sym, ap, subst, ◌∙◌, inl, inr}
use Rattle.asp_core.specs.Drawing.{entry_then}
use Rattle.asp_job.specs.declared.entry.Entry.{Entry}
use Rattle.asp_job.specs.declared.job.Job.{Job}
use Rattle.asp_job.specs.Journal.{admit_entries, past_after}
use Rattle.asp_job.specs.Rules.{Rules}
use Rattle.asp_job.specs.Runs.{is_stopping}
use Rattle.asp_record.specs.declared.recording.Item.{Item}
use Rattle.asp_record.specs.declared.recording.Item.TheVariants as item
use Rattle.asp_record.specs.Recorded as recorded
use Rattle.asp_feed.specs.Feeding.{Clients, clients_after, is_calm}
use Rattle.asp_replay.specs.Sequential.{AddsItem, IsBusy, IsComing, IsStopping, IsTurn, IsWorking, Place, handed_out}
use Rattle.asp_replay.specs.Sequential.{may_come}
use Rattle.replay_laws.proofs.OneJob.{OneFront, one_job}
use Rattle.replay_laws.proofs.OneWork.{one_work}

same_place : (to other : Place) → to.past ≡ other.past → to.items ≡ other.items → to.clients ≡ other.clients
    → to ≡ other
same_place to other past items clients = λ i. record { past = past i; items = items i; clients = clients i }

-- ---- turns of two kinds

no_item_stops : (rules : Rules) (from to other : Place) → IsComing rules from to → IsStopping rules from other → ⊥
no_item_stops rules from to other comes stops =
    let both : comes.next ∷ to.items ≡ [] = sym comes.items_are ∙ stops.none in
    cc

no_item_works : (rules : Rules) (from to other : Place) → IsComing rules from to → IsWorking rules from other → ⊥
no_item_works rules from to other comes works =
    let busy : may_come from.past (recorded.moment_of comes.next) ≡ false =
    subst (IsBusy from.past) comes.items_are works.busy in
    let both : true ≡ false = sym comes.may ∙ busy in
    cc

no_stop_works : (rules : Rules) (from to other : Place) → IsStopping rules from to → IsWorking rules from other → ⊥
no_stop_works rules from to other stops works =
    let busy : is_calm from.past ≡ false = subst (IsBusy from.past) stops.none works.busy in
    let both : true ≡ false = sym stops.calm ∙ busy in
    cc

-- ---- turns of one kind

module _ (fronts : OneFront) (rules : Rules) where
  -- an item adds one thing
  one_adds : (past : List Entry) (clients : Clients) (next : Item) (entries others : List Entry) (left last : Clients)
      → AddsItem rules past clients next entries left → AddsItem rules past clients next others last
      → (entries ≡ others) × (left ≡ last)
  one_adds past clients (item.Tick moment) entries others left last is also =
      (is.0 ∙ sym also.0, is.1 ∙ sym also.1)
  one_adds past clients (item.Request client moment bytes) entries others left last is also =
      let job : is.0 ≡ also.0 = one_job fronts clients client moment bytes is.0 also.0 is.1 also.1 in (
        is.2 ∙ ap (admit_entries rules past 0) job ∙ sym also.2,
        is.3 ∙ ap (λ (some : Job). clients_after clients client (entry_then rules past 0 some).what) job ∙ sym also.3,
      )

  one_coming : (from to other : Place) → IsComing rules from to → IsComing rules from other → to ≡ other
  one_coming from to other is also =
      let items : is.next ∷ to.items ≡ also.next ∷ other.items = sym is.items_are ∙ also.items_are in
      let next : is.next ≡ also.next = cc in
      let left : to.items ≡ other.items = cc in
      let turned : AddsItem rules from.past from.clients also.next is.entries to.clients =
      subst (λ some. AddsItem rules from.past from.clients some is.entries to.clients) next is.adds in
      let added = one_adds from.past from.clients also.next is.entries also.entries to.clients other.clients turned
      also.adds in
      let past : to.past ≡ other.past =
      is.past_is ∙ ap (λ some. handed_out rules (past_after from.past some)) added.0 ∙ sym also.past_is in
      same_place to other past left added.1

  one_stopping : (from to other : Place) → IsStopping rules from to → IsStopping rules from other → to ≡ other
  one_stopping from to other is also =
      same_place to other (is.past_is ∙ sym also.past_is) (is.none_then ∙ sym also.none_then)
      (is.clients_are ∙ sym also.clients_are)

  one_working : (from to other : Place) → IsWorking rules from to → IsWorking rules from other → to ≡ other
  one_working from to other is also =
      let mid : is.mid ≡ also.mid = one_work rules from.past is.mid also.mid is.works also.works in
      same_place to other (is.past_is ∙ ap (handed_out rules) mid ∙ sym also.past_is)
      (is.items_are ∙ sym also.items_are) (is.clients_are ∙ sym also.clients_are)

  -- a turn is determined by the place from which it starts
  pub one_turn : (from to other : Place) → IsTurn rules from to → IsTurn rules from other → to ≡ other
  one_turn from to other (inl comes) (inl also) = one_coming from to other comes also
  one_turn from to other (inl comes) (inr (inl stops)) = absurd (no_item_stops rules from to other comes stops)
  one_turn from to other (inl comes) (inr (inr works)) = absurd (no_item_works rules from to other comes works)
  one_turn from to other (inr (inl stops)) (inl comes) = absurd (no_item_stops rules from other to comes stops)
  one_turn from to other (inr (inl stops)) (inr (inl also)) = one_stopping from to other stops also
  one_turn from to other (inr (inl stops)) (inr (inr works)) = absurd (no_stop_works rules from to other stops works)
  one_turn from to other (inr (inr works)) (inl comes) = absurd (no_item_works rules from other to comes works)
  one_turn from to other (inr (inr works)) (inr (inl stops)) = absurd (no_stop_works rules from other to stops works)
  one_turn from to other (inr (inr works)) (inr (inr also)) = one_working from to other works also

-- ---- where no turn is left

-- all items came, the host has stopped, and nothing is under way
pub record IsOver (place : Place) : Type 0 where
  pub none : place.items ≡ []
  pub stopped : is_stopping place.past ≡ true
  pub calm : is_calm place.past ≡ true

pub none_after : (rules : Rules) (place to : Place) → IsOver place → IsTurn rules place to → ⊥
none_after rules place to over (inl comes) =
    let both : comes.next ∷ to.items ≡ [] = sym comes.items_are ∙ over.none in
    cc
none_after rules place to over (inr (inl stops)) =
    let both : true ≡ false = sym over.stopped ∙ stops.once in
    cc
none_after rules place to over (inr (inr works)) =
    let busy : is_calm place.past ≡ false = subst (IsBusy place.past) over.none works.busy in
    let both : true ≡ false = sym over.calm ∙ busy in
    cc
