-- A recording has one history of one lane.
use Rattle.std.proofs.Common.{◌≡◌, ℕ, zero, suc, ◌<◌, List, [], refl, sym, subst, ◌∙◌, inl, inr, arith}
use Rattle.std.proofs.lemmas.Bool.{cases_lt}
use Rattle.asp_job.specs.declared.entry.Entry.{Entry}
use Rattle.asp_job.specs.Rules.{Rules}
use Rattle.asp_record.specs.declared.recording.Item.{Item}
use Rattle.asp_feed.specs.Feeding.{Clients}
use Rattle.asp_replay.specs.Sequential.{AreTurns, IsSequential, IsTurn, Place, first_place}
use Rattle.replay_laws.proofs.OneJob.{OneFront}
use Rattle.replay_laws.proofs.OneTurn.{IsOver, none_after, one_turn}

abbrev last_place : List Entry → Clients → Place
last_place past clients = record { past = past; items = []; clients = clients }

module _ (fronts : OneFront) (rules : Rules) where
  -- so many turns from one place lead to one place
  same_turns : (count : ℕ) (from to other : Place) → AreTurns rules count from to → AreTurns rules count from other
      → to ≡ other
  same_turns zero from to other is also = is ∙ sym also
  same_turns (suc count) from to other is also =
      let mid : is.0 ≡ also.0 = same_turns count from is.0 also.0 is.1 also.1 in
      one_turn fronts rules also.0 to other (subst (λ place. IsTurn rules place to) mid is.2) also.2

  -- no more turns than lead to a place where none is left
  no_more : (fewer count : ℕ) (from to other : Place) → fewer < count → IsOver to → AreTurns rules fewer from to
      → AreTurns rules count from other → ⊥
  no_more fewer zero from to other less over is also = omega arith
  no_more fewer (suc count) from to other less over is also = elim (cases_lt fewer count) [
    | inl below ↦ no_more fewer count from to also.0 below over is also.1
    | inr above ↦ (let same : fewer ≡ count = omega arith in
        let turned : AreTurns rules count from to = subst (λ some. AreTurns rules some from to) same is in
        let mid : also.0 ≡ to = same_turns count from also.0 to also.1 turned in
        none_after rules to other over (subst (λ place. IsTurn rules place other) mid also.2))
  ]

  over_place : (items : List Item) (past : List Entry) (is : IsSequential rules items past)
      → IsOver (last_place past is.clients)
  over_place items past is = record { none = refl; stopped = is.stopped; calm = is.calm }

  pub one_history : (items : List Item) (past other : List Entry) → IsSequential rules items past
      → IsSequential rules items other → past ≡ other
  one_history items past other is also =
      let from = first_place items in
      let to = last_place past is.clients in
      let last = last_place other also.clients in
      elim (cases_lt is.count also.count) [
        | inl below ↦ absurd (no_more is.count also.count from to last below (over_place items past is) is.turns
            also.turns)
        | inr above ↦ elim (cases_lt also.count is.count) [
          | inl below ↦ absurd (no_more also.count is.count from last to below (over_place items other also) also.turns
              is.turns)
          | inr under ↦ (let same : is.count ≡ also.count = omega arith in
              let turned : AreTurns rules also.count from to =
              subst (λ some. AreTurns rules some from to) same is.turns in
              let place : to ≡ last = same_turns also.count from to last turned also.turns in
              λ i. (place i).past)
        ]
      ]
