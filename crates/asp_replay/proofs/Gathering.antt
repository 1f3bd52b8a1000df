-- The hands of a host that were dealt, have worked and are back, and the core of the host once it is closed.
use Rattle.std.proofs.Common.{◌≡◌, ◌⊎◌, ℕ, ◌+◌, ◌≤◌, List, [], ◌∷◌, ◌++◌, All, IfErr, IfOk, IfSome, None, OnOk, Option}
use Rattle.std.proofs.Common.{Result, Ok, Err, ap, arith, inr, length, map, refl, subst, sym, ◌∙◌}
use Rattle.std.specs.List.{AllZip}
use Rattle.std.proofs.lemmas.List.Elements.{recursion_from_All}
use Rattle.turn_desk.specs.Histories.{AreOfLanes}
use Rattle.turn_desk.specs.Shown.{LaneFits}
use Rattle.asp_core.specs.Kernel.{CoreView, RunView, past_of, rules_of}
use Rattle.asp_core.specs.Ready.{IsAnswered}
use Rattle.asp_desk.specs.Crews.{with_place}
use Rattle.asp_desk.specs.declared.slices.Slice.{Slice}
use Rattle.asp_desk.specs.declared.slices.Slice.TheVariants as slice
use Rattle.asp_desk.specs.declared.worker.WorkerOf.{WorkerOf}
use Rattle.asp_desk.specs.Hands.{Fixed, HandView, HostView, IsHandOf, core_at, rules_at}
use Rattle.asp_desk.specs.Opening.{first_journal, new_hands}
use Rattle.asp_job.specs.declared.entry.Entry.{Entry}
use Rattle.asp_job.specs.Journal.{IsValidJournal}
use Rattle.asp_job.specs.Rules.{Rules}
use Rattle.asp_job.specs.Told.{Meaning, Told}
use Rattle.asp_record.specs.declared.recording.Item.{Item}
use Rattle.asp_replay.specs.declared.stop.FeedStop.{FeedStop}
use Rattle.asp_replay.specs.Near.{IsBorneOut, IsLead, LeavesBy, past_in}
use Rattle.asp_replay.specs.Underway.{HasNotBegun, IsCoreOf}
use Rattle.asp_replay.specs.Workers.{HasFedBeside, HasFedPartBeside, HasHelped, IsDealt, IsEarly, IsIdle, first_stop}
use Rattle.asp_replay.proofs.Back.{back_are, back_free, back_many, closed_leaves, early_met, hands_in, many_in}
use Rattle.asp_replay.proofs.Closing.{AreFresh, dealt_from, first_hand, first_lead, first_seen, fresh_rest, hands_from}
use Rattle.asp_replay.proofs.Closing.{hands_many, idle_rest}
use Rattle.asp_replay.proofs.Endings.{err_then, ok_back, ok_then}
use Rattle.asp_replay.proofs.Others.{lane_in}

pub on_ok : {C : Type 0} (result : Result C FeedStop) (P : Type 0) → P → OnOk result P
on_ok (Ok back) P holds = holds
on_ok (Err ended) P holds = tt

module _ {R Site State : Type 0} (meaning : R → Site → Meaning) (stands : R → Site → State → Told → ℕ → Type 0)
    (host : HostView R Site) where
  abbrev Hand : Type 0
  Hand = HandView Entry (Fixed R Site) (RunView State)

  abbrev Worker : Type 0
  Worker = WorkerOf Hand Slice

  abbrev Of : Hand → Type 0
  Of hand = IsHandOf meaning stands host hand

  pub some_hands : (hands : List Hand) → hands ≡ new_hands host → length hands ≡ host.desk.lanes
  some_hands hands new = ap length new ∙ hands_many meaning stands host 0 host.desk.lanes

  module _ {hands : List Hand} {first : Hand} {crew : List Worker} {items : List Hand} {room : ℕ}
      (new : hands ≡ new_hands host) (of : All Of hands) (dealt : IsDealt hands first crew items room) where
    from : (first ≡ first_hand meaning stands host)
        × ((more : ℕ) × (dealt.rest ≡ hands_from meaning stands host 1 more))
    from = dealt_from meaning stands host host.desk.lanes first dealt.rest (sym new ∙ dealt.hands_are)

    all : All Of (first ∷ dealt.rest)
    all = subst (All Of) dealt.hands_are of

    pub lead_dealt : IsLead meaning stands host first
    lead_dealt = first_lead meaning stands host first from.0 (recursion_from_All Of (first ∷ dealt.rest) all).0

    pub seen_dealt : first.lane.seen ≡ first_journal
    seen_dealt = first_seen meaning stands host first from.0

    pub idle_dealt : All (IsIdle meaning stands host) crew
    idle_dealt = subst (All (IsIdle meaning stands host)) (sym dealt.crew_is)
        (idle_rest meaning stands host first dealt.rest from.1.0 from.1.1 all)

    fresh_dealt : AreFresh meaning stands host 1 crew
    fresh_dealt = subst (AreFresh meaning stands host 1) (sym dealt.crew_is)
        (fresh_rest meaning stands host dealt.rest from.1.0 from.1.1)

    module _ (news : List Worker) (helped : AllZip (HasHelped meaning stands host) crew news) where
      rest_helped : AllZip (HasHelped meaning stands host) (map (with_place slice.Idle) dealt.rest) news
      rest_helped =
          subst (λ (some : List Worker). AllZip (HasHelped meaning stands host) some news) dealt.crew_is helped

      pub room_dealt : length (hands_in meaning stands host news) + 1 ≤ room
      room_dealt =
          let many = many_in meaning stands host dealt.rest news rest_helped in
          let enough = dealt.enough in
          let whole : length hands ≡ length (first ∷ dealt.rest) = ap length dealt.hands_are in
          omega (arith, many, enough, whole)

      pub many_dealt : (hand : Hand) → length (hands_in meaning stands host news ++ hand ∷ []) ≡ host.desk.lanes
      many_dealt hand =
          let back = back_many meaning stands host hand dealt.rest news rest_helped in
          let whole : length hands ≡ length (first ∷ dealt.rest) = ap length dealt.hands_are in
          let lanes = some_hands hands new in
          let same : length (hand ∷ dealt.rest) ≡ length (first ∷ dealt.rest) = refl in
          back ∙ same ∙ sym whole ∙ lanes

      pub back_dealt : (hand : Hand) → Of hand → All Of (hands_in meaning stands host news ++ hand ∷ [])
      back_dealt hand is = back_are meaning stands host hand crew news is helped

      pub free_dealt : (hand : Hand) → hand.run ≡ None
          → All (λ (hand : Hand). hand.run ≡ None) (hands_in meaning stands host news ++ hand ∷ [])
      free_dealt hand is = back_free meaning stands host hand crew news is helped

      -- ---- the host is closed

      module _ (told : Result (Unit {0}) FeedStop) (asked : List Item) (before after : Option (List ℕ))
          {core : CoreView R Site} {hand : Hand} {early : Option FeedStop} (is : core ≡ core_at host core.journal)
          (account : IsValidJournal (rules_of meaning core) (past_of core))
          (answered : IsAnswered (rules_of meaning core) (past_of core))
          (fits : All (λ (hand : Hand). LaneFits lane_in core.journal hand.lane)
          (hands_in meaning stands host news ++ hand ∷ []))
          (below : AreOfLanes lane_in host.desk.lanes core.journal)
          (early_is : early ≡ first_stop (map (λ (worker : Worker). worker.made) news))
          (lead : IsLead meaning stands host hand)
          (leaves : IsBorneOut (rules_at meaning host) (past_in hand)
          → LeavesBy told (rules_at meaning host) asked (past_in hand) before after) where
        abbrev m : Rules
        m = rules_of meaning core

        abbrev past : List Entry
        past = past_of core

        same : m ≡ rules_at meaning host
        same = ap (rules_of meaning) is

        closed : LeavesBy told m asked past before after
        closed = closed_leaves meaning stands host core.journal hand crew news host.desk.lanes fits (many_dealt hand)
            below fresh_dealt helped m asked told before after answered account.entries lead
            (subst (λ (rules : Rules). IsBorneOut rules (past_in hand) → LeavesBy told rules asked (past_in hand) before after)
            (sym same) leaves)

        met : IfSome early (IsEarly host.desk.lanes m past)
        met = subst (λ (some : Option FeedStop). IfSome some (IsEarly host.desk.lanes m past)) (sym early_is)
            (subst (λ (rules : Rules). IfSome (first_stop (map (λ (worker : Worker). worker.made) news))
            (IsEarly host.desk.lanes rules past)) (sym same)
            (early_met meaning stands host core.journal hand crew news host.desk.lanes fits (many_dealt hand)
            fresh_dealt helped))

        pub ok_dealt : (result : Result (CoreView R Site) FeedStop) → IfOk result (λ back. back ≡ core)
            → OnOk result ((items : List Item) (before after : Option (List ℕ)) → LeavesBy told m items past before after
            → HasFedBeside m items past before after)
            → IfOk result (λ back. HasFedBeside (rules_at meaning host) asked (past_of back) before after)
        ok_dealt result same_core more =
            ok_back result core (λ back. HasFedBeside (rules_at meaning host) asked (past_of back) before after) same_core
            (ok_then result ((items : List Item) (before after : Option (List ℕ)) → LeavesBy told m items past before after
            → HasFedBeside m items past before after) (HasFedBeside (rules_at meaning host) asked past before after)
            (λ some. subst (λ (rules : Rules). HasFedBeside rules asked past before after) same
            (some asked before after closed)) more)

        pub err_dealt : (result : Result (CoreView R Site) FeedStop) → IfErr result (λ stop. (workers : ℕ) (items : List Item)
            (before after : Option (List ℕ)) → LeavesBy told m items past before after
            → IfSome early (IsEarly workers m past) → HasFedPartBeside workers m items past stop before after)
            → IfErr result (λ stop. HasNotBegun stop before after ⊎ ((past : List Entry)
            × HasFedPartBeside host.desk.lanes (rules_at meaning host) asked past stop before after))
        err_dealt result more =
            err_then result (λ stop. (workers : ℕ) (items : List Item) (before after : Option (List ℕ))
            → LeavesBy told m items past before after → IfSome early (IsEarly workers m past)
            → HasFedPartBeside workers m items past stop before after)
            (λ stop. HasNotBegun stop before after ⊎ ((past : List Entry)
            × HasFedPartBeside host.desk.lanes (rules_at meaning host) asked past stop before after))
            (λ ended some. inr (
              past,
              subst (λ (rules : Rules). HasFedPartBeside host.desk.lanes rules asked past ended before after)
                  same (some host.desk.lanes asked before after closed met),
            )) more

        pub core_dealt : (result : Result (CoreView R Site) FeedStop) → IfOk result (λ back. back ≡ core)
            → IfOk result (IsCoreOf host.runner host.site host.setting)
        core_dealt result same_core =
            ok_back result core (IsCoreOf host.runner host.site host.setting) same_core
            (on_ok result (IsCoreOf host.runner host.site host.setting core) (record {
              runner_is = ap (λ (core : CoreView R Site). core.runner) is;
              site_is = ap (λ (core : CoreView R Site). core.site) is;
              setting_is = ap (λ (core : CoreView R Site). core.setting) is;
            }))

        pub lanes_dealt : (result : Result (CoreView R Site) FeedStop) → IfOk result (λ back. back ≡ core)
            → IfOk result (λ back. AreOfLanes lane_in host.desk.lanes back.journal)
        lanes_dealt result same_core =
            ok_back result core (λ back. AreOfLanes lane_in host.desk.lanes back.journal) same_core
            (on_ok result (AreOfLanes lane_in host.desk.lanes core.journal) below)
