use Rattle.std.proofs.Common.{◌≡◌, ◌∷◌, ◌∙◌, ◌++◌, [], All, None, ap, arith, inl, inr, length, map, subst, sym}
use Rattle.turn_desk.specs.Shown.{LaneFits}
use Rattle.asp_desk.specs.Hands.{IsHandOf}
use Rattle.asp_replay.proofs.Endings.{first_no_fault}
use Rattle.asp_replay.proofs.Gathering.{back_dealt, core_dealt, err_dealt, free_dealt, idle_dealt, lanes_dealt, lead_dealt}
use Rattle.asp_replay.proofs.Gathering.{many_dealt, ok_dealt, room_dealt, seen_dealt, some_hands}
use Rattle.asp_replay.proofs.Others.{lane_in}
use Rattle.asp_replay.specs.Workers.{first_stop}
use Rattle.asp_replay.proofs.lanes.feed_hands.Goals as goal

pub dealt-requires : goal.dealt-requires
dealt-requires g c =
    let many = some_hands g.R.Runner.meaning g.R.Runner.stands c.args.host c.into_vec.result.items
    (c.into_vec.ensures ∙ c.requires.new) in
    let some = c.requires.some in
    omega (arith, many, some)

pub feed_crew-told-requires-clause-lead : goal.feed_crew-told-requires-clause-lead
feed_crew-told-requires-clause-lead g c bounds lives =
    lead_dealt g.R.Runner.meaning g.R.Runner.stands c.args.host (c.into_vec.ensures ∙ c.requires.new)
    (subst (All (IsHandOf g.R.Runner.meaning g.R.Runner.stands c.args.host)) (sym c.into_vec.ensures) c.requires.hands)
    c.in_ok-hand.ensures

pub feed_crew-told-requires-clause-new : goal.feed_crew-told-requires-clause-new
feed_crew-told-requires-clause-new g c bounds lives =
    seen_dealt g.R.Runner.meaning g.R.Runner.stands c.args.host (c.into_vec.ensures ∙ c.requires.new)
    (subst (All (IsHandOf g.R.Runner.meaning g.R.Runner.stands c.args.host)) (sym c.into_vec.ensures) c.requires.hands)
    c.in_ok-hand.ensures

pub feed_crew-told-requires-clause-crew : goal.feed_crew-told-requires-clause-crew
feed_crew-told-requires-clause-crew g c bounds lives =
    idle_dealt g.R.Runner.meaning g.R.Runner.stands c.args.host (c.into_vec.ensures ∙ c.requires.new)
    (subst (All (IsHandOf g.R.Runner.meaning g.R.Runner.stands c.args.host)) (sym c.into_vec.ensures) c.requires.hands)
    c.in_ok-hand.ensures

pub gathered-requires : goal.gathered-requires
gathered-requires g c =
    let dealt = c.in_ok-hand.ensures in
    let enough = room_dealt g.R.Runner.meaning g.R.Runner.stands c.args.host (c.into_vec.ensures ∙ c.requires.new)
    (subst (All (IsHandOf g.R.Runner.meaning g.R.Runner.stands c.args.host)) (sym c.into_vec.ensures) c.requires.hands)
    dealt c.feed_crew-told.new.crew c.feed_crew-told.ensures.crew in
    let many = ap length (c.into_vec-2.ensures ∙ c.part-rest.ensures.0) in
    (dealt.none, omega (arith, enough, many))

pub close-requires : goal.close-requires
close-requires g c =
    let hand = c.settle-told.new.hand in
    let same = c.from_vec.ensures ∙ c.gathered.ensures
    ∙ ap (λ rest. rest ++ hand ∷ []) (c.into_vec-2.ensures ∙ c.part-rest.ensures.0) in
    subst (All (IsHandOf g.R.Runner.meaning g.R.Runner.stands c.args.host)) (sym same)
    (back_dealt g.R.Runner.meaning g.R.Runner.stands c.args.host (c.into_vec.ensures ∙ c.requires.new)
    (subst (All (IsHandOf g.R.Runner.meaning g.R.Runner.stands c.args.host)) (sym c.into_vec.ensures) c.requires.hands)
    c.in_ok-hand.ensures c.feed_crew-told.new.crew c.feed_crew-told.ensures.crew hand c.settle-told.ensures.lead.hand_of)

pub unreachable-requires : goal.unreachable-requires
unreachable-requires g c =
    let hand = c.settle-told.new.hand in
    let same = c.from_vec.ensures ∙ c.gathered.ensures
    ∙ ap (λ rest. rest ++ hand ∷ []) (c.into_vec-2.ensures ∙ c.part-rest.ensures.0) in
    let of = subst (All (IsHandOf g.R.Runner.meaning g.R.Runner.stands c.args.host)) (sym c.into_vec.ensures)
    c.requires.hands in
    let new = c.into_vec.ensures ∙ c.requires.new in
    c.in-Err.ensures.missing (ap length same ∙ many_dealt g.R.Runner.meaning g.R.Runner.stands c.args.host new of
    c.in_ok-hand.ensures c.feed_crew-told.new.crew c.feed_crew-told.ensures.crew hand)
    (subst (All (λ hand. hand.run ≡ None)) (sym same) (free_dealt g.R.Runner.meaning g.R.Runner.stands c.args.host new of
    c.in_ok-hand.ensures c.feed_crew-told.new.crew c.feed_crew-told.ensures.crew hand
    (c.settle-told.ensures.run ∙ c.feed_crew-told.ensures.led.free)))

pub ended-requires-clause-account : goal.ended-requires-clause-account
ended-requires-clause-account g c = c.journal.ensures.valid

pub ended-requires-clause-answered : goal.ended-requires-clause-answered
ended-requires-clause-answered g c = c.journal.ensures.answered

pub ended-requires-clause-none_left : goal.ended-requires-clause-none_left
ended-requires-clause-none_left g c = c.in-Ok.ensures.ended

pub returns-clause-core : goal.returns-clause-core
returns-clause-core g c =
    let meaning = g.R.Runner.meaning in
    let stands = g.R.Runner.stands in
    let host = c.args.host in
    let crew = c.feed_crew-told.new.crew in
    let hand = c.settle-told.new.hand in
    let same = c.from_vec.ensures ∙ c.gathered.ensures
    ∙ ap (λ rest. rest ++ hand ∷ []) (c.into_vec-2.ensures ∙ c.part-rest.ensures.0) in
    let of = subst (All (IsHandOf meaning stands host)) (sym c.into_vec.ensures) c.requires.hands in
    let new = c.into_vec.ensures ∙ c.requires.new in
    let fits = subst (All (λ hand. LaneFits lane_in c.in-Ok.core.journal hand.lane)) same c.in-Ok.ensures.fits in
    let early_is = c.first_stop-early.ensures ∙ ap first_stop (c.as_slice.ensures ∙ c.part-rest.ensures.1) in
    let before = g.K.Sink.held c.args.sink.now in
    let after = g.K.Sink.held c.feed_crew-told.new.sink in
    let leaves = c.settle-told.ensures.leaves c.args.recording.now.items before after in
    core_dealt meaning stands host new of c.in_ok-hand.ensures crew c.feed_crew-told.ensures.crew c.settle-told.result
    c.args.recording.now.items before after c.in-Ok.ensures.core c.journal.ensures.valid c.journal.ensures.answered fits
    c.in-Ok.ensures.of_lanes early_is c.settle-told.ensures.lead
    (λ borne. leaves borne c.feed_crew-told.ensures.led.leaves) c.ended.result c.ended.ensures.core

pub returns-clause-lanes : goal.returns-clause-lanes
returns-clause-lanes g c =
    let meaning = g.R.Runner.meaning in
    let stands = g.R.Runner.stands in
    let host = c.args.host in
    let crew = c.feed_crew-told.new.crew in
    let hand = c.settle-told.new.hand in
    let same = c.from_vec.ensures ∙ c.gathered.ensures
    ∙ ap (λ rest. rest ++ hand ∷ []) (c.into_vec-2.ensures ∙ c.part-rest.ensures.0) in
    let of = subst (All (IsHandOf meaning stands host)) (sym c.into_vec.ensures) c.requires.hands in
    let new = c.into_vec.ensures ∙ c.requires.new in
    let fits = subst (All (λ hand. LaneFits lane_in c.in-Ok.core.journal hand.lane)) same c.in-Ok.ensures.fits in
    let early_is = c.first_stop-early.ensures ∙ ap first_stop (c.as_slice.ensures ∙ c.part-rest.ensures.1) in
    let before = g.K.Sink.held c.args.sink.now in
    let after = g.K.Sink.held c.feed_crew-told.new.sink in
    let leaves = c.settle-told.ensures.leaves c.args.recording.now.items before after in
    lanes_dealt meaning stands host new of c.in_ok-hand.ensures crew c.feed_crew-told.ensures.crew c.settle-told.result
    c.args.recording.now.items before after c.in-Ok.ensures.core c.journal.ensures.valid c.journal.ensures.answered fits
    c.in-Ok.ensures.of_lanes early_is c.settle-told.ensures.lead
    (λ borne. leaves borne c.feed_crew-told.ensures.led.leaves) c.ended.result c.ended.ensures.core

pub returns-clause-ok : goal.returns-clause-ok
returns-clause-ok g c =
    let meaning = g.R.Runner.meaning in
    let stands = g.R.Runner.stands in
    let host = c.args.host in
    let crew = c.feed_crew-told.new.crew in
    let hand = c.settle-told.new.hand in
    let same = c.from_vec.ensures ∙ c.gathered.ensures
    ∙ ap (λ rest. rest ++ hand ∷ []) (c.into_vec-2.ensures ∙ c.part-rest.ensures.0) in
    let of = subst (All (IsHandOf meaning stands host)) (sym c.into_vec.ensures) c.requires.hands in
    let new = c.into_vec.ensures ∙ c.requires.new in
    let fits = subst (All (λ hand. LaneFits lane_in c.in-Ok.core.journal hand.lane)) same c.in-Ok.ensures.fits in
    let early_is = c.first_stop-early.ensures ∙ ap first_stop (c.as_slice.ensures ∙ c.part-rest.ensures.1) in
    let before = g.K.Sink.held c.args.sink.now in
    let after = g.K.Sink.held c.feed_crew-told.new.sink in
    let leaves = c.settle-told.ensures.leaves c.args.recording.now.items before after in
    ok_dealt meaning stands host new of c.in_ok-hand.ensures crew c.feed_crew-told.ensures.crew c.settle-told.result
    c.args.recording.now.items before after c.in-Ok.ensures.core c.journal.ensures.valid c.journal.ensures.answered fits
    c.in-Ok.ensures.of_lanes early_is c.settle-told.ensures.lead
    (λ borne. leaves borne c.feed_crew-told.ensures.led.leaves) c.ended.result c.ended.ensures.core c.ended.ensures.ok

pub returns-clause-err : goal.returns-clause-err
returns-clause-err g c =
    let meaning = g.R.Runner.meaning in
    let stands = g.R.Runner.stands in
    let host = c.args.host in
    let crew = c.feed_crew-told.new.crew in
    let hand = c.settle-told.new.hand in
    let same = c.from_vec.ensures ∙ c.gathered.ensures
    ∙ ap (λ rest. rest ++ hand ∷ []) (c.into_vec-2.ensures ∙ c.part-rest.ensures.0) in
    let of = subst (All (IsHandOf meaning stands host)) (sym c.into_vec.ensures) c.requires.hands in
    let new = c.into_vec.ensures ∙ c.requires.new in
    let fits = subst (All (λ hand. LaneFits lane_in c.in-Ok.core.journal hand.lane)) same c.in-Ok.ensures.fits in
    let early_is = c.first_stop-early.ensures ∙ ap first_stop (c.as_slice.ensures ∙ c.part-rest.ensures.1) in
    let before = g.K.Sink.held c.args.sink.now in
    let after = g.K.Sink.held c.feed_crew-told.new.sink in
    let leaves = c.settle-told.ensures.leaves c.args.recording.now.items before after in
    err_dealt meaning stands host new of c.in_ok-hand.ensures crew c.feed_crew-told.ensures.crew c.settle-told.result
    c.args.recording.now.items before after c.in-Ok.ensures.core c.journal.ensures.valid c.journal.ensures.answered fits
    c.in-Ok.ensures.of_lanes early_is c.settle-told.ensures.lead
    (λ borne. leaves borne c.feed_crew-told.ensures.led.leaves) c.ended.result c.ended.ensures.err

pub returns-clause-cause : goal.returns-clause-cause
returns-clause-cause g c =
    let early_is = c.first_stop-early.ensures ∙ ap first_stop (c.as_slice.ensures ∙ c.part-rest.ensures.1) in
    let made = map (λ worker. worker.made) c.feed_crew-told.new.crew in
    record {
      later = c.feed_crew-told.ensures.cause.later;
      within = c.feed_crew-told.ensures.cause.within;
      failed = λ is. elim (c.ended.ensures.fault is) [
        | inl told ↦ c.feed_crew-told.ensures.cause.failed (c.settle-told.ensures.fault told)
        | inr early ↦ absurd (first_no_fault made (sym early_is ∙ early))
      ];
    }
