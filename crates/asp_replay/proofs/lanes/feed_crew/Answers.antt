use Rattle.std.proofs.Common.{◌≡◌, Err, ap, arith, reverse, subst}
use Rattle.asp_desk.specs.Hands.{rules_at}
use Rattle.asp_replay.specs.Near.{HasWorked, Starts, past_in}
use Rattle.asp_replay.proofs.Closing.{idles_are, none_helped}
use Rattle.asp_replay.proofs.FirstPlace.{first_past}
use Rattle.asp_replay.proofs.LeftNear.{borne_silent, leaves_begun, near_begins}
use Rattle.asp_replay.proofs.lanes.feed_crew.Goals as goal

pub lead_crew-requires-clause-begun : goal.lead_crew-requires-clause-begun
lead_crew-requires-clause-begun g c bounds lives = λ before borne.
    let m = rules_at g.R.Runner.meaning c.args.host.now in
    let past = past_in c.begin_near.new.hand in
    let starts = c.in-Ok.ensures.starts borne in
    let first : past_in c.args.hand.now ≡ first_past = ap reverse c.requires.new in
    near_begins m c.args.recording.now.items past before c.requires.sound.items
    (subst (λ old. HasWorked old past) first starts.0) c.begin_near.ensures.lead.hand_of.1.valid.entries borne.answered
    starts.1

pub lead_crew-requires-clause-crew : goal.lead_crew-requires-clause-crew
lead_crew-requires-clause-crew g c bounds lives =
    idles_are g.R.Runner.meaning g.R.Runner.stands c.args.host.now c.args.crew.now c.requires.crew

pub returns-in-Err-clause-led : goal.returns-in-Err-clause-led
returns-in-Err-clause-led g c = record {
  lead = c.leave_begun.ensures.lead;
  free = c.leave_begun.ensures.free;
  leaves = λ borne. (let m = rules_at g.R.Runner.meaning c.args.host.now in
      let old = past_in c.begin_near.new.hand in
      let new = past_in c.leave_begun.new.hand in
      let grows = c.leave_begun.ensures.silent borne in
      let starts = c.in-Err.ensures.starts (borne_silent m old new grows borne) in
      let first : past_in c.args.hand.now ≡ first_past = ap reverse c.requires.new in
      leaves_begun m c.args.recording.now.items old new c.in-Err.stop (g.K.Sink.held c.args.sink.now)
      c.requires.sound.items (subst (λ past. Starts (Err c.in-Err.stop) m past old) first starts) grows
      c.leave_begun.ensures.lead.hand_of.1.valid.entries c.leave_begun.ensures.halted);
}

pub returns-in-Err-clause-crew : goal.returns-in-Err-clause-crew
returns-in-Err-clause-crew g c =
    none_helped g.R.Runner.meaning g.R.Runner.stands c.args.host.now c.args.crew.now c.requires.crew

pub returns-in-Err-clause-cause : goal.returns-in-Err-clause-cause
returns-in-Err-clause-cause g c = record {
  later = omega arith;
  within = λ below. below;
  failed = λ e. absurd (c.in-Err.ensures.no_fault e);
}
