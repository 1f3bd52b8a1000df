use Rattle.std.proofs.Common.{refl, subst, sym}
use Rattle.asp_desk.specs.Hands.{rules_at}
use Rattle.asp_io.specs.Faults.{HasCause}
use Rattle.asp_replay.specs.declared.stop.FeedStop.TheVariants.{WriteFault}
use Rattle.asp_replay.specs.Near.{IsNear, past_in}
use Rattle.asp_replay.proofs.leading.LeadingLeadHand.lead.Goals as goal

pub returns : goal.returns
returns g c =
    let held = g.K.Sink.held c.args.self.now.sink.now in
    let items = c.args.self.now.recording.now.items in (
      refl,
      record {
        lead = c.leave.ensures.lead;
        free = c.leave.ensures.free;
        leaves = λ borne. (let there = c.leave.ensures.borne borne in
            let begun = c.requires.2 held (c.feed_near-fed.ensures.borne there) in
            c.leave.ensures.leaves items held (g.K.Sink.held c.feed_near-fed.new.sink) borne
            (c.feed_near-fed.ensures.near held there
            (subst (λ clients. IsNear (rules_at g.R.Runner.meaning c.args.self.now.host.now) items (past_in c.args.hand.now)
            clients items held held) (sym c.new-clients.ensures.empty) begun)));
      },
      subst (HasCause WriteFault (g.K.Sink.faults c.args.self.now.sink.now)
          (g.K.Sink.faults c.feed_near-fed.new.sink)) (sym c.leave.ensures.told) c.feed_near-fed.ensures.cause,
    )
