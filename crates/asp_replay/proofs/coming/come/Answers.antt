use Rattle.std.proofs.Common.{◌≡◌, Err, ap, refl, subst, sym}
use Rattle.asp_journal.specs.declared.full.Full.{Full}
use Rattle.asp_core.specs.declared.stop.EventStop.{EventStop}
use Rattle.asp_core.specs.declared.stop.EventStop.TheVariants as event
use Rattle.asp_core.specs.Kernel.{past_of, rules_of}
use Rattle.asp_replay.specs.declared.stop.FeedStop.TheVariants as stop
use Rattle.asp_replay.specs.Underway as way
use Rattle.asp_replay.proofs.coming.come.Goals as goal

event_full : (ended : EventStop) (full : Full) → way.event_stop ended ≡ stop.JournalFull full
    → ended ≡ event.JournalFull full
event_full (event.JournalFull most) full e = cc
event_full event.Memory full e = absurd cc

pub returns-in-Err-clause-full : goal.returns-in-Err-clause-full
returns-in-Err-clause-full g c full e =
    let told : way.event_stop c.in-Err.stop ≡ stop.JournalFull full = cc (c.from.ensures, e) in
    let much = c.in-Err.ensures.full full (ap Err (event_full c.in-Err.stop full told)) in
    let rules = rules_of g.R.Runner.meaning c.args.core.now in
    let past = past_of c.args.core.now in
    let clients = c.args.clients.now.entries in
    subst (λ item. way.IsItemTooMuch rules past clients item full) (sym c.in-Tick.is) (
      _,
      clients,
      (
        refl,
        refl,
      ),
      much,
    )
