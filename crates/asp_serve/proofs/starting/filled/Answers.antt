use Rattle.std.proofs.Common.{◌≡◌, ◌∙◌, Some, ap, reverse, sym}
use Rattle.asp_core.specs.Start.{start_fail}
use Rattle.asp_desk.specs.declared.looking.Looked.{Looked}
use Rattle.asp_desk.specs.Calls.{Looks}
use Rattle.asp_desk.specs.Hands.{rules_at}
use Rattle.asp_serve.specs.declared.visits.Early.TheVariants as early
use Rattle.asp_serve.proofs.Visiting.{early_later, later_turn}
use Rattle.asp_serve.proofs.starting.filled.Goals as goal

pub returns-in-None-clause-stop : goal.returns-in-None-clause-stop
returns-in-None-clause-stop g c =
    let rules = rules_at g.R.Runner.meaning c.args.host.now in
    let a = c.args.hand.now.lane in
    let b = c.look.new.hand.lane in
    let turn = c.look.ensures.turn in
    let told : c.look.result.start_fail ≡ start_fail rules (reverse turn.before) =
    ap (λ (looked : Looked). looked.start_fail) turn.done.1 in
    let later = later_turn (Looks rules) a b c.look.result turn in
    record {
      past = reverse b.seen;
      account = c.look.ensures.hand.1.valid;
      started = ap (λ past. start_fail rules (reverse past)) turn.done.0 ∙ sym told ∙ c.in-None.is;
      much = early_later ⊥ rules a b (Some (early.JournalFull c.args.full)) later c.requires.was;
    }
