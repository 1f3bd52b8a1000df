use Rattle.std.proofs.Common.{◌≡◌, arith, false}
use Rattle.std.proofs.lemmas.Grind.{common_steps}
use Rattle.asp_job.specs.Runs.{is_halted}
use Rattle.asp_core.specs.Book.{past_in}
use Rattle.asp_core.specs.Kernel.{rules_by}
use Rattle.asp_core.proofs.Halting.{halt_roomy, sound_halt}
use Rattle.asp_core.proofs.hands.Core+R.halt.Goals as goal

pub push-requires-clause-room : goal.push-requires-clause-room
push-requires-clause-room g c =
    let book = c.self.inside.kept.book in
    let going : is_halted (past_in book) ≡ false = grind (arith, common_steps) in
    halt_roomy book c.args.lane going

pub invariant_of-self : goal.invariant_of-self
invariant_of-self g c =
    let core = c.self.inside.kept in
    let house = c.self.inside.house in
    let m = rules_by (g.R.Runner.meaning house.runner.value house.site.value) house.setting in
    let going : is_halted (past_in core.book) ≡ false = grind (arith, common_steps) in
    sound_halt m core.book c.push.new.self core.sessions.account core.application core.start_fail c.args.lane
    c.self.invariant going c.push.ensures.adds
