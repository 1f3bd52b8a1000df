use Rattle.std.proofs.Common.{◌≡◌, ◌==◌, ℕ, Some, ap, sym, ◌∙◌, arith}
use Rattle.std.specs.List.{position}
use Rattle.std.proofs.lemmas.Grind.{common_steps}
use Rattle.asp_job.specs.declared.answer.Answer.{Answer}
use Rattle.asp_core.proofs.Handing.{place_some}
use Rattle.asp_core.proofs.takes.take_answer.Goals as goal

pub returns-clause-answer : goal.returns-clause-answer
returns-clause-answer c =
    let answers = c.args.answers.now.items in
    let at : position (λ (ready : ℕ × Answer). c.args.run == ready.0) answers ≡ Some c.in-Some.at =
    grind (arith, common_steps) in
    (place_some c.args.run answers c.in-Some.at c.remove.result at).1
    ∙ ap (λ (ready : ℕ × Answer). Some ready.1) (sym c.remove.ensures.value)

pub returns-clause-items : goal.returns-clause-items
returns-clause-items c =
    let answers = c.args.answers.now.items in
    let at : position (λ (ready : ℕ × Answer). c.args.run == ready.0) answers ≡ Some c.in-Some.at =
    grind (arith, common_steps) in
    c.remove.ensures.items ∙ sym (place_some c.args.run answers c.in-Some.at c.remove.result at).2
