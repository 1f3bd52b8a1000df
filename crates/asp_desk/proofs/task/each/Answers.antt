use Rattle.std.proofs.Common.{rules, arith}
use Rattle.asp_desk.proofs.Zipping.{zipped}
use Rattle.asp_desk.proofs.task.each.Goals as goal

pub returns : goal.returns
returns g c = zipped (g.K.Task.does c.args.task.now c.args.shared.now) c.args.workers.now c.for_each_mut.new.s
    (search rules)
    (λ k d low. let change = (c.for_each_mut.ensures k d low).1 in grind arith)
