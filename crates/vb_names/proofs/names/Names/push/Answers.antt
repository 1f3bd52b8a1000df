use Rattle.std.proofs.Common.{rules}
use Rattle.vb_names.proofs.Numbering.{numbered_put}
use Rattle.vb_names.proofs.names.Names.push.Goals as goal

pub invariant_of-self-in-Ok : goal.invariant_of-self-in-Ok
invariant_of-self-in-Ok c = numbered_put c.put_first.result c.self.inside.numbers c.put_first.new.numbers
    c.self.inside.written c.push.new.self c.args.name c.hash.result c.in_ok-number.number c.in-Ok.field-0
    c.self.invariant (search rules) (search rules) (search rules) (search rules) (search rules)
    c.put_first.ensures.absent c.put_first.ensures.added c.put_first.ensures.there c.put_first.ensures.kept
