use Rattle.std.proofs.Common.{rules, sym, ap, is_some}
use Rattle.vb_names.proofs.Numbering.{numbered_new, numbered_again, absent_name, added_name}
use Rattle.vb_names.proofs.names.Names.add.Goals as goal

pub invariant_of-self-in-None : goal.invariant_of-self-in-None
invariant_of-self-in-None c = numbered_new c.self.inside.numbers c.put_name.new.numbers
    c.self.inside.written c.put_name.new.names c.args.name.now c.hash.result c.in_ok-number.number
    c.self.invariant (search rules) (search rules) (search rules) (search rules) (search rules) (search rules)

pub invariant_of-self-in-Some : goal.invariant_of-self-in-Some
invariant_of-self-in-Some c = numbered_again c.self.inside.numbers c.put_name.new.numbers
    c.self.inside.written c.push.new.self c.args.name.now c.hash.result
    c.self.invariant (search rules) (search rules) (search rules) (search rules) (search rules)

pub returns-in-None-clause-was : goal.returns-in-None-clause-was
returns-in-None-clause-was c = sym (ap is_some (absent_name c.self.inside.numbers c.self.inside.written c.args.self.now
    c.args.name.now c.hash.result c.self.invariant (search rules) (search rules) (search rules)))

pub returns-in-None-clause-added : goal.returns-in-None-clause-added
returns-in-None-clause-added c = added_name c.args.self.now c.put_name.new.names c.args.name.now (search rules)
    (absent_name c.self.inside.numbers c.self.inside.written c.args.self.now c.args.name.now c.hash.result
    c.self.invariant (search rules) (search rules) (search rules))
