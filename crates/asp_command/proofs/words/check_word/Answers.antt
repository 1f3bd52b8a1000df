use Rattle.std.proofs.Common.{arith, rules}
use Rattle.asp_command.proofs.Lists.{two_items}
use Rattle.asp_command.proofs.words.check_word.Goals as goal

pub returns-in-len2 : goal.returns-in-len2
returns-in-len2 c =
    let items = two_items c.args.words.now c.check-item.result c.site-item.result (omega arith) c.check-item.is
    c.site-item.is in
    rw items (search rules)
