use Rattle.std.proofs.Common.{arith, rules}
use Rattle.asp_command.proofs.Lists.{three_items}
use Rattle.asp_command.proofs.words.get_words.Goals as goal

pub returns-in-len3 : goal.returns-in-len3
returns-in-len3 c =
    let items = three_items c.args.words.now c.get-item.result c.site-item.result c.target-item.result (omega arith)
    c.get-item.is c.site-item.is c.target-item.is in
    rw items (search rules)
