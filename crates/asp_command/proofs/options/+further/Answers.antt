use Rattle.std.proofs.Common.{rules, map}
use Rattle.std.specs.String.{string_bytes}
use Rattle.asp_command.proofs.OptionWords.{behind_first, no_option, said_again, some_mapped}
use Rattle.asp_command.proofs.options.+further.Goals as goal

pub returns-in_err-said : goal.returns-in_err-said
returns-in_err-said t c =
    rw c.from_residual.ensures (no_option c.args.before (map string_bytes c.args.words.now)
    (some_mapped string_bytes c.args.words.now (search rules)) c.in_err-said.ensures)

pub returns-then-has : goal.returns-then-has
returns-then-has t c =
    said_again c.args.before _ _ c.in_ok-said.said c.in_ok-said.ensures (cc c.if-has.ensures)

pub returns : goal.returns
returns t c =
    behind_first c.args.before _ _ c.in_ok-said.said c.further.result c.in_ok-said.ensures
    (cc c.if-has.ensures) (rw c.with.ensures at c.further.ensures)
