use Rattle.std.proofs.Common.{◌∙◌, decimal, w32, to_z, of_z}
use Rattle.std.proofs.lemmas.Int.{to_z-of_z}
use Rattle.asp_summary.proofs.Texts.{four_lines}
use Rattle.asp_summary.proofs.text.lines_of.Goals as goal

pub returns : goal.returns
returns c =
    let total = c.args.total in
    let written = to_z w32 (of_z w32 total) in
    let same = to_z-of_z w32 total c.ranges.total in
    c.in_ok-format.ensures.ok
    ∙ four_lines (decimal c.args.requests) (decimal c.args.answers) (decimal c.args.sessions) written total same
