use Rattle.std.proofs.Common.{ℕ, ◌+◌, ap, ◌∙◌}
use Rattle.std.proofs.lemmas.List.{take_rest}
use Rattle.vb_lex.specs.declared.place.Place.{Place}
use Rattle.vb_value.proofs.LineEnds.{line_moves}
use Rattle.vb_lex.proofs.place.moved.Goals as goal

pub returns : goal.returns
returns c =
    let counted = simp take_rest at c.line_ends.ensures.value in
    let line = line_moves c.args.text.now c.args.place.at c.args.taken c.args.place.line c.requires.line in
    let at_line : ℕ → Place = λ n. record { at = c.args.place.at + c.args.taken; behind = c.args.behind; line = n } in
    ap at_line (ap (λ n. c.args.place.line + n) counted ∙ line)
