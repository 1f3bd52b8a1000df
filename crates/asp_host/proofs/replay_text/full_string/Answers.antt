use Rattle.std.proofs.Common.{◌++◌, codes, decimal, sym, ◌∙◌, append_assoc}
use Rattle.asp_host.proofs.replay_text.full_string.Goals as goal

pub returns : goal.returns
returns c =
    let first = codes "journal full: " in
    let entries = decimal c.args.full.entries in
    let middle = codes " entries, " in
    let weight = decimal c.args.full.weight in
    let last = codes " bytes" in
    c.in_ok-format.ensures.ok ∙ sym (append_assoc (first ++ entries ++ middle) weight last
    ∙ (append_assoc (first ++ entries) middle (weight ++ last)
    ∙ append_assoc first entries (middle ++ (weight ++ last))))
