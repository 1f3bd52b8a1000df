use Rattle.std.specs.Prelude.{[], ◌∷◌, ◌++◌, codes}
use Rattle.asp_record.proofs.FieldLaws.{behind_is}
use Rattle.asp_record.proofs.Refusals.{no_rule}
use Rattle.asp_record.proofs.reading.rule_line.Goals as goal

pub returns-in-None : goal.returns-in-None
returns-in-None c = no_rule c.args.bytes.now c.in_default.ensures c.in-None.ensures

pub returns-in-Some-behind : goal.returns-in-Some-behind
returns-in-Some-behind c =
    behind_is (codes "lock strict" ++ 10 ∷ []) c.args.bytes.now c.in-Some-behind.rest.now c.in-Some-behind.ensures
