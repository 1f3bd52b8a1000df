use Rattle.std.proofs.Common.{◌≡◌, ◌++◌, true, ltb, map, take}
use Rattle.std.specs.List.{list_all}
use lib.Utf8.{scalars}
use Rattle.asp_record.specs.Lines.{with_commas}
use Rattle.asp_record.specs.Values.{text_form}
use Rattle.asp_record.proofs.value.push_names.Given as goal

abbrev pub invariant-loop-name : goal.invariant-loop-name
invariant-loop-name l = (l.more ≡ ltb 0 l.name-index)
    × (l.bytes ≡ l.initial.bytes ++ with_commas (map text_form (take l.name-index l.names)))
    × (list_all scalars (take l.name-index l.names) ≡ true)
