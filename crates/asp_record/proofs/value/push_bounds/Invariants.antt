use Rattle.std.proofs.Common.{◌≡◌, ◌++◌, true, ltb, map, take}
use Rattle.std.specs.Fmt.{signed_decimal}
use Rattle.std.specs.List.{list_all}
use Rattle.asp_record.specs.Journal.{is_long}
use Rattle.asp_record.specs.Lines.{with_commas}
use Rattle.asp_record.proofs.value.push_bounds.Given as goal

abbrev pub invariant-loop-bound : goal.invariant-loop-bound
invariant-loop-bound l = (l.more ≡ ltb 0 l.bound-index)
    × (l.bytes ≡ l.initial.bytes ++ with_commas (map signed_decimal (take l.bound-index l.bounds)))
    × (list_all is_long (take l.bound-index l.bounds) ≡ true)
