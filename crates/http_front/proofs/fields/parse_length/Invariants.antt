use Rattle.std.proofs.Common.{◌≡◌, true, take}
use Rattle.std.specs.List.{list_all}
use Rattle.std.specs.Char.{is_ascii_digit}
use Rattle.http_front.specs.Fields.{capped_number}
use Rattle.http_front.proofs.fields.parse_length.Given as goal

abbrev pub invariant-loop-b : goal.invariant-loop-b
invariant-loop-b l = record {
  number : l.n ≡ capped_number (take l.b-index l.value);
  digits : list_all is_ascii_digit (take l.b-index l.value) ≡ true;
}
