use Rattle.std.proofs.Common.{◌≡◌, ◌++◌, take}
use Rattle.std.specs.List.{flat_map}
use Rattle.asp_record.specs.Lines.{hex_byte}
use Rattle.asp_record.proofs.fields.push_hex.Given as goal

abbrev pub invariant-loop-byte : goal.invariant-loop-byte
invariant-loop-byte l = l.bytes ≡ l.initial.bytes ++ flat_map hex_byte (take l.byte-index l.more)
