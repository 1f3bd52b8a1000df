use Rattle.std.proofs.Common.{◌≡◌, ◌++◌, take}
use Rattle.std.specs.Prelude.{map}
use Rattle.std.specs.List.{flat_map}
use Rattle.asp_response.specs.AnswerText.{line, field_of}
use Rattle.asp_response.proofs.bytes.push_headers.Given as goal

abbrev pub invariant-loop-header : goal.invariant-loop-header
invariant-loop-header l = l.bytes ≡ l.initial.bytes ++ flat_map line (map field_of (take l.header-index l.headers))
