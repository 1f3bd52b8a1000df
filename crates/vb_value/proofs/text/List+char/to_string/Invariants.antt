use Rattle.std.proofs.Common.{◌≡◌, take, encode_utf8_all}
use Rattle.std.specs.String.{string_bytes}
use Rattle.vb_value.proofs.text.List+char.to_string.Given as goal

abbrev pub invariant-loop-character : goal.invariant-loop-character
invariant-loop-character l = string_bytes l.string ≡ encode_utf8_all (take l.character-index l.self)
