use Rattle.std.proofs.Common.{◌≡◌, take}
use Rattle.std.specs.Prelude.{string_bytes}
use Rattle.asp_text.specs.Url.{url_bytes}
use Rattle.asp_text.proofs.url.url_string.Given as goal

abbrev pub invariant-loop-byte : goal.invariant-loop-byte
invariant-loop-byte l = string_bytes l.encoded ≡ url_bytes (take l.byte-index l.bytes)
