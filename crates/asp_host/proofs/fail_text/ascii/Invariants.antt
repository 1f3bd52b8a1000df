use Rattle.std.proofs.Common.{◌≡◌, take}
use Rattle.asp_host.proofs.fail_text.ascii.Given as goal

abbrev pub invariant-loop-byte : goal.invariant-loop-byte
invariant-loop-byte l = l.text ≡ take l.byte-index l.bytes
