use Rattle.std.proofs.Common.{◌≡◌, map, take}
use Rattle.httparse.specs.Spans.{header_bytes}
use Rattle.http_front.specs.Request.{header_parts}
use Rattle.http_front.proofs.request.copy_headers.Given as goal

abbrev pub invariant-loop-span : goal.invariant-loop-span
invariant-loop-span l = map header_parts l.headers ≡ map (header_bytes l.buf) (take l.span-index l.spans)
