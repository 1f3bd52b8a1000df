use Rattle.std.proofs.Common.{◌≡◌, map, take}
use Rattle.httparse.specs.Spans.{header_bytes}
use Rattle.http_front.specs.Fields.{fields_of}
use Rattle.http_front.proofs.fields.Fields.from_spans.Given as goal

abbrev pub invariant-loop-header : goal.invariant-loop-header
invariant-loop-header l = l.fields ≡ fields_of (map (header_bytes l.buf) (take l.header-index l.headers))
